use Rattle.functions.proofs.Values.{extensional, decides_same_fn, value_exchanged, one_arity, arity_exchanged, arity_under}
use Rattle.functions.proofs.Rows.{value_rows, value_tree, value_recoded, arity_rows, arity_tree, arity_recoded}
use Rattle.functions.proofs.Columns.{arity_columns}
use Rattle.functions.proofs.Classes.{arity_classes}
use Rattle.functions.proofs.Negation.{value_negated, negated_twice, arity_negated, columns_negated, classes_negated, class_of_negated, exchanged_negated, recoded_negated}
use Rattle.functions.proofs.functions_lawful.Goals as goal

pub returns : goal.returns
returns c = record {
  values = record {
    extensional = extensional;
    decides_same_fn = decides_same_fn;
    value_rows = value_rows;
    value_tree = value_tree;
    value_exchanged = value_exchanged;
    value_recoded = value_recoded;
  };
  arities = record {
    one_arity = one_arity;
    arity_rows = arity_rows;
    arity_tree = arity_tree;
    arity_exchanged = arity_exchanged;
    arity_recoded = arity_recoded;
    arity_under = arity_under;
    arity_columns = arity_columns;
    arity_classes = arity_classes;
  };
  negation = record {
    value_negated = value_negated;
    negated_twice = negated_twice;
    arity_negated = arity_negated;
    columns_negated = columns_negated;
    classes_negated = classes_negated;
    class_of_negated = class_of_negated;
    exchanged_negated = exchanged_negated;
    recoded_negated = recoded_negated;
  };
}
