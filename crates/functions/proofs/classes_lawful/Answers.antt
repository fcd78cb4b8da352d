use Rattle.functions.proofs.Values.{value_under}
use Rattle.functions.proofs.Columns.{length_columns, column_at}
use Rattle.functions.proofs.Classes.{decides_among, place_below, get_or_place, place_first, has_classes, classes_differ, classes_rise, length_classes, class_below, get_or_class, first_below, under_first}
use Rattle.functions.proofs.classes_lawful.Goals as goal

pub returns : goal.returns
returns c = record {
  columns = record {
    length_columns = length_columns;
    column_at = column_at;
    value_under = value_under;
  };
  classes = record {
    decides_among = decides_among;
    place_below = place_below;
    get_or_place = get_or_place;
    place_first = place_first;
    has_classes = has_classes;
    classes_differ = classes_differ;
    classes_rise = classes_rise;
    length_classes = length_classes;
  };
  numbers = record {
    class_below = class_below;
    get_or_class = get_or_class;
    first_below = first_below;
    under_first = under_first;
  };
}
