use Rattle.std.proofs.Common.{◌/◌, ◌%◌, ◌^◌, false, nat_eq, ◌++◌, ◌∙◌, ap}
use Rattle.std.proofs.lemmas.List.FromFn.{fill_by_all}
use Rattle.std.proofs.lemmas.Result.{IfOk-at_ok}
use Rattle.intake.proofs.signals.Signals.of_inputs.Goals as goal

pub returns : goal.returns
returns c =
    let values = c.input_values.result in
    let filled = fill_by_all (λ k. nat_eq (c.args.inputs / 2 ^ k % 2) 1) values 16 false c.input_values.ensures.long c.input_values.ensures.each in
    IfOk-at_ok _ c.unwrap.ensures c.extend_from_slice.ensures.ok ∙ ap (λ xs. xs ++ values) c.new-values.ensures ∙ filled
