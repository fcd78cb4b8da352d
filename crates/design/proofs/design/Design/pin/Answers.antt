use Rattle.std.proofs.Common.{not, sym, refl, ap, ◌∙◌}
use Rattle.std.proofs.lemmas.Bool.{cond-false}
use Rattle.functions.specs.Functions.{value}
use Rattle.intake.specs.Networks.{input_bits, yielded, last}
use Rattle.mapping.specs.declared.answer.Answer.TheVariants.{Shows}
use Rattle.mapping.specs.States.{values, yield, signals, left_value}
use Rattle.design.specs.Designs.{seen}
use Rattle.design.proofs.design.Design.pin.Goals as goal

pub returns : goal.returns
returns g c =
    let d = c.args.self.now in
    let s = seen g.C.Chart g.R.CodeRule g.F.CellFamily d in
    let vs = input_bits c.args.inputs in
    let all = signals vs s.cells in
    record {
      answers = record {
        says =
            ap (λ b. Shows (not b)) (c.left_bit.ensures ∙ ap (λ t. value s.left (values t s.live)) c.signals.ensures
            ∙ sym (cond-false s.closed (last (yielded yield vs s.cells)) (left_value s vs) c.if-self.false));
        leaves = refl;
      };
      refused = λ _. refl;
      rule = refl;
      family = refl;
      inputs = refl;
      fitting = λ k. (λ x. x, λ x. x);
    }
