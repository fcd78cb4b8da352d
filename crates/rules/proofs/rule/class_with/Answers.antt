use Rattle.std.proofs.Common.{◌≡◌, arith, tests, rules}
use Rattle.std.proofs.lemmas.Iterator.{first_from_Range}
use Rattle.rules.proofs.Holders.{has_first}
use Rattle.rules.proofs.rule.class_with.Goals as goal

pub returns : goal.returns
returns g c =
    let code = g.R.CodeRule.code c.args.rule.now c.args.j in
    let q = c.args.q in
    has_first code q c.args.count c.find.result
    (first_from_Range _ _ _ _ (λ i. code i ≡ q) (λ i. code i ≡ q → ⊥) c.find.ensures.ran (λ x f k. grind (arith, tests)) (λ x f k. (search rules, grind (arith, tests))))
