use Rattle.std.proofs.Common.{◌≡◌, ℕ, ◌+◌, ◌*◌, ◌^◌, ◌<◌, ◌≤◌, Bool, true, false, List, [], ◌∷◌, ◌++◌, map, length, get_or, take, sym, refl, ap, ◌∙◌, arith, pow_mono}
use mir.Val.{bool_byte}
use Rattle.std.proofs.lemmas.List.{length-map, length-take-le, map_more}
use Rattle.families.specs.Tables.{assignment}
use Rattle.families.proofs.Assignments.{assignment-below, assignment-append}
use Rattle.intake.specs.Networks.{pin_value}
use Rattle.intake.proofs.signals.Signals.number_of.Goals as goal

-- the signals before a place, by their values
module _ (value : ℕ → Bool) (ps : List ℕ) (i n : ℕ) (h : i < length ps) (few : length ps ≤ 16) (is : n ≡ assignment (map value (take i ps))) where
  below : n < 2 ^ 16
  below =
      let long : length (map value (take i ps)) ≡ i = length-map (take i ps) value ∙ length-take-le i ps (omega arith) in
      let l : i ≤ 16 = omega arith in
      omega (arith, assignment-below (map value (take i ps)), ap (λ (k : ℕ). 2 ^ k) long, pow_mono {i = i} {j = 16} l)

  digit : (b : Bool) → bool_byte b ≡ assignment (b ∷ [])
  digit true = refl
  digit false = refl

  more : (b : Bool) → b ≡ value (get_or ps i 0) → 2 * n + bool_byte b ≡ assignment (map value (take (i + 1) ps))
  more b e =
      let xs = map value (take i ps) in
      let a : assignment (map value (take i ps) ++ (b ∷ [])) ≡ assignment (map value (take i ps)) * 2 ^ 1 + assignment (b ∷ []) = assignment-append xs (b ∷ []) in
      let d : 2 * n + bool_byte b ≡ assignment (map value (take i ps) ++ (b ∷ [])) = omega (arith, a, digit b, is) in
      d ∙ ap (λ (b : Bool). assignment (xs ++ (b ∷ []))) e ∙ ap assignment (sym (map_more value ps i 0 h))

small : (b : Bool) → bool_byte b ≤ 1
small true = omega arith
small false = omega arith

pub overflow_mul-number : goal.overflow_mul-number
overflow_mul-number c = omega (arith, below (pin_value c.args.self.now) c.args.signals.now c.loop-signal.signal-index c.loop-signal.number c.loop-signal-test.true c.requires c.loop-signal.invariant.1)

pub overflow_add-number : goal.overflow_add-number
overflow_add-number c =
    omega (arith, below (pin_value c.args.self.now) c.args.signals.now c.loop-signal.signal-index c.loop-signal.number c.loop-signal-test.true c.requires c.loop-signal.invariant.1, small c.value.result, c.from.ensures)

pub loop-signal-preserved : goal.loop-signal-preserved
loop-signal-preserved c =
    let vs = c.args.self.now in
    let ps = c.args.signals.now in
    let i = c.loop-signal.signal-index in
    let sum = ap (λ (d : ℕ). 2 * c.loop-signal.number + d) c.from.ensures in (
      sum ∙ more (λ p. get_or vs p false) ps i c.loop-signal.number c.loop-signal-test.true c.requires c.loop-signal.invariant.0 c.value.result c.value.ensures.signal,
      sum ∙ more (pin_value vs) ps i c.loop-signal.number c.loop-signal-test.true c.requires c.loop-signal.invariant.1 c.value.result c.value.ensures.pin,
    )
