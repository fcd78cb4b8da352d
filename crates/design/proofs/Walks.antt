-- Steps through a chart by the values of signals.
use Rattle.std.proofs.Common.{◌≡◌, ℕ, ◌+◌, ◌<◌, Bool, false, List, [], ◌∷◌, ◌++◌, length, get_or, take, sym, refl, ap, ◌∙◌}
use Rattle.std.proofs.lemmas.List.{take_more, map_push}
use Rattle.functions.specs.Functions.{Fn, cofactor, under}
use Rattle.charts.specs.declared.chart.Chart as chart
use Rattle.charts.proofs.Meanings.{cofactor-next}
use Rattle.mapping.specs.States.{values}

under_more : (f : Fn) (xs : List Bool) (x : Bool) → under f (xs ++ (x ∷ [])) ≡ cofactor x (under f xs)
under_more f [] x = refl
under_more f (y ∷ xs) x = under_more (cofactor y f) xs x

-- one step more, by the value v of the signal at the depth d
pub stepped : {C P : Type 0} (ch : chart.Ghosts C P) (s : C) (f : Fn) (vs : List Bool) (ps : List ℕ) (d : ℕ) (p q : P) (v : Bool) → d < length ps →
    ch.column s d p ≡ under f (values vs (take d ps)) → v ≡ get_or vs (get_or ps d 0) false → q ≡ ch.next s d p v → ch.column s (d + 1) q ≡ under f (values vs (take (d + 1) ps))
stepped ch s f vs ps d p q v h is e to =
    let xs = values vs (take d ps) in
    ap (ch.column s (d + 1)) to
    ∙ sym (cofactor-next ch.arity ch.column ch.next ch.laws s d p v)
    ∙ ap (cofactor v) is
    ∙ sym (under_more f xs v)
    ∙ ap (λ x. under f (xs ++ (x ∷ []))) e
    ∙ ap (under f) (sym (ap (values vs) (take_more ps d 0 h) ∙ map_push (λ i. get_or vs i false) (take d ps) (get_or ps d 0)))
