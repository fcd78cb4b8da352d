-- The values of signals as cells are added.
use Rattle.std.proofs.Common.{◌≡◌, ℕ, ◌+◌, ◌<◌, ◌≤◌, Bool, false, List, [], ◌∷◌, ◌++◌, map, length, get_or, take, sym, refl, ap, ◌∙◌, arith}
use Rattle.std.specs.List.{range_with_len, AllByRecursion as All}
use Rattle.std.proofs.lemmas.List.{length-append, append_assoc, get_or_append_left, get_or-append-add, get_or_default, get_or-take, length-take-le, length_push, same_lists}
use Rattle.std.proofs.lemmas.List.FromFn.{length-map-range_with_len, get_or-map-range_with_len}
use Rattle.std.proofs.ByRecursion.{All-weaker}
use Rattle.functions.specs.Words.{number}
use Rattle.families.specs.Tables.{entry_of}
use Rattle.intake.specs.Networks.{yielded}
use Rattle.intake.proofs.Yields.{yielded-append, length-yielded}
use Rattle.mapping.specs.States.{Cell, cell, values, yield, signals}

pub signals-append : (vs : List Bool) (cs ds : List Cell) → signals vs (cs ++ ds) ≡ signals vs cs ++ yielded yield (signals vs cs) ds
signals-append vs cs ds = ap (λ ws. vs ++ ws) (yielded-append yield vs cs ds) ∙ sym (append_assoc vs (yielded yield vs cs) (yielded yield (signals vs cs) ds))

pub length-signals : (vs : List Bool) (cs : List Cell) → length (signals vs cs) ≡ length vs + length cs
length-signals vs cs = length-append vs (yielded yield vs cs) ∙ ap (λ k. length vs + k) (length-yielded yield vs cs)

-- ---- the values of some signals

-- signals that are there keep their values
pub values-more : (vs ws : List Bool) (ps : List ℕ) → All (λ p. p < length vs) ps → values (vs ++ ws) ps ≡ values vs ps
values-more vs ws [] a = refl
values-more vs ws (p ∷ ps) a =
    ap (λ x. x ∷ values (vs ++ ws) ps) (get_or_append_left vs ws false p a.0) ∙ ap (λ xs. get_or vs p false ∷ xs) (values-more vs ws ps a.1)

-- the signals that come after vs
pub values_new : (vs ws : List Bool) → values (vs ++ ws) (range_with_len (length vs) (length ws)) ≡ ws
values_new vs ws = same_lists (values (vs ++ ws) (range_with_len (length vs) (length ws))) ws (length-map-range_with_len (λ p. get_or (vs ++ ws) p false) (length vs) (length ws))
    (λ k d l.
    let h : k < length ws = rw (length-map-range_with_len (λ p. get_or (vs ++ ws) p false) (length vs) (length ws)) at l in
    get_or-map-range_with_len (λ p. get_or (vs ++ ws) p false) (length vs) (length ws) k (length vs + k) d h refl
    ∙ get_or-append-add vs ws k false
    ∙ get_or_default ws k false d h)

-- the first n signals
pub values-first : (n : ℕ) (vs : List Bool) → n ≤ length vs → values vs (range_with_len 0 n) ≡ take n vs
values-first n vs fit = same_lists (values vs (range_with_len 0 n)) (take n vs) (length-map-range_with_len (λ p. get_or vs p false) 0 n ∙ sym (length-take-le n vs fit))
    (λ k d l.
    let h : k < n = rw (length-map-range_with_len (λ p. get_or vs p false) 0 n) at l in
    get_or-map-range_with_len (λ p. get_or vs p false) 0 n k k d h (omega arith)
    ∙ get_or_default vs k false d (omega arith)
    ∙ sym (get_or-take n vs k d h))

-- cells on the same pins yield the entries of their tables there
pub yielded_tables : {A : Type 0} (table : A → ℕ) (ps : List ℕ) (xs : List A) (vs : List Bool) → All (λ p. p < length vs) ps →
    yielded yield vs (map (λ x. cell ps (table x)) xs) ≡ map (λ x. entry_of (table x) (number (values vs ps))) xs
yielded_tables table ps [] vs a = refl
yielded_tables table ps (x ∷ xs) vs a =
    let y = entry_of (table x) (number (values vs ps)) in
    let further = All-weaker (λ p. p < length vs) (λ p. p < length (vs ++ (y ∷ []))) (λ p l. omega (arith, length_push vs y)) ps a in
    ap (λ ys. y ∷ ys) (yielded_tables table ps xs (vs ++ (y ∷ [])) further ∙ ap (λ us. map (λ z. entry_of (table z) (number us)) xs) (values-more vs (y ∷ []) ps a))
