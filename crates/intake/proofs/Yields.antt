-- What cells yield, one after another.
use Rattle.std.proofs.Common.{◌≡◌, ℕ, suc, ◌+◌, ◌<◌, ◌≤◌, Bool, List, [], ◌∷◌, ◌++◌, map, length, get_or, take, sym, refl, ap, ◌∙◌, append_assoc}
use Rattle.std.proofs.lemmas.List.{append-nil, length-append, length-map, length-take-le, map_more}
use Rattle.intake.specs.Networks.{last, yielded}

pub last_push : (xs : List Bool) (x : Bool) → last (xs ++ (x ∷ [])) ≡ x
last_push [] x = refl
last_push (y ∷ []) x = refl
last_push (y ∷ z ∷ xs) x = last_push (z ∷ xs) x

module _ {A : Type 0} (yields : List Bool → A → Bool) where
  pub yielded-append : (vs : List Bool) (cs ds : List A) → yielded yields vs (cs ++ ds) ≡ yielded yields vs cs ++ yielded yields (vs ++ yielded yields vs cs) ds
  yielded-append vs [] ds = ap (λ us. yielded yields us ds) (sym (append-nil vs))
  yielded-append vs (c ∷ cs) ds =
      let us = vs ++ (yields vs c ∷ []) in
      ap (λ ws. yields vs c ∷ ws) (yielded-append us cs ds ∙ ap (λ ws. yielded yields us cs ++ yielded yields ws ds) (append_assoc vs (yields vs c ∷ []) (yielded yields us cs)))

  pub length-yielded : (vs : List Bool) (cs : List A) → length (yielded yields vs cs) ≡ length cs
  length-yielded vs [] = refl
  length-yielded vs (c ∷ cs) = ap suc (length-yielded (vs ++ (yields vs c ∷ [])) cs)

  -- the values of all signals, with one cell more
  pub signals_push : (vs : List Bool) (cs : List A) (c : A) (all : List Bool) (b : Bool) → all ≡ vs ++ yielded yields vs cs → b ≡ yields all c → all ++ (b ∷ []) ≡ vs ++ yielded yields vs (cs ++ (c ∷ []))
  signals_push vs cs c all b is q =
      ap (λ t. t ++ (b ∷ [])) is
      ∙ append_assoc vs (yielded yields vs cs) (b ∷ [])
      ∙ ap (λ d. vs ++ (yielded yields vs cs ++ (d ∷ []))) (q ∙ ap (λ t. yields t c) is)
      ∙ ap (λ t. vs ++ t) (sym (yielded-append vs cs (c ∷ [])))

  -- the same of cells by what they stand for, of which the first i are there
  module _ {X : Type 0} (view : X → A) (vs : List Bool) (xs : List X) (i : ℕ) (all : List Bool) (is : all ≡ vs ++ yielded yields vs (map view (take i xs))) where
    pub length_viewed : i ≤ length xs → length all ≡ length vs + i
    length_viewed h =
        ap length is
        ∙ length-append vs (yielded yields vs (map view (take i xs)))
        ∙ ap (λ n. length vs + n) (length-yielded vs (map view (take i xs)) ∙ length-map (take i xs) view ∙ length-take-le i xs h)

    pub viewed_push : (d : X) (b : Bool) → i < length xs → b ≡ yields all (view (get_or xs i d)) → all ++ (b ∷ []) ≡ vs ++ yielded yields vs (map view (take (i + 1) xs))
    viewed_push d b h q = signals_push vs (map view (take i xs)) (view (get_or xs i d)) all b is q ∙ ap (λ cs. vs ++ yielded yields vs cs) (sym (map_more view xs i d h))
