-- The first places of the classes of a function's columns.
use Rattle.std.proofs.Common.{◌≡◌, ℕ, zero, suc, ◌+◌, ◌^◌, ◌<◌, ◌≤◌, false, List, [], ◌∷◌, map, length, get_or, take, drop, sym, refl, ap, ◌∙◌, inl, inr, add-one, arith}
use Rattle.std.proofs.lemmas.List.{length-map, length_push, take_all, get_or_append_left, get_or_push, get_or-map}
use Rattle.std.proofs.lemmas.Bool.{cases_Bool, cases_lt}
use Rattle.functions.specs.Words.{bits}
use Rattle.functions.specs.Functions.{Fn, under}
use Rattle.functions.specs.Classes.{columns, among, place_of, noted, classes, first_of}
use Rattle.functions.proofs.Columns.{length_columns, column_at}
use Rattle.functions.proofs.Classes.{among-classes, classes-more, place_at}
use Rattle.charts.specs.ClassLists.{first_places, laid}
use Rattle.charts.specs.Numbering.{Numbered}
use Rattle.charts.proofs.ClassLists.{joined-means, take-laid}

-- the places of all the assignments of f's first b arguments, each of which means its assignment's column
module _ {P : Type 0} (mean : P → Fn) (at : ℕ → P) (b : ℕ) (f : Fn) (is : (a : ℕ) → mean (at a) ≡ under f (bits b a)) where
  abbrev firsts : ℕ → List P
  firsts = first_places mean at

  column_is : (a : ℕ) (d : Fn) → a < 2 ^ b → get_or (columns b f) a d ≡ mean (at a)
  column_is a d h = column_at b a f d h ∙ sym (is a)

  -- the first places mean the classes of the columns so far
  firsts_mean : (n : ℕ) → n ≤ 2 ^ b → map mean (firsts n) ≡ classes (take n (columns b f))
  firsts_mean zero h = refl
  firsts_mean (suc n) h =
      let within : n < length (columns b f) = omega (arith, length_columns b f) in
      joined-means mean (firsts n) (at n)
      ∙ ap (λ fs. noted fs (mean (at n))) (firsts_mean n (omega arith))
      ∙ ap (noted (classes (take n (columns b f)))) (sym (column_is n f (omega arith)))
      ∙ sym (classes-more (columns b f) n f within)
      ∙ ap (λ k. classes (take k (columns b f))) (add-one n)

  firsts_all : map mean (firsts (2 ^ b)) ≡ classes (columns b f)
  firsts_all = firsts_mean (2 ^ b) (omega arith) ∙ ap classes (take_all (2 ^ b) (columns b f) (omega (arith, length_columns b f)))

  -- a place of a class not seen before is at the first assignment of its class
  fresh : (n : ℕ) → n < 2 ^ b → among (mean (at n)) (map mean (firsts n)) ≡ false → place_of (mean (at n)) (columns b f) ≡ n
  fresh n h t =
      let here = mean (at n) in
      let within : n < length (columns b f) = omega (arith, length_columns b f) in
      let none : among here (take n (columns b f)) ≡ false = sym (among-classes (take n (columns b f)) here) ∙ ap (among here) (sym (firsts_mean n (omega arith))) ∙ t in
      place_at here (columns b f) n f within none (column_is n f h)

  -- each first place is where the first assignment of its class leads
  firsts_at : (n : ℕ) → n ≤ 2 ^ b → (c : ℕ) (d : P) → c < length (firsts n) → get_or (firsts n) c d ≡ at (place_of (mean (get_or (firsts n) c d)) (columns b f))
  firsts_at zero h c d l = absurd (omega arith)
  firsts_at (suc n) h c d l = elim (cases_Bool (among (mean (at n)) (map mean (firsts n)))) [
    | inl t ↦ let k : c < length (firsts n) = rw t at l in rw t (firsts_at n (omega arith) c d k)
    | inr t ↦ elim (cases_lt c (length (firsts n))) [
      | inl k ↦ rw (t, get_or_append_left (firsts n) (at n ∷ []) d c k) (firsts_at n (omega arith) c d k)
      | inr k ↦
          let long : c < length (firsts n) + 1 = rw (t, length_push (firsts n) (at n)) at l in
          let last : length (firsts n) ≡ c = omega arith in
          rw (t, get_or_push (firsts n) (at n) d c last, fresh n (omega arith) t)
    ]
  ]

  -- the strip after all numbers: zs is the strip as it was lent, xs and k the list, and n and after what the caller has
  pub numbered : (n k : ℕ) (before zs xs after : List P) → zs ≡ before → n ≡ k → k ≡ length (firsts (2 ^ b)) → xs ≡ laid (firsts (2 ^ b)) zs → after ≡ xs → Numbered mean at b f before after n
  numbered n k before zs xs after lent size counted is given =
      let ps = firsts (2 ^ b) in
      let count = size ∙ counted in
      let strip = given ∙ is ∙ ap (laid ps) lent in
      let long : length ps ≡ length (classes (columns b f)) = sym (length-map ps mean) ∙ ap length firsts_all in
      let first : (c : ℕ) (d : P) → c < n → get_or after c d ≡ at (first_of b f c) = λ c d h.
      let below : c < length ps = omega arith in
      let class : mean (get_or ps c d) ≡ get_or (classes (columns b f)) c f = sym (get_or-map mean ps c d f below) ∙ ap (λ fs. get_or fs c f) firsts_all in
      ap (λ xs. get_or xs c d) strip ∙ get_or_append_left ps (drop (length ps) before) d c below ∙ firsts_at (2 ^ b) (omega arith) c d below ∙ ap (λ g. at (place_of g (columns b f))) class in
      record {
        count = count ∙ long;
        strip = strip;
        first = first;
        means = ap (λ xs. map mean (take n xs)) strip ∙ ap (map mean) (take-laid ps before n count) ∙ firsts_all;
      }
