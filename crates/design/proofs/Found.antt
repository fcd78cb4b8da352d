-- The class of a bound assignment, among the places of the classes.
use Rattle.std.proofs.Common.{◌≡◌, ℕ, ◌^◌, ◌<◌, false, Option, Some, None, List, map, sym, refl, ap, ◌∙◌, arith}
use Rattle.std.specs.Option.{IsSome}
use Rattle.std.proofs.lemmas.Bool.{both_ways}
use Rattle.functions.specs.Functions.{Fn, under}
use Rattle.functions.specs.Words.{bits}
use Rattle.functions.specs.Classes.{columns, among, place_of, classes, class_of}
use Rattle.charts.specs.ClassLists.{Found}
use Rattle.functions.proofs.Columns.{length_columns, column_at}
use Rattle.functions.proofs.Classes.{among-at, among-classes}

module _ {P : Type 0} (mean : P → Fn) (b e : ℕ) (f : Fn) (p : P) (ps : List P) (is : mean p ≡ under f (bits b e)) (all : map mean ps ≡ classes (columns b f)) where
  -- its number is the place of its column
  pub class_found : place_of (mean p) (map mean ps) ≡ class_of b f (bits b e)
  class_found = ap (λ g. place_of g (map mean ps)) is ∙ ap (place_of (under f (bits b e))) all

  -- which is one of the classes
  pub class_there : e < 2 ^ b → among (mean p) (map mean ps) ≡ false → ⊥
  class_there h lacks =
      let at = column_at b e f f h in
      let here = ap (λ g. among g (columns b f)) (sym at) ∙ among-at (columns b f) e f (omega (arith, length_columns b f)) in
      both_ways (among (mean p) (map mean ps)) lacks (ap (λ g. among g (map mean ps)) is ∙ ap (among (under f (bits b e))) all ∙ among-classes (columns b f) (under f (bits b e)) ∙ here)

  -- so that its place is found among those of the classes
  pub found_there : (o : Option ℕ) → Found mean p ps o → e < 2 ^ b → IsSome o
  found_there None lacks h = absurd (class_there h lacks)
  found_there (Some i) found h = refl

  pub found_class : (o : Option ℕ) (i : ℕ) → Found mean p ps o → o ≡ Some i → i ≡ class_of b f (bits b e)
  found_class None i found is = absurd cc
  found_class (Some j) i found is = let q : i ≡ j = cc in q ∙ found.1 ∙ class_found
