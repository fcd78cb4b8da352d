-- The columns of a function at its first arguments, and their classes.
use Rattle.std.specs.Prelude.{ℕ, zero, suc, Bool, true, false, cond, ◌&&◌, ◌||◌, List, [], ◌∷◌, ◌++◌, fold, slice_index_or}
use Rattle.std.specs.Bool.{beq}
use Rattle.functions.specs.Functions.{Fn, bit, fork, cofactor, under}

-- the 2 ^ b columns of f at its first b arguments, by the number of the bound assignment
abbrev pub columns : ℕ → Fn → List Fn
columns zero f = f ∷ []
columns (suc b) f = columns b (cofactor false f) ++ columns b (cofactor true f)

-- whether f and g are the same function
abbrev pub same_fn : Fn → Fn → Bool
same_fn (bit a) (bit b) = beq a b
same_fn (bit a) (fork y p) = false
same_fn (fork z o) (bit b) = false
same_fn (fork z o) (fork y p) = same_fn z y && same_fn o p

-- whether f is one of the functions
abbrev pub among : Fn → List Fn → Bool
among f [] = false
among f (g ∷ gs) = same_fn g f || among f gs

-- the place where f first stands among the functions, or their number where it does not
abbrev pub place_of : Fn → List Fn → ℕ
place_of f [] = 0
place_of f (g ∷ gs) = cond (same_fn g f) 0 (suc (place_of f gs))

-- the functions with f at their end, unless it is one of them
abbrev pub noted : List Fn → Fn → List Fn
noted gs f = cond (among f gs) gs (gs ++ (f ∷ []))

-- the distinct functions, by first appearance
abbrev pub classes : List Fn → List Fn
classes fs = fold noted [] fs

-- the number of the first bound assignment of the class c
abbrev pub first_of : ℕ → Fn → ℕ → ℕ
first_of b f c = place_of (slice_index_or (classes (columns b f)) c f) (columns b f)

-- the class number of the bound assignment xs of f's first b arguments
abbrev pub class_of : ℕ → Fn → List Bool → ℕ
class_of b f xs = place_of (under f xs) (classes (columns b f))
