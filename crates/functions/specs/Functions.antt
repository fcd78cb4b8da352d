-- Boolean functions as perfect binary trees, one level for each argument.
use Rattle.std.specs.Prelude.{ℕ, zero, suc, ◌+◌, ◌^◌, Bool, true, false, cond, not, List, [], ◌∷◌, slice_index_or}

-- a constant, or the functions that are left where the first argument is 0 and where it is 1
pub data Fn : Type 0 where
  bit : Bool → Fn
  fork : Fn → Fn → Fn

-- f is a function of m arguments
abbrev pub Arity : ℕ → Fn → Type 0
Arity zero (bit b) = Unit {0}
Arity zero (fork z o) = ⊥
Arity (suc m) (bit b) = ⊥
Arity (suc m) (fork z o) = Arity m z × Arity m o

-- the value of f at an assignment, the first argument first; an argument that is missing is 0
abbrev pub value : Fn → List Bool → Bool
value (bit b) xs = b
value (fork z o) [] = value z []
value (fork z o) (x ∷ xs) = cond x (value o xs) (value z xs)

-- what is left of f once its first argument is x
abbrev pub cofactor : Bool → Fn → Fn
cofactor x (bit b) = bit b
cofactor x (fork z o) = cond x o z

-- what is left of f once its first arguments are xs: the column of the bound assignment xs
abbrev pub under : Fn → List Bool → Fn
under f [] = f
under f (x ∷ xs) = under (cofactor x f) xs

-- the function whose first k arguments, read as the number i, choose the function r i of the others
abbrev pub rows : ℕ → (ℕ → Fn) → Fn
rows zero r = r 0
rows (suc k) r = fork (rows k r) (rows k (λ i. r (2 ^ k + i)))

-- the function of k arguments whose value at the assignment with the number i is t i
abbrev pub tree : ℕ → (ℕ → Bool) → Fn
tree k t = rows k (λ i. bit (t i))

-- the function with every value negated
abbrev pub negated : Fn → Fn
negated (bit b) = bit (not b)
negated (fork z o) = fork (negated z) (negated o)

-- the function with its arguments p and p + 1 exchanged
abbrev pub exchanged : ℕ → Fn → Fn
exchanged zero f =
    fork (fork (under f (false ∷ false ∷ [])) (under f (true ∷ false ∷ []))) (fork (under f (false ∷ true ∷ [])) (under f (true ∷ true ∷ [])))
exchanged (suc p) (bit b) = bit b
exchanged (suc p) (fork z o) = fork (exchanged p z) (exchanged p o)

-- the function whose first j arguments, read as the code q, choose the column of q's class, `class q`, among those of the classes, cs
abbrev pub recoded : ℕ → List Fn → (ℕ → ℕ) → Fn
recoded j cs class = rows j (λ q. slice_index_or cs (class q) (bit false))
