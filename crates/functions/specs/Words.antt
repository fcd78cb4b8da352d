-- Words of bits and their numbers, and the exchange of neighbours in a list.
use Rattle.std.specs.Prelude.{ℕ, zero, suc, ◌+◌, ◌/◌, ◌%◌, ◌^◌, Bool, true, false, List, [], ◌∷◌, length, ◌==◌}

-- the number of a word, its first bit most significant
abbrev pub number : List Bool → ℕ
number [] = 0
number (false ∷ xs) = number xs
number (true ∷ xs) = 2 ^ length xs + number xs

-- the word of k bits with the number i
abbrev pub bits : ℕ → ℕ → List Bool
bits zero i = []
bits (suc k) i = (i / 2 ^ k % 2 == 1) ∷ bits k i

-- the list with its places p and p + 1 exchanged
abbrev pub swapped : {A : Type 0} → ℕ → List A → List A
swapped zero [] = []
swapped zero (x ∷ []) = x ∷ []
swapped zero (x ∷ y ∷ xs) = y ∷ x ∷ xs
swapped (suc p) [] = []
swapped (suc p) (x ∷ xs) = x ∷ swapped p xs
