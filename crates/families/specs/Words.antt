-- Words of two bytes.
use Rattle.std.specs.Prelude.{ℕ, ◌+◌, ◌*◌, ◌/◌, ◌%◌, List, [], ◌∷◌, slice_index}

-- the last 16 bits of a word, high byte first
abbrev pub word_bytes : ℕ → List ℕ
word_bytes w = w / 256 % 256 ∷ w % 256 ∷ []

-- the word that stands at a place
abbrev pub word_at : List ℕ → ℕ → ℕ
word_at bs i = slice_index bs i * 256 + slice_index bs (i + 1)
