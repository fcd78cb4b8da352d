-- The family of two words that a byte joins.
use Rattle.std.specs.Prelude.{ℕ, ◌+◌, ◌*◌, ◌/◌, ◌%◌, ◌^◌, Bool, cond, List, [], ◌∷◌, ◌++◌, slice_index}
use Rattle.families.specs.Tables.{entry_of}
use Rattle.families.specs.Words.{word_bytes, word_at}

-- the words F and G, the halves of the table where the first pin is 0 and where it is 1, and the byte H
abbrev pub joined_packed : ℕ → List ℕ
joined_packed t = word_bytes t ++ (word_bytes (t / 2 ^ 16) ++ (0xCA ∷ []))

-- the bit that the byte H yields at the first pin h, G's entry g and F's entry f
abbrev pub joint : ℕ → ℕ → Bool → Bool → Bool
joint H h g f = entry_of H (4 * h + 2 * cond g 1 0 + cond f 1 0)

-- F's and G's entries are those at the other four pins
abbrev pub joined_reads : List ℕ → ℕ → Bool
joined_reads bs e = joint (slice_index bs 4) (e / 16) (entry_of (word_at bs 2) (e % 16)) (entry_of (word_at bs 0) (e % 16))
