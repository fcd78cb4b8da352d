-- The family of one word.
use Rattle.std.specs.Prelude.{ℕ, Bool, List}
use Rattle.families.specs.Tables.{entry_of}
use Rattle.families.specs.Words.{word_bytes, word_at}

-- the configuration is the word of the entries
abbrev pub single_packed : ℕ → List ℕ
single_packed = word_bytes

-- and yields the entry of the assignment
abbrev pub single_reads : List ℕ → ℕ → Bool
single_reads bs e = entry_of (word_at bs 0) e
