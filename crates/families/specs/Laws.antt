-- What the members of a cell family owe one another.
use Rattle.std.specs.Prelude.{◌≡◌, ℕ, ◌^◌, ◌<◌, ◌≤◌, Bool, ◌&&◌, List, length, ◌==◌, nat_lt, slice_index}
use Rattle.families.specs.Tables.{Table, entry_of}

-- of families F: their number, pins and configuration bytes, the configuration for a table, and the bit that bytes yield at an assignment
pub record Laws {F : Type 0} (number pins size : F → ℕ) (packed : F → ℕ → List ℕ) (reads : F → List ℕ → ℕ → Bool) : Type 0 where
  -- the number is a byte
  pub numbered : (f : F) → number f < 256
  -- there are 1 to 5 pins
  pub some_pins : (f : F) → 1 ≤ pins f
  pub few_pins : (f : F) → pins f ≤ 5
  -- and 1 to 16 configuration bytes
  pub some_bytes : (f : F) → 1 ≤ size f
  pub few_bytes : (f : F) → size f ≤ 16
  -- a packed table has as many
  pub sized : (f : F) (t : ℕ) → Table t → length (packed f t) ≡ size f
  -- each is a byte
  pub bytes : (f : F) (t i : ℕ) → Table t → i < size f → slice_index (packed f t) i < 256
  -- and they yield the table's entries
  pub yields : (f : F) (t e : ℕ) → Table t → e < 2 ^ pins f → reads f (packed f t) e ≡ entry_of t e

-- the bit that bytes mean in a cell with this many configuration bytes and pins: 0 for a wrong byte count, or where there is no such assignment
abbrev pub meant : ℕ → ℕ → (List ℕ → ℕ → Bool) → List ℕ → ℕ → Bool
meant size pins reads bs e = length bs == size && (nat_lt e (2 ^ pins) && reads bs e)

-- a packed table means its entries at the assignments that there are, and nothing else
abbrev pub ReadBack : {F : Type 0} → (F → ℕ) → (F → ℕ) → (F → ℕ → List ℕ) → (F → List ℕ → ℕ → Bool) → Type 0
ReadBack {F} pins size packed reads = (f : F) (t e : ℕ) → Table t → meant (size f) (pins f) (reads f) (packed f t) e ≡ (nat_lt e (2 ^ pins f) && entry_of t e)
