-- Rows as lists.
use Rattle.std.specs.Prelude.{ℕ, List, take}
use Rattle.rows.specs.declared.row.Row.{Row}

-- the elements of a row
unfoldable pub items : {A : Type 0} {N : ℕ} → Row A N → List A
items r = take r.len r.slots
