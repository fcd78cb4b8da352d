-- Why a lent buffer is not written.
use Rattle.std.specs.Prelude.{ℕ}
use Rattle.buffers.specs.declared.WriteRefusal.{WriteRefusal}
use Rattle.buffers.specs.declared.WriteRefusal.TheVariants.{TooShort}

-- the number of a refusal: 22, the buffer is too short
abbrev pub refusal_number : WriteRefusal → ℕ
refusal_number TooShort = 22
