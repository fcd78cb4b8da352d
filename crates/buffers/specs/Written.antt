-- Writing over the front of a lent buffer.
use Rattle.std.specs.Prelude.{◌≡◌, ℕ, ◌<◌, ◌≤◌, List, ◌++◌, length, drop, Ok, Err, Result}
use Rattle.buffers.specs.declared.WriteRefusal.{WriteRefusal}
use Rattle.buffers.specs.Refusals.{refusal_number}

-- bytes written over the front of a buffer that has room for them; otherwise refused with 22, and the buffer is as it was
abbrev pub Written : {U : Type 0} → List ℕ → List ℕ → List ℕ → Result U WriteRefusal → Type 0
Written bs before after (Ok u) = (length bs ≤ length before) × (after ≡ bs ++ drop (length bs) before)
Written bs before after (Err e) = (length before < length bs) × (refusal_number e ≡ 22) × (after ≡ before)
