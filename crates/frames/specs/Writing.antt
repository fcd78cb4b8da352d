-- What writing frames does.
use Rattle.std.specs.Prelude.{◌≡◌, ℕ, ◌<◌, ◌≤◌, List, map, length, Some, None, Ok, Err, Option, Result}
use Rattle.frames.specs.declared.frame.Frame.{Frame}
use Rattle.buffers.specs.declared.WriteRefusal.{WriteRefusal}
use Rattle.buffers.specs.Refusals.{refusal_number}
use Rattle.frames.specs.Text.{text, over, sealed}
use Rattle.frames.specs.Outcome.{body}

-- the lines of frames
abbrev pub text_of : List Frame → List ℕ
text_of fs = text (map body fs)

-- a call that writes xs: it answers the length and the front of the buffer holds xs, or the buffer is too short and stays
abbrev pub Wrote : List ℕ → List ℕ → List ℕ → Result ℕ WriteRefusal → Type 0
Wrote xs before after (Ok n) = (length xs ≤ length before) × (n ≡ length xs) × (after ≡ over before xs)
Wrote xs before after (Err e) = (length before < length xs) × (refusal_number e ≡ 22) × (after ≡ before)

-- a frame made of its content: 1 to 23 bytes, closed by the byte that makes the sum right; none for any other count
abbrev pub Sealed : List ℕ → Option Frame → Type 0
Sealed cs (Some f) = (1 ≤ length cs) × (length cs ≤ 23) × (body f ≡ sealed cs)
Sealed cs None = 1 ≤ length cs → length cs ≤ 23 → ⊥
