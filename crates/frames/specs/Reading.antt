-- What the calls of a reader do.
use Rattle.std.specs.Prelude.{◌≡◌, ℕ, List, drop, Option, Result}
use Rattle.frames.specs.declared.frame.Frame.{Frame}
use Rattle.frames.specs.declared.frame.Form.{Form}
use Rattle.frames.specs.declared.faults.FrameFault.{FrameFault}
use Rattle.frames.specs.declared.reader.FrameReader.{FrameReader}
use Rattle.frames.specs.Outcome.{outcome, reading, past, line_after, awaited}

-- what a reader has yet to read
abbrev pub left : FrameReader → List ℕ
left r = drop r.at r.bytes.now

-- a call read the line at which the reader stood, and the reader stands at the next
pub record Moved (before after : FrameReader) : Type 0 where
  pub rest : left after ≡ past (left before)
  pub line : after.line ≡ line_after (left before) before.line

-- a call of `next`: the outcome there, and where the reader then stands
pub record Next (before after : FrameReader) (r : Result (Option Frame) FrameFault) : Type 0 where
  pub answer : outcome r ≡ reading (left before) before.line
  pub moved : Moved before after

-- a call of `due`: the same, where only these kinds and byte counts are due
pub record Due (forms : List Form) (before after : FrameReader) (r : Result (Option Frame) FrameFault) : Type 0 where
  pub answer : outcome r ≡ awaited forms before.line (reading (left before) before.line)
  pub moved : Moved before after
