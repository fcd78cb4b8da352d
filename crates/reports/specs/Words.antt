-- The words for faults and lines.
use Rattle.std.specs.Prelude.{ℕ, List, ◌++◌, length, codes, decimal, slice_index}
use Rattle.frames.specs.declared.faults.FaultNumbers.{FaultNumbers}
use Rattle.frames.specs.declared.faults.PageFault.{PageFault}
use Rattle.frames.specs.Kinds.{kind_of}
use Rattle.frames.specs.Numbers.{page_numbers}
use Rattle.frames.specs.Text.{byte_digits}
use Rattle.frames.specs.Words.{kind_name, page_words, node_text}

-- the text of a fault, from its numbers and the words for its node and for what is wrong
abbrev pub fault_pieces : FaultNumbers → List ℕ → List ℕ → List ℕ
fault_pieces w node words = codes "line " ++ (decimal w.line ++ (codes ": layer " ++ (decimal w.layer ++ (codes ", cause " ++ (decimal w.cause ++ (node ++ (codes ": " ++ words)))))))

-- a fault: its numbers, then what is wrong
abbrev pub fault_text : PageFault → List ℕ
fault_text e = fault_pieces (page_numbers e) (node_text (page_numbers e).node) (page_words e)

-- the text of a good frame, from its line, its kind's digits, its byte count and its kind's name
abbrev pub frame_pieces : ℕ → List ℕ → ℕ → List ℕ → List ℕ
frame_pieces line kind count name = codes "line " ++ (decimal line ++ (codes ": kind " ++ (kind ++ (codes ", " ++ (decimal count ++ (codes " bytes: " ++ name))))))

-- a good frame: its line, kind, byte count and what the kind is called
abbrev pub frame_text : ℕ → List ℕ → List ℕ
frame_text line bs = frame_pieces line (byte_digits (slice_index bs 0)) (length bs) (kind_name (kind_of (slice_index bs 0)))
