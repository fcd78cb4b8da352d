-- The words for kinds and faults.
use Rattle.std.specs.Prelude.{ℕ, cond, List, [], ◌++◌, Some, None, codes, decimal, Option, ◌==◌}
use Rattle.frames.specs.declared.faults.FaultNumbers.{FaultNumbers}
use Rattle.frames.specs.declared.faults.Flaw.{Flaw}
use Rattle.frames.specs.declared.faults.Flaw.TheVariants.{NoEnd, Character, OddDigits, Length}
use Rattle.frames.specs.declared.faults.FrameFault.{FrameFault}
use Rattle.frames.specs.declared.faults.FrameFault.TheVariants.{Malformed, WrongSum, NotDue}
use Rattle.frames.specs.declared.faults.RecordFault.{RecordFault}
use Rattle.frames.specs.declared.faults.RecordFault.TheVariants.{Frame, OutOfRange, BadPlace, Repeated, BadPin}
use Rattle.frames.specs.declared.faults.PageFault.{PageFault}
use Rattle.frames.specs.declared.faults.PageFault.TheVariants.{Record, Unnamed, Missing, Surplus, TooLong}
use Rattle.frames.specs.declared.kinds.Kind.{Kind}
use Rattle.frames.specs.declared.kinds.Kind.TheVariants.{NodePage, Node, BitPage, Bits, Network, Cell, Job, Swap, Split, Close, Answer, Fault}
use Rattle.frames.specs.Text.{byte_digits}

-- what a kind is called
abbrev pub kind_name : Option Kind → List ℕ
kind_name None = codes "unknown kind"
kind_name (Some NodePage) = codes "node page"
kind_name (Some Node) = codes "node"
kind_name (Some BitPage) = codes "bit page"
kind_name (Some Bits) = codes "bits"
kind_name (Some Network) = codes "network"
kind_name (Some Cell) = codes "cell"
kind_name (Some Job) = codes "job"
kind_name (Some Swap) = codes "swap"
kind_name (Some Split) = codes "split"
kind_name (Some Close) = codes "close"
kind_name (Some Answer) = codes "answer"
kind_name (Some Fault) = codes "fault"

-- why the text of a line is not that of 2 to 24 bytes
abbrev pub flaw_words : Flaw → List ℕ
flaw_words NoEnd = codes "the line has no end"
flaw_words (Character k) = codes "character " ++ (decimal k ++ codes " is none of 0-9 and A-F")
flaw_words OddDigits = codes "an odd number of digits"
flaw_words (Length n) = decimal n ++ codes " bytes are not 2 to 24"

-- what is wrong with a line
abbrev pub frame_words : FrameFault → List ℕ
frame_words (Malformed l w) = flaw_words w
frame_words (WrongSum l b) = codes "wrong sum, the last byte should be " ++ byte_digits b
frame_words (NotDue l) = codes "another kind is due, or another byte count"

-- what is wrong with a frame's fields
abbrev pub record_words : RecordFault → List ℕ
record_words (Frame f) = frame_words f
record_words (OutOfRange l) = codes "a field is out of range, or the root is wrong"
record_words (BadPlace l n) = codes "a bad place or child, or a spare bit is set"
record_words (Repeated l n) = codes "equal children, or an earlier node again"
record_words (BadPin l) = codes "a pin is no input, earlier cell or FF, or is used after FF"

-- what is wrong with the frames of a page together
abbrev pub page_words : PageFault → List ℕ
page_words (Record f) = record_words f
page_words (Unnamed l n) = codes "no later node names this one"
page_words (Missing l) = codes "a frame is missing"
page_words (Surplus l) = codes "a frame follows all that are due"
page_words TooLong = codes "the job has more than 32768 bytes"

-- the node of a fault, if it has one
abbrev pub node_text : ℕ → List ℕ
node_text n = cond (n == 0) [] (codes ", node " ++ decimal n)

-- a fault's numbers
abbrev pub numbers_text : FaultNumbers → List ℕ
numbers_text w = codes "line " ++ (decimal w.line ++ (codes ": layer " ++ (decimal w.layer ++ (codes ", cause " ++ (decimal w.cause ++ node_text w.node)))))
