-- What a network page is: a heading 11, and then a frame 12 for each cell.
use Rattle.std.specs.Prelude.{ℕ, zero, suc, ◌+◌, Bool, true, false, cond, ◌&&◌, ◌||◌, List, [], ◌∷◌, ◌++◌, length, take, drop, ◌==◌, nat_le, nat_lt, slice_index}
use Rattle.frames.specs.declared.faults.RecordFault.TheVariants.{OutOfRange, BadPin}
use Rattle.frames.specs.declared.kinds.Kind.TheVariants as kind
use Rattle.frames.specs.Numbers.{numbers}
use Rattle.frames.specs.Outcome.{past, line_after}
use Rattle.frames.specs.Pages.{Page, page, onward, ended}
use Rattle.frames.specs.Records.{Got, got, bad, due, recorded}
use Rattle.intake.specs.Networks.{NetCell, Network}

-- what a heading gives: the number of inputs and that of cells
pub record Headed : Type 0 where
  pub inputs : ℕ
  pub count : ℕ

-- is this a heading's family, number of inputs and number of cells, where the family with this number is due?
abbrev pub in_range : ℕ → ℕ → ℕ → ℕ → Bool
in_range number family n count = family == number && (nat_le n 16 && (nat_le 1 count && nat_le count 48))

-- what the fields of a heading give, where they are in range
abbrev pub headed : ℕ → ℕ → List ℕ → Got Headed
headed number line bs =
    cond (in_range number (slice_index bs 1) (slice_index bs 2) (slice_index bs 3)) (got (record { inputs = slice_index bs 2; count = slice_index bs 3 })) (bad (numbers 2 4 line 0) (OutOfRange line))

-- the heading at the start of a text
abbrev pub heading : ℕ → List ℕ → ℕ → Got Headed
heading number xs line = recorded (due kind.Network 5 xs line) (headed number line)

-- is p an input below n, or one of k cells?
abbrev pub signal : ℕ → ℕ → ℕ → Bool
signal n k p = nat_lt p n || (nat_le 16 p && nat_lt p (16 + k))

-- may these be the pins of a cell after k others: signals, and then 255 for each pin that is not used? `used` says that every pin before them is used
abbrev pub pinned : ℕ → ℕ → Bool → List ℕ → Bool
pinned n k used [] = true
pinned n k used (p ∷ ps) = cond (p == 255) (pinned n k false ps) (used && (signal n k p && pinned n k true ps))

-- the cell of K pins that the fields of a frame are, pins first
abbrev pub celled : ℕ → ℕ → List ℕ → NetCell
celled K size fs = record { pins = take K fs; config = take size (drop K fs) }

-- the cell of a frame's bytes, where its pins are right
abbrev pub wired : ℕ → ℕ → ℕ → ℕ → ℕ → List ℕ → Got NetCell
wired n K size k line bs = cond (pinned n k true (take K (drop 1 bs))) (got (celled K size (drop 1 bs))) (bad (numbers 2 9 line 0) (BadPin line))

-- the cell at the start of a text, in a network of n inputs, after k others
abbrev pub cell : ℕ → ℕ → ℕ → ℕ → List ℕ → ℕ → Got NetCell
cell n K size k xs line = recorded (due kind.Cell (K + size + 2) xs line) (wired n K size k line)

-- a network of n inputs that has these cells already, and of which so many are left
abbrev pub cells_from : ℕ → ℕ → ℕ → ℕ → List NetCell → List ℕ → ℕ → Page Network
cells_from n K size zero cs xs line = page (record { inputs = n; cells = cs }) xs line
cells_from n K size (suc m) cs xs line =
    onward line (cell n K size (length cs) xs line) (λ c. cells_from n K size m (cs ++ (c ∷ [])) (past xs) (line_after xs line))

-- the network page at the start of a text, whose first line has this number; what follows it is not looked at
abbrev pub paged : ℕ → ℕ → ℕ → List ℕ → ℕ → Page Network
paged number K size xs line =
    onward line (heading number xs line) (λ h. cells_from h.inputs K size h.count [] (past xs) (line_after xs line))

-- the page that a whole text is
abbrev pub alone : ℕ → ℕ → ℕ → List ℕ → ℕ → Page Network
alone number K size xs line = ended (paged number K size xs line)

-- what the intake of the family with this number, of K pins and so many configuration bytes, answers to a text
abbrev pub intake : ℕ → ℕ → ℕ → List ℕ → Page Network
intake number K size xs = alone number K size xs 1

-- a network is taken: its page is the whole text, a line for the heading and one for each cell
abbrev pub taken : Network → Page Network
taken w = page w [] (length w.cells + 2)
