-- What a bit page is: a heading 03 with its number of arguments, and frames 04 that carry its table.
use Rattle.std.specs.Prelude.{ℕ, zero, suc, ◌+◌, cond, ◌&&◌, List, [], ◌++◌, take, drop, nat_le, slice_index}
use Rattle.frames.specs.declared.faults.RecordFault.TheVariants.{OutOfRange, BadPlace}
use Rattle.frames.specs.declared.kinds.Kind.TheVariants.{BitPage, Bits}
use Rattle.frames.specs.Numbers.{numbers}
use Rattle.frames.specs.Outcome.{past, line_after}
use Rattle.frames.specs.Pages.{Page, page, onward, ended}
use Rattle.frames.specs.Records.{Got, got, bad, due, recorded}
use Rattle.bitpages.specs.Table.{share, count, spare}

-- the number of arguments that the field of a heading gives, where it is 1 to 12
abbrev pub headed : ℕ → List ℕ → Got ℕ
headed line bs = cond (nat_le 1 (slice_index bs 1) && nat_le (slice_index bs 1) 12) (got (slice_index bs 1)) (bad (numbers 2 4 line 0) (OutOfRange line))

-- the heading at the start of a text
abbrev pub heading : List ℕ → ℕ → Got ℕ
heading xs line = recorded (due BitPage 3 xs line) (headed line)

-- the bytes that a frame carries for a table of n arguments
abbrev pub carried : ℕ → List ℕ → List ℕ
carried n bs = take (share n) (drop 1 bs)

-- those bytes, where no spare bit is set
abbrev pub filled : ℕ → ℕ → List ℕ → Got (List ℕ)
filled n line bs = cond (spare n (slice_index bs 1)) (bad (numbers 2 5 line 0) (BadPlace line 0)) (got (carried n bs))

-- the bytes of the frame at the start of a text that carries a share of a table of n arguments
abbrev pub bits : ℕ → List ℕ → ℕ → Got (List ℕ)
bits n xs line = recorded (due Bits (share n + 2) xs line) (filled n line)

-- the value of a page: its number of arguments, and its bytes
pub record Packed : Type 0 where
  pub arity : ℕ
  pub bytes : List ℕ

-- n arguments, and these bytes
abbrev pub packed : ℕ → List ℕ → Packed
packed n ds = record { arity = n; bytes = ds }

-- a page of n arguments that has these bytes already, and of which k frames are left
abbrev pub shares : ℕ → ℕ → List ℕ → List ℕ → ℕ → Page Packed
shares n zero ds xs line = page (packed n ds) xs line
shares n (suc k) ds xs line = onward line (bits n xs line) (λ es. shares n k (ds ++ es) (past xs) (line_after xs line))

-- the page at the start of a text, whose first line has this number; what follows it is not looked at
abbrev pub paged : List ℕ → ℕ → Page Packed
paged xs line = onward line (heading xs line) (λ n. shares n (count n) [] (past xs) (line_after xs line))

-- the page that a whole text is
abbrev pub alone : List ℕ → ℕ → Page Packed
alone xs line = ended (paged xs line)
