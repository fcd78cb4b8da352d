-- The states of a design, the bit at its pin, and the states that its calls lead to.
use Rattle.std.specs.Prelude.{ℕ, ◌+◌, ◌-◌, ◌/◌, ◌%◌, ◌^◌, Bool, true, false, cond, not, List, [], ◌∷◌, ◌++◌, map, length, take, drop, nat_eq, slice_index_or}
use Rattle.std.specs.List.{range_with_len}
use Rattle.functions.specs.Functions.{Fn, value, negated, exchanged, recoded}
use Rattle.functions.specs.Words.{number, bits, swapped}
use Rattle.functions.specs.Classes.{columns, classes, class_of}
use Rattle.rules.specs.Codes.{holder}
use Rattle.families.specs.Tables.{entry_of, tabled}
use Rattle.intake.specs.Networks.{yielded, last}

-- a cell: the signals at its pins, and its table, as a word
pub record Cell : Type 0 where
  pub pins : List ℕ
  pub table : ℕ

-- the cell on these pins with this table
abbrev pub cell : List ℕ → ℕ → Cell
cell ps t = record { pins = ps; table = t }

-- the values of some signals, where vs are the values of all
abbrev pub values : List Bool → List ℕ → List Bool
values vs ps = map (λ p. slice_index_or vs p false) ps

-- the bit that a cell yields: the entry of its table at its pins, the first pin most significant
abbrev pub yield : List Bool → Cell → Bool
yield vs c = entry_of c.table (number (values vs c.pins))

-- the values of all signals: vs of the 16 inputs, and then of the cells, so that cell i is the signal 16 + i
abbrev pub signals : List Bool → List Cell → List Bool
signals vs cs = vs ++ yielded yield vs cs

-- a design as its user sees it: the live signals, the cells, the function left and whether it is closed
pub record State : Type 0 where
  pub live : List ℕ
  pub cells : List Cell
  pub left : Fn
  pub closed : Bool

-- the state of these parts
abbrev pub state : List ℕ → List Cell → Fn → Bool → State
state l cs f b = record { live = l; cells = cs; left = f; closed = b }

-- the function that is left at the live signals, where vs are the values of the inputs
abbrev pub left_value : State → List Bool → Bool
left_value s vs = value s.left (values (signals vs s.cells) s.live)

-- the bit at the pin: the negation of the closing cell or, while the design is open, of the function left
abbrev pub pin : State → List Bool → Bool
pin s vs = not (cond s.closed (last (yielded yield vs s.cells)) (left_value s vs))

-- a design that was opened with a function of n arguments: live signal p is input p, and the function left is the negation
abbrev pub opened : ℕ → Fn → State
opened n f = state (range_with_len 0 n) [] (negated f) false

-- after a swap, the live signals p and p + 1 and the arguments p and p + 1 are exchanged
abbrev pub swapped_state : ℕ → State → State
swapped_state p s = state (swapped p s.live) s.cells (exchanged p s.left) false

-- the function whose first j arguments are a code in the place of f's first b: row q is the column of the class with the code q, or of class 0 if no class has it
abbrev pub coded : (ℕ → ℕ → ℕ) → ℕ → ℕ → Fn → Fn
coded code b j f = recoded j (classes (columns b f)) (λ q. holder (code j) q (length (classes (columns b f))))

-- the code of the class of the bound assignment with the number e
abbrev pub code_at : (ℕ → ℕ → ℕ) → ℕ → ℕ → Fn → ℕ → ℕ
code_at code b j f e = code j (class_of b f (bits b e))

-- the table of a split's cell t: entry e is the bit of weight 2 ^ (j - 1 - t) of that code
abbrev pub code_table : (ℕ → ℕ → ℕ) → ℕ → ℕ → Fn → ℕ → ℕ
code_table code b j f t = tabled (2 ^ b) (λ e. nat_eq (code_at code b j f e / 2 ^ (j - 1 - t) % 2) 1)

-- the cells of a split, on the bound signals
abbrev pub split_cells : (ℕ → ℕ → ℕ) → ℕ → ℕ → State → List Cell
split_cells code b j s = map (λ t. cell (take b s.live) (code_table code b j s.left t)) (range_with_len 0 j)

-- after a split, the new cells and then the free signals are live
abbrev pub split_state : (ℕ → ℕ → ℕ) → ℕ → ℕ → State → State
split_state code b j s =
    state (range_with_len (16 + length s.cells) j ++ drop b s.live) (s.cells ++ split_cells code b j s) (coded code b j s.left) false

-- the closing cell, on all live signals: the function left is its table
abbrev pub closing_cell : State → Cell
closing_cell s = cell s.live (tabled (2 ^ length s.live) (λ e. value s.left (bits (length s.live) e)))

-- after a close, the closing cell is the last
abbrev pub closed_state : State → State
closed_state s = state s.live (s.cells ++ (closing_cell s ∷ [])) s.left true
