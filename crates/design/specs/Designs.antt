-- Designs as states, and what each call does, for every chart, code rule and cell family.
use Rattle.std.specs.Prelude.{◌≡◌, ℕ, ◌^◌, ◌≤◌, false, cond, ◌↔◌, List, length, take, Ok, Err, Result}
use Rattle.functions.specs.Functions.{Fn, negated}
use Rattle.functions.specs.Classes.{columns, classes}
use Rattle.charts.specs.declared.chart.Chart as chart
use Rattle.charts.specs.declared.inverting.Inverting.{Inverting}
use Rattle.charts.specs.InvertingLaws.{inverting_laws}
use Rattle.charts.specs.Numbering.{Numbered}
use Rattle.charts.specs.Walks.{chart_function, reached}
use Rattle.rules.specs.declared.rule.CodeRule as rule
use Rattle.families.specs.declared.family.CellFamily as family
use Rattle.frames.specs.Text.{over}
use Rattle.intake.specs.Networks.{Network}
use Rattle.intake.specs.Written.{network_text}
use Rattle.mapping.specs.declared.call.Call.{Call}
use Rattle.mapping.specs.declared.call.Call.TheVariants.{Swap, Split, Close, Pin, Write}
use Rattle.mapping.specs.declared.refusal.Refusal.{Refusal}
use Rattle.mapping.specs.declared.answer.Answer.{Answer}
use Rattle.mapping.specs.declared.answer.Answer.TheVariants.{Done, Divided, Wrote, Refused}
use Rattle.mapping.specs.Calls.{is_done}
use Rattle.mapping.specs.States.{State, state, opened}
use Rattle.mapping.specs.Answers.{Answers, Ranged, page_bytes}
use Rattle.mapping.specs.Kept.{network_of}
use Rattle.design.specs.Cells.{cells_of}
use Rattle.design.specs.declared.design.Design.{Design}
use Rattle.design.specs.declared.splitting.SplitCounts.{SplitCounts}

-- the answer of a swap or a close
abbrev pub done_answer : {U : Type 0} → Result U Refusal → Answer
done_answer (Ok u) = Done
done_answer (Err e) = Refused e

-- the answer of a split: how many classes there are, and how many cells
abbrev pub split_answer : Result SplitCounts Refusal → Answer
split_answer (Ok s) = Divided s.classes s.cells
split_answer (Err e) = Refused e

-- the answer of a write: how many bytes there are
abbrev pub write_answer : Result ℕ Refusal → Answer
write_answer (Ok n) = Wrote n
write_answer (Err e) = Refused e

-- the answer of a call
abbrev pub answer_of : Result Answer Refusal → Answer
answer_of (Ok a) = a
answer_of (Err e) = Refused e

-- the inverting charts over the charts C
abbrev pub inverted : {C P : Type 0} → chart.Ghosts C P → chart.Ghosts (Inverting C P) P
inverted ch = record {
  arity = λ s. ch.arity s.below;
  column = λ s d p. negated (ch.column s.below d p);
  root = λ s. ch.root s.below;
  next = λ s. ch.next s.below;
  fits = λ s f. ch.fits s.below (negated f);
  laws = inverting_laws (λ s. s.below) ch.laws;
}

module _ {C P R F : Type 0} (ch : chart.Ghosts C P) (ru : rule.Ghosts R) (fa : family.Ghosts F) where
  -- the function that is left: that of the inverting chart
  abbrev pub left_of : Design C R F P → Fn
  left_of d = chart_function (inverted ch) d.chart

  -- a design as its user sees it; as many signals are live as the function left has arguments
  abbrev pub seen : Design C R F P → State
  seen d = state (take (ch.arity d.chart.below) d.live) (cells_of d.netlist) (left_of d) d.netlist.closed

  -- a design that was opened with a chart
  pub record Opened (c : C) (r : R) (f : F) (d : Design C R F P) : Type 0 where
    pub below : d.chart.below ≡ c
    pub rule : d.rule ≡ r
    pub family : d.family ≡ f
    pub inputs : d.inputs ≡ ch.arity c
    pub state : seen d ≡ opened (ch.arity c) (chart_function ch c)

  -- what a call answers, by its checks in their order, and leaves: a refused one leaves the whole design, and every one the rule, the family, the inputs and what fits the chart
  pub record Step (d : Design C R F P) (c : Call) (a : Answer) (e : Design C R F P) : Type 0 where
    pub answers : Answers (ru.code d.rule) (fa.pins d.family) (fa.size d.family) (ch.fits d.chart.below) (seen d) c a (seen e)
    pub refused : is_done a ≡ false → e ≡ d
    pub rule : e.rule ≡ d.rule
    pub family : e.family ≡ d.family
    pub inputs : e.inputs ≡ d.inputs
    pub fitting : (g : Fn) → ch.fits d.chart.below g ↔ ch.fits e.chart.below g

  -- a call of swap
  abbrev pub SwapCall : Design C R F P → ℕ → Answer → Design C R F P → Type 0
  SwapCall d p a e = Step d (Swap p) a e

  -- a split gets as far as to count the classes: the design is open, the numbers are in range, and the strip is long enough
  pub record Counts (d : Design C R F P) (b j room : ℕ) : Type 0 where
    pub still_open : d.netlist.closed ≡ false
    pub ranged : Ranged (fa.pins d.family) (length (seen d).live) b j
    pub long : 2 ^ b ≤ room

  -- a call of split with a strip: once it counts the classes, refused or not, the strip begins with each class's first place and goes on as it was; before that it is untouched
  pub record SplitCall (d : Design C R F P) (b j : ℕ) (before after : List P) (a : Answer) (e : Design C R F P) : Type 0 where
    pub step : Step d (Split b j (length before)) a e
    pub untouched : (Counts d b j (length before) → ⊥) → after ≡ before
    pub places : Counts d b j (length before) → Numbered ((inverted ch).column d.chart b) (reached (inverted ch) d.chart b) b (left_of d) before after (length (classes (columns b (left_of d))))

  -- a call of close
  abbrev pub CloseCall : Design C R F P → Answer → Design C R F P → Type 0
  CloseCall d a e = Step d Close a e

  -- a call of pin
  abbrev pub PinCall : Design C R F P → ℕ → Answer → Type 0
  PinCall d x a = Step d (Pin x) a d

  -- the network of a design
  abbrev pub network_seen : Design C R F P → Network
  network_seen d = network_of (fa.pins d.family) (fa.packed d.family) d.inputs (seen d)

  -- the text of its page
  abbrev pub page_of : Design C R F P → List ℕ
  page_of d = network_text (fa.number d.family) (network_seen d)

  -- a call of write with a buffer: where it is done the page is written over the buffer's front, and what comes after it stays; a refused one leaves the buffer
  pub record WriteCall (d : Design C R F P) (before after : List ℕ) (a : Answer) : Type 0 where
    pub step : Step d (Write (length before)) a d
    pub sized : page_bytes (fa.pins d.family) (fa.size d.family) (length (seen d).cells) ≡ length (page_of d)
    pub buffer : after ≡ cond (is_done a) (over before (page_of d)) before
