-- Lists of calls on a design that was opened, and what every one of them keeps.
use Rattle.std.specs.Prelude.{◌≡◌, ℕ, min, Bool, ◌↔◌, List, [], ◌∷◌, ◌++◌, length, take, drop}
use Rattle.functions.specs.Functions.{Fn, value}
use Rattle.functions.specs.Decompositions.{Decomposes}
use Rattle.charts.specs.declared.chart.Chart as chart
use Rattle.rules.specs.declared.rule.CodeRule as rule
use Rattle.families.specs.declared.family.CellFamily as family
use Rattle.families.specs.Laws.{meant}
use Rattle.intake.specs.Networks.{input_bits, network_pin}
use Rattle.intake.specs.Page.{intake, taken}
use Rattle.mapping.specs.declared.call.Call.{Call}
use Rattle.mapping.specs.declared.call.Call.TheVariants.{Swap, Split, Close, Pin, Write}
use Rattle.mapping.specs.declared.answer.Answer.{Answer}
use Rattle.mapping.specs.declared.answer.Answer.TheVariants.{Shows, Wrote, Refused}
use Rattle.mapping.specs.declared.refusal.Refusal.TheVariants.{TooManyClasses}
use Rattle.mapping.specs.States.{pin}
use Rattle.mapping.specs.Histories.{Told, told, Event, reference}
use Rattle.design.specs.declared.design.Design.{Design}
use Rattle.design.specs.Designs.{seen, Opened, network_seen, SwapCall, Counts, SplitCall, CloseCall, PinCall, WriteCall}

-- a call with what it is lent, of a strip of k entries and a buffer of n bytes: as much as it names, or all
abbrev pub lent : ℕ → ℕ → Call → Call
lent k n (Swap p) = Swap p
lent k n (Split b j room) = Split b j (min room k)
lent k n Close = Close
lent k n (Pin x) = Pin x
lent k n (Write room) = Write (min room n)

-- calls with their answers, as far as both go
abbrev pub tolds : ℕ → ℕ → List Call → List Answer → List Told
tolds k n [] rs = []
tolds k n (c ∷ cs) [] = []
tolds k n (c ∷ cs) (r ∷ rs) = told (lent k n c) r ∷ tolds k n cs rs

module _ {C P R F : Type 0} (ch : chart.Ghosts C P) (ru : rule.Ghosts R) (fa : family.Ghosts F) where
  -- a design with the strip and the buffer that its calls are lent
  pub record Setting : Type 0 where
    pub design : Design C R F P
    pub strip : List P
    pub buffer : List ℕ

  -- the setting of these parts
  abbrev pub setting : Design C R F P → List P → List ℕ → Setting
  setting d ps bs = record { design = d; strip = ps; buffer = bs }

  -- a call that does not touch the strip or the buffer
  abbrev pub Apart : Setting → Setting → Type 0
  Apart s t = (t.strip ≡ s.strip) × (t.buffer ≡ s.buffer)

  -- a call in the setting s answers a and leaves the setting t: it does what its own predicate says with the part of the strip or the buffer that it is lent, and leaves the rest
  abbrev pub Does : Setting → Call → Answer → Setting → Type 0
  Does s (Swap p) a t = SwapCall ch ru fa s.design p a t.design × Apart s t
  Does s (Split b j room) a t =
      SplitCall ch ru fa s.design b j (take room s.strip) (take room t.strip) a t.design × (drop room t.strip ≡ drop room s.strip) × (t.buffer ≡ s.buffer)
  Does s Close a t = CloseCall ch ru fa s.design a t.design × Apart s t
  Does s (Pin x) a t = PinCall ch ru fa s.design x a × (t.design ≡ s.design) × Apart s t
  Does s (Write room) a t =
      WriteCall ch ru fa s.design (take room s.buffer) (take room t.buffer) a × (drop room t.buffer ≡ drop room s.buffer) × (t.design ≡ s.design) × (t.strip ≡ s.strip)

  -- calls with their answers lead from the setting o to another: each does what its predicate says, from what those before it left
  pub data Goes (o : Setting) : List Told → Setting → Type 0 where
    none : Goes o [] o
    more : {ts : List Told} {s t : Setting} (c : Call) (a : Answer) → Goes o ts s → Does s c a t → Goes o (ts ++ (told (lent (length s.strip) (length s.buffer) c) a ∷ [])) t

  -- calls with their answers on a design that was opened with a chart lead to a setting
  pub record Ran (c : C) (r : R) (f : F) (strip : List P) (buffer : List ℕ) (ts : List Told) (t : Setting) : Type 0 where
    pub start : Design C R F P
    pub opened : Opened ch ru fa c r f start
    pub goes : Goes (setting start strip buffer) ts t

  -- what a design keeps of the events es that led to it from the function f of n arguments
  pub record Promise (n : ℕ) (f : Fn) (es : List Event) (d : Design C R F P) : Type 0 where
    -- the pin, from cells, live signals and the function left, is the opened function at every assignment of the inputs
    pub pins : (vs : List Bool) → length vs ≡ 16 → pin (seen ch ru fa d) vs ≡ value f (take n vs)
    -- and so a call of pin answers
    pub shows : (x : ℕ) (a : Answer) → PinCall ch ru fa d x a → a ≡ Shows (value f (take n (input_bits x)))
    -- what a call of write gives, and no more, the intake takes as the network of the design's cells
    pub taken_back : (before after : List ℕ) (k : ℕ) → WriteCall ch ru fa d before after (Wrote k) →
        intake (fa.number d.family) (fa.pins d.family) (fa.size d.family) (take k after) ≡ taken (network_seen ch ru fa d)
    -- of which the pin is the opened function at every assignment
    pub network_pins : (before after : List ℕ) (k : ℕ) → WriteCall ch ru fa d before after (Wrote k) →
        (vs : List Bool) → length vs ≡ 16 → network_pin (meant (fa.size d.family) (fa.pins d.family) (fa.reads d.family)) (network_seen ch ru fa d) vs ≡ value f (take n vs)
    -- and it has the inputs of the opened function
    pub network_inputs : (network_seen ch ru fa d).inputs ≡ n
    -- a split that counts the classes is refused for their number exactly where the reference function has no decomposition
    pub decomposes : (b j : ℕ) (before after : List P) (a : Answer) (e : Design C R F P) → Counts ch ru fa d b j (length before) → SplitCall ch ru fa d b j before after a e →
        ((k : ℕ) × (a ≡ Refused (TooManyClasses k))) ↔ (Decomposes (length (seen ch ru fa d).live) b j (reference (ru.code d.rule) f es) → ⊥)
