-- What it tells of a text that a page was read from it.
use Rattle.std.proofs.Common.{◌≡◌, ℕ, List, [], Some, None, Ok, Err, Option, Result, ok_or, IsErrAnd, sym, refl, ap, ◌∙◌, arith}
use Rattle.frames.specs.declared.faults.FaultNumbers.{FaultNumbers}
use Rattle.frames.specs.declared.faults.PageFault.{PageFault}
use Rattle.frames.specs.declared.faults.PageFault.TheVariants.{Record, Missing}
use Rattle.frames.specs.declared.faults.RecordFault.{RecordFault}
use Rattle.frames.specs.Numbers.{record_numbers}
use Rattle.frames.specs.Outcome.{reading, line_after}
use Rattle.frames.specs.Records.{Got, got, gone, bad, anything, answered}
use Rattle.frames.specs.Pages.{Page, page, refused, onward, closed, ended, ending, ReadsPage}
use Rattle.frames.proofs.Telling.{anything-gone}

-- a page goes on by the record that was due, which a call answers as what f makes of its value
module _ {X Y C : Type 0} (f : C → X) (line : ℕ) {g : Got X} (next : X → Page Y) {all : Page Y} (is : onward line g next ≡ all) where
  goes : (h : Got X) → h ≡ g → onward line h next ≡ all
  goes h e = ap (λ (g : Got X). onward line g next) e ∙ is

  pub onward-some : (o : Option C) (c : C) → answered f (Ok o) ≡ g → o ≡ Some c → next (f c) ≡ all
  onward-some o c a e = goes (got (f c)) (rw e at a)

  -- a call that returns where the record is not there
  pub onward-none : {T : Type 0} (Holds : Y → T → Type 0) (rest : List ℕ) (after : ℕ) (o : Option C) (w : PageFault) (r : Result T PageFault) → answered f (Ok o) ≡ g → Err w ≡ ok_or o (Missing line) → IsErrAnd r (λ v. v ≡ w) → ReadsPage Holds all rest after r
  onward-none Holds rest after o w (Ok x) a n h = absurd h
  onward-none {T} Holds rest after (Some c) w (Err v) a n h = let z : ◌≡◌ {A = ℕ} 0 1 = cc in absurd (omega arith)
  onward-none {T} Holds rest after None w (Err v) a n h =
      let m : v ≡ Missing line = cc in
      rw m (sym (goes gone a))

  -- and where it is bad
  pub onward-err : {T : Type 0} (Holds : Y → T → Type 0) (rest : List ℕ) (after : ℕ) (e : RecordFault) (r : Result T PageFault) → answered f (Err e) ≡ g → IsErrAnd r (λ v. v ≡ Record e) → ReadsPage Holds all rest after r
  onward-err Holds rest after e (Ok x) a h = absurd h
  onward-err Holds rest after e (Err v) a h = rw h (sym (goes (bad (record_numbers e) e) a))

-- the record with which a page went on that was read
pub onward-told : {X Y : Type 0} (line : ℕ) (g : Got X) (next : X → Page Y) (y : Y) (rest : List ℕ) (after : ℕ) → onward line g next ≡ page y rest after → (x : X) × (g ≡ got x) × (next x ≡ page y rest after)
onward-told line (got x) next y rest after e = (x, refl, e)
onward-told line gone next y rest after e = let z : ◌≡◌ {A = ℕ} 0 1 = cc in absurd (omega arith)
onward-told line (bad w v) next y rest after e = let z : ◌≡◌ {A = ℕ} 0 1 = cc in absurd (omega arith)

-- a page with nothing after it
closed-told : {X : Type 0} (x y : X) (xs rest : List ℕ) (line after : ℕ) (g : Got (List ℕ)) → anything xs line ≡ g → closed x xs line g ≡ page y rest after → (page x xs line ≡ page y rest after) × (xs ≡ []) × (rest ≡ [])
closed-told x y xs rest line after gone is e =
    let n = anything-gone xs line (reading xs line) refl is in
    let s : xs ≡ rest = cc in
    (e, n, sym s ∙ n)
closed-told x y xs rest line after (got bs) is e = let z : ◌≡◌ {A = ℕ} 0 1 = cc in absurd (omega arith)
closed-told x y xs rest line after (bad w v) is e = let z : ◌≡◌ {A = ℕ} 0 1 = cc in absurd (omega arith)

pub ended-told : {X : Type 0} (p : Page X) (y : X) (rest : List ℕ) (after : ℕ) → ended p ≡ page y rest after → (p ≡ page y rest after) × (rest ≡ [])
ended-told (page x xs line) y rest after e = let c = closed-told x y xs rest line after (anything xs line) refl e in (c.0, c.2)
ended-told (refused w v) y rest after e = let z : ◌≡◌ {A = ℕ} 0 1 = cc in absurd (omega arith)

-- a text with no record is at its end
pub ending-gone : (xs : List ℕ) (line after : ℕ) → gone ≡ anything xs line → after ≡ line_after xs line → ending xs line ≡ page (tt {0}) [] after
ending-gone xs line after g e =
    let n = anything-gone xs line (reading xs line) refl (sym g) in
    let l : line ≡ after = sym (e ∙ ap (λ (t : List ℕ). line_after t line) n) in
    ap (closed (tt {0}) xs line) (sym g) ∙ ap (λ (t : List ℕ). page (tt {0}) t line) n ∙ ap (page (tt {0}) []) l

-- a page, by how the text after it reads
module _ {X : Type 0} (x : X) (xs : List ℕ) (line : ℕ) where
  closed-page : (g : Got (List ℕ)) (u : Unit {0}) (after : ℕ) → closed (tt {0}) xs line g ≡ page u [] after → closed x xs line g ≡ page x [] after
  closed-page gone u after e =
      let n : xs ≡ [] = cc in
      let l : line ≡ after = cc in
      ap (λ (t : List ℕ). page x t line) n ∙ ap (page x []) l
  closed-page (got bs) u after e = let z : ◌≡◌ {A = ℕ} 0 1 = cc in absurd (omega arith)
  closed-page (bad w v) u after e = let z : ◌≡◌ {A = ℕ} 0 1 = cc in absurd (omega arith)

  closed-refused : (g : Got (List ℕ)) (w : FaultNumbers) (f : PageFault) → closed (tt {0}) xs line g ≡ refused w f → closed x xs line g ≡ refused w f
  closed-refused gone w f e = let z : ◌≡◌ {A = ℕ} 0 1 = cc in absurd (omega arith)
  closed-refused (got bs) w f e = cc
  closed-refused (bad v h) w f e = cc

  module _ {p : Page X} (is : p ≡ page x xs line) where
    pub ended_page : (u : Unit {0}) (after : ℕ) → ending xs line ≡ page u [] after → ended p ≡ page x [] after
    ended_page u after e = ap ended is ∙ closed-page (anything xs line) u after e

    pub ended_refused : (w : FaultNumbers) (f : PageFault) → ending xs line ≡ refused w f → ended p ≡ refused w f
    ended_refused w f e = ap ended is ∙ closed-refused (anything xs line) w f e
