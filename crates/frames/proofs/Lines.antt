-- Lines of a text, and where they end.
use Rattle.std.proofs.Common.{◌≡◌, ℕ, ◌+◌, ◌-◌, ◌<◌, cond, ltb, List, [], ◌∷◌, length, take, drop, sym, refl, ap, ◌∙◌, arith}
use Rattle.std.proofs.lemmas.List.{length-drop, drop-drop, drop_all}
use Rattle.std.proofs.lemmas.Bool.{cond-true, cond-false, lt-ltb, le-ltb}
use Rattle.frames.specs.declared.faults.FaultNumbers.{FaultNumbers}
use Rattle.frames.specs.declared.faults.Flaw.TheVariants.{NoEnd}
use Rattle.frames.specs.declared.faults.FrameFault.{FrameFault}
use Rattle.frames.specs.declared.faults.FrameFault.TheVariants.{Malformed}
use Rattle.frames.specs.Numbers.{numbers}
use Rattle.frames.specs.Text.{width}
use Rattle.frames.specs.Outcome.{frame, end, fault, line_outcome, reading, past, line_after}

pub reading-more : (xs : List ℕ) (line : ℕ) → 0 < length xs → reading xs line ≡ cond (ltb (width xs) (length xs)) (line_outcome line (take (width xs) xs)) (fault (numbers 1 1 line 0) (Malformed line NoEnd))
reading-more [] line h = absurd (omega arith)
reading-more (c ∷ cs) line h = refl

pub line-more : (xs : List ℕ) (line : ℕ) → 0 < length xs → line_after xs line ≡ line + 1
line-more [] line h = absurd (omega arith)
line-more (c ∷ cs) line h = refl

-- the three ways of a call, at a place of the text
module _ (bs : List ℕ) (at line : ℕ) where
  pub no_line : at ≡ length bs → (reading (drop at bs) line ≡ end) × (drop at bs ≡ past (drop at bs)) × (line_after (drop at bs) line ≡ line)
  no_line e =
      let n : drop at bs ≡ [] = drop_all at bs (omega arith) in
      (ap (λ (t : List ℕ). reading t line) n, rw n refl, ap (λ (t : List ℕ). line_after t line) n)

  module _ (stop : ℕ) (here : at < length bs) (stops : stop ≡ at + width (drop at bs)) where
    pub next-line : line_after (drop at bs) line ≡ line + 1
    next-line = line-more (drop at bs) line (let n = length-drop at bs in omega arith)

    pub open_line : stop ≡ length bs → (reading (drop at bs) line ≡ fault (numbers 1 1 line 0) (Malformed line NoEnd)) × (drop stop bs ≡ past (drop at bs))
    open_line e =
        let n = length-drop at bs in (
          reading-more (drop at bs) line (omega arith) ∙ cond-false _ _ _ (le-ltb (width (drop at bs)) (length (drop at bs)) (omega arith)),
          drop_all stop bs (omega arith) ∙ sym (drop_all (width (drop at bs) + 1) (drop at bs) (omega arith)),
        )

    pub ended-line : stop < length bs → (reading (drop at bs) line ≡ line_outcome line (take (stop - at) (drop at bs))) × (drop (stop + 1) bs ≡ past (drop at bs))
    ended-line h =
        let n = length-drop at bs in
        let w : width (drop at bs) ≡ stop - at = omega arith in (
          reading-more (drop at bs) line (omega arith) ∙ cond-true _ _ _ (lt-ltb (width (drop at bs)) (length (drop at bs)) (omega arith)) ∙ ap (λ (k : ℕ). line_outcome line (take k (drop at bs))) w,
          ap (λ (k : ℕ). drop k bs) (let q : stop + 1 ≡ at + (width (drop at bs) + 1) = omega arith in q) ∙ sym (drop-drop (width (drop at bs) + 1) at bs),
        )

-- a call that does not meet the end leaves less to read
pub less_left : (xs : List ℕ) (line : ℕ) → (reading xs line ≡ end → ⊥) → length (past xs) < length xs
less_left [] line h = absurd (h refl)
less_left (c ∷ cs) line h = let d = length-drop (width (c ∷ cs) + 1) (c ∷ cs) in let n : 0 < length (c ∷ cs) = omega arith in omega arith

-- where there is a line, there is a byte
pub some_left : (xs : List ℕ) (line : ℕ) → (reading xs line ≡ end → ⊥) → 0 < length xs
some_left [] line h = absurd (h refl)
some_left (c ∷ cs) line h = omega arith

pub less_after_frame : (xs : List ℕ) (line : ℕ) (f : List ℕ) → frame f ≡ reading xs line → length (past xs) < length xs
less_after_frame xs line f e = less_left xs line (λ z. absurd cc)

pub less_after_fault : (xs : List ℕ) (line : ℕ) (n : FaultNumbers) (w : FrameFault) → fault n w ≡ reading xs line → length (past xs) < length xs
less_after_fault xs line n w e = less_left xs line (λ z. absurd cc)
