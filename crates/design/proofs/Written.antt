-- The bytes of a page.
use Rattle.std.proofs.Common.{◌≡◌, ℕ, zero, suc, ◌+◌, ◌-◌, ◌<◌, ◌≤◌, Bool, true, false, cond, List, [], ◌∷◌, ◌++◌, map, length, get_or, take, drop, replicate, Ok, Err, Result, sym, refl, ap, ◌∙◌, inl, inr, arith}
use Rattle.std.proofs.lemmas.List.{append_assoc, length-append, length-drop, length-map, length-take-le, take_at, take-replicate, map_push, map_more, drop-replicate}
use Rattle.std.proofs.lemmas.Bool.{true≢false}
use Rattle.charts.specs.declared.chart.Chart as chart
use Rattle.rules.specs.declared.rule.CodeRule as rule
use Rattle.families.specs.declared.family.CellFamily as family
use Rattle.buffers.specs.declared.WriteRefusal.{WriteRefusal}
use Rattle.buffers.specs.Written.{Written as Packs}
use Rattle.frames.specs.declared.frame.Frame.{Frame}
use Rattle.frames.specs.Outcome.{body}
use Rattle.frames.specs.Text.{over, text}
use Rattle.intake.specs.Networks.{NetCell}
use Rattle.intake.specs.Written.{heading_frame, cell_frame}
use Rattle.mapping.specs.States as states
use Rattle.mapping.specs.declared.call.Call.TheVariants.{Write}
use Rattle.mapping.specs.declared.answer.Answer.{Answer}
use Rattle.mapping.specs.declared.answer.Answer.TheVariants.{Wrote, Refused}
use Rattle.mapping.specs.declared.refusal.Refusal.TheVariants.{StillOpen, TooShort}
use Rattle.mapping.specs.Calls.{is_done}
use Rattle.mapping.specs.Answers.{Ordered, checks, page_bytes}
use Rattle.mapping.specs.Kept.{configured}
use Rattle.mapping.proofs.Pages.{network_length}
use Rattle.rows.specs.Rows.{items}
use Rattle.design.specs.declared.cell.Cell.{Cell}
use Rattle.design.specs.declared.design.Design.{Design}
use Rattle.design.specs.Cells.{seen_cell}
use Rattle.design.specs.Designs.{seen, network_seen, page_of, Step, WriteCall}

pub length_padded : (ps : List ℕ) → length ps ≤ 5 → length (ps ++ drop (length ps) (replicate 5 255)) ≡ 5
length_padded ps l = length-append ps (drop (length ps) (replicate 5 255)) ∙ omega (arith, length-drop {A = ℕ} (length ps) (replicate 5 255))

-- the pins that are used, over marks, and marks up to k pins
pub pins_padded : (ps : List ℕ) → length ps ≤ 5 → (k : ℕ) → k ≤ 5 → take k (ps ++ drop (length ps) (replicate 5 255)) ≡ take k (ps ++ replicate k 255)
pins_padded ps l k h = ap (λ xs. take k (ps ++ xs)) (drop-replicate (length ps) 5 255) ∙ padded ps (5 - length ps) k k (omega arith) (omega arith)
  where
    padded : (xs : List ℕ) (a b i : ℕ) → i ≤ length xs + a → i ≤ length xs + b → take i (xs ++ replicate a 255) ≡ take i (xs ++ replicate b 255)
    padded [] a b i w v = take-replicate i a 255 (omega arith) ∙ sym (take-replicate i b 255 (omega arith))
    padded (x ∷ xs) a b zero w v = refl
    padded (x ∷ xs) a b (suc i) w v = ap (λ ys. x ∷ ys) (padded xs a b i (omega arith) (omega arith))

-- bytes in front of an array that has room for them
pub packed_front : {U : Type 0} (bs before after : List ℕ) (r : Result U WriteRefusal) (n : ℕ) → length bs ≡ n → n ≤ length before → Packs bs before after r → (take n after ≡ bs)
packed_front bs before after (Ok u) n e h w = ap (take n) w.1 ∙ take_at bs (drop (length bs) before) n e
packed_front bs before after (Err x) n e h w = let l = w.0 in absurd (omega arith)

-- as many frames as there are
pub frames_count : {X : Type 0} (frame-of : X → List ℕ) (fs : List Frame) (xs : List X) (hs : List (List ℕ)) (i : ℕ) → i ≤ length xs → map body fs ≡ hs ++ map frame-of (take i xs) → length fs ≡ length hs + i
frames_count frame-of fs xs hs i h is = sym (length-map fs body) ∙ ap length is ∙ length-append hs (map frame-of (take i xs)) ∙ ap (λ n. length hs + n) (length-map (take i xs) frame-of ∙ length-take-le i xs h)

-- one frame more
pub frames_more : {X : Type 0} (frame-of : X → List ℕ) (fs : List Frame) (xs : List X) (hs : List (List ℕ)) (i : ℕ) (d : X) (f : Frame) → i < length xs → map body fs ≡ hs ++ map frame-of (take i xs) → body f ≡ frame-of (get_or xs i d) →
    map body (fs ++ (f ∷ [])) ≡ hs ++ map frame-of (take (i + 1) xs)
frames_more frame-of fs xs hs i d f l e is =
    map_push body fs f
    ∙ ap (λ gs. gs ++ (body f ∷ [])) e
    ∙ append_assoc hs (map frame-of (take i xs)) (body f ∷ [])
    ∙ ap (λ gs. hs ++ gs) (ap (λ g. map frame-of (take i xs) ++ (g ∷ [])) is ∙ sym (map_more frame-of xs i d l))

-- the frames of all cells, by the cells as they are seen
pub cell_frames : (see : Cell → states.Cell) (make : states.Cell → NetCell) (cs : List Cell) → map (λ x. cell_frame (make (see x))) cs ≡ map cell_frame (map make (map see cs))
cell_frames see make [] = refl
cell_frames see make (c ∷ cs) = ap (λ fs. cell_frame (make (see c)) ∷ fs) (cell_frames see make cs)

module _ {C P R F : Type 0} (ch : chart.Ghosts C P) (ru : rule.Ghosts R) (fa : family.Ghosts F) (d : Design C R F P) (before : List ℕ) where
  page-sized : page_bytes (fa.pins d.family) (fa.size d.family) (length (seen ch ru fa d).cells) ≡ length (page_of ch ru fa d)
  page-sized = sym (network_length fa.laws d.family d.inputs (seen ch ru fa d))

  -- the frames of the heading and of every cell are the page's
  pub page_written : (fs : List Frame) → map body fs ≡ (heading_frame (fa.number d.family) (network_seen ch ru fa d) ∷ []) ++ map (λ x. cell_frame (configured (fa.pins d.family) (fa.packed d.family) (seen_cell x))) (items d.netlist.cells) → text (map body fs) ≡ page_of ch ru fa d
  page_written fs is =
      ap text (is ∙ ap (λ gs. heading_frame (fa.number d.family) (network_seen ch ru fa d) ∷ gs) (cell_frames seen_cell (configured (fa.pins d.family) (fa.packed d.family)) (items d.netlist.cells)))

  -- a call that leaves the design
  same-design : (a : Answer) → Ordered (checks (ru.code d.rule) (fa.pins d.family) (fa.size d.family) (ch.fits d.chart.below) (seen ch ru fa d) (Write (length before))) (Wrote (page_bytes (fa.pins d.family) (fa.size d.family) (length (seen ch ru fa d).cells))) a → Step ch ru fa d (Write (length before)) a d
  same-design a says = record {
    answers = record { says = says; leaves = sym (either (is_done a)) };
    refused = λ _. refl;
    rule = refl;
    family = refl;
    inputs = refl;
    fitting = λ g. (λ x. x, λ x. x);
  }
    where
      either : (b : Bool) → cond b (seen ch ru fa d) (seen ch ru fa d) ≡ seen ch ru fa d
      either true = refl
      either false = refl

  pub write_open : d.netlist.closed ≡ false → WriteCall ch ru fa d before before (Refused StillOpen)
  write_open e = record { step = same-design (Refused StillOpen) (inl (e, refl)); sized = page-sized; buffer = refl }

  module _ (shut : d.netlist.closed ≡ true) (xs after : List ℕ) (page : xs ≡ page_of ch ru fa d) where
    not_open : d.netlist.closed ≡ false → ⊥
    not_open e = true≢false (sym shut ∙ e)

    pub write_short : length before < length xs → after ≡ before → WriteCall ch ru fa d before after (Refused TooShort)
    write_short h same = record { step = same-design (Refused TooShort) (inr (not_open, inl (let s = page-sized in omega (arith, ap length page), refl))); sized = page-sized; buffer = same }

    pub write_done : (n : ℕ) → length xs ≤ length before → n ≡ length xs → after ≡ over before xs → WriteCall ch ru fa d before after (Wrote n)
    write_done n h e is = record {
      step = same-design (Wrote n) (inr (not_open, inr (λ l. let s = page-sized in omega (arith, ap length page), ap Wrote (e ∙ ap length page ∙ sym page-sized))));
      sized = page-sized;
      buffer = is ∙ ap (over before) page;
    }
