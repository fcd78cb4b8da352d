use Rattle.std.proofs.Common.{◌≡◌, ℕ, ◌+◌, ◌-◌, Bool, cond, List, ◌++◌, length, Some, None, string_bytes, Option, sym, refl, ap, ◌∙◌, arith}
use Rattle.frames.specs.declared.reader.FrameReader.{FrameReader}
use Rattle.frames.specs.Outcome.{reading, end, line_after}
use Rattle.frames.specs.Reading.{left, Moved}
use Rattle.frames.proofs.Lines.{less_left, some_left}
use Rattle.frames.proofs.RoundTrip.{end_read}
use Rattle.reports.specs.declared.check.LineReport.{LineReport}
use Rattle.reports.specs.Checked.{LineRead, LineFound, outcome_text, is_fault}
use Rattle.reports.proofs.Run.{so_far_none, so_far_more, so_far_all, few_faulty, fewer_faulty, some-line}
use Rattle.reports.proofs.check.check_text.Goals as goal
use Rattle.reports.proofs.check.check_text.Goals.{then-line, else-line}

-- what was found: a line, or the end
found_line : (reader : FrameReader) (o : Option LineReport) (l : LineReport) → o ≡ Some l → LineFound reader o → LineRead reader l
found_line reader o l e h = rw e at h

found_end : (reader : FrameReader) (o : Option LineReport) → ((l : LineReport) → o ≡ Some l → ⊥) → LineFound reader o → reading (left reader) reader.line ≡ end
found_end reader None n h = h
found_end reader (Some l) n h = absurd (n l refl)

pub loop-all-init : goal.loop-all-init
loop-all-init c = so_far_none _ _ _ _ c.new-reader.ensures.rest c.new-reader.ensures.first c.new-all.ensures.bytes

pub overflow_add-faulty : goal.overflow_add-faulty
overflow_add-faulty c =
    let r = c.loop-all.reader in
    let l = found_line r _ c.in-Some.line c.in-Some.is c.in_ok-line.ensures.found in
    let some = some_left (left r) r.line l.more in
    let few = few_faulty c.loop-all.invariant in
    omega arith

pub loop-all-smaller : goal.loop-all-smaller
loop-all-smaller c =
    let r = c.loop-all.reader in
    let l = found_line r _ c.in-Some.line c.in-Some.is c.in_ok-line.ensures.found in
    let less = less_left (left r) r.line l.more in
    let rest = ap length c.in_ok-line.ensures.moved.rest in
    omega arith

pub loop-all-preserved : goal.loop-all-preserved
loop-all-preserved c =
    let r = c.loop-all.reader in
    let l = found_line r _ c.in-Some.line c.in-Some.is c.in_ok-line.ensures.found in
    let moved = c.in_ok-line.ensures.moved in
    let o = reading (left r) r.line in
    let said : string_bytes c.push_str.new.self ≡ string_bytes c.loop-all.all ++ outcome_text r.line o =
    c.in_ok-push_str.ensures.bytes ∙ ap (λ (t : List ℕ). string_bytes c.loop-all.all ++ t) (c.as_str.ensures.value ∙ l.said) in
    let faulty : c.if-line.faulty ≡ c.loop-all.faulty + cond (is_fault o) 1 0 =
    elim c.if-line.branch [
      | then-line w ↦ w.faulty-is ∙ ap (λ (b : Bool). c.loop-all.faulty + cond b 1 0) (sym w.if-line.true ∙ l.judged)
      | else-line w ↦ w.faulty-is ∙ (let z : c.loop-all.faulty ≡ c.loop-all.faulty + 0 = omega arith in z) ∙ ap (λ (b : Bool). c.loop-all.faulty + cond b 1 0) (sym w.if-line.false ∙ l.judged)
    ] in
    so_far_more c.loop-all.invariant o refl l.more _ _ _ _ moved.rest moved.line said faulty

-- at the end the reader stays where it is
stays : (before after : FrameReader) → reading (left before) before.line ≡ end → Moved before after → after.line ≡ before.line
stays before after e moved = moved.line ∙ ap (λ (xs : List ℕ). line_after xs before.line) (end_read (left before) before.line e)

pub overflow_sub-lines : goal.overflow_sub-lines
overflow_sub-lines c =
    let ended = found_end c.loop-all.reader _ c.in_default.not-Some c.in_ok-line.ensures.found in
    let same = stays c.loop-all.reader c.next_line.new.reader ended c.in_ok-line.ensures.moved in
    let some = some-line c.loop-all.invariant in
    omega arith

pub overflow_sub-lines-2 : goal.overflow_sub-lines-2
overflow_sub-lines-2 c =
    let ended = found_end c.loop-all.reader _ c.in_default.not-Some c.in_ok-line.ensures.found in
    let same = stays c.loop-all.reader c.next_line.new.reader ended c.in_ok-line.ensures.moved in
    let few = fewer_faulty c.loop-all.invariant in
    omega arith

pub returns : goal.returns
returns c =
    let ended = found_end c.loop-all.reader _ c.in_default.not-Some c.in_ok-line.ensures.found in
    let same = stays c.loop-all.reader c.next_line.new.reader ended c.in_ok-line.ensures.moved in
    so_far_all c.loop-all.invariant ended _ (c.line-lines.result - 1) (c.line-lines.result - 1 - c.loop-all.faulty) (ap (λ (k : ℕ). k - 1) (c.line-lines.ensures ∙ same)) refl
    (c.in_ok-push_str-2.ensures.bytes ∙ ap (λ (t : List ℕ). string_bytes c.loop-all.all ++ t) (c.as_str-2.ensures.value ∙ c.in_ok-total.ensures)) refl
