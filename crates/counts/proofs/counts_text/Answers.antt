use Rattle.std.proofs.Common.{ℕ, List, ◌++◌, string_bytes, ap, ◌∙◌, arith}
use Rattle.charts.specs.Walks.{chart_function}
use Rattle.counts.proofs.Widths.{width-more, width-none}
use Rattle.counts.proofs.counts_text.Goals as goal
use Rattle.counts.proofs.counts_text.Goals.{in-Some+in_ok-line+in_ok-push_str, in_default}

pub loop-width-preserved : goal.loop-width-preserved
loop-width-preserved g c =
    let m = g.C.Chart.arity c.args.chart.now in
    let f = chart_function g.C.Chart c.args.chart.now in
    let said = string_bytes c.loop-width.text in
    elim c.match-branch-3.branch [
      | in-Some+in_ok-line+in_ok-push_str w ↦
          width-more m c.loop-width.width f said (omega arith) c.loop-width.invariant c.in_ok-count.field-0 w.in-Some.count (string_bytes w.in_ok-line.line) _ w.in-Some.is c.in_ok-count.ensures w.in_ok-line.ensures
          (ap string_bytes w.text-is ∙ w.in_ok-push_str.ensures.bytes ∙ ap (λ (t : List ℕ). said ++ t) w.as_str.ensures.value)
      | in_default w ↦ width-none m c.loop-width.width f said (omega arith) c.loop-width.invariant c.in_ok-count.field-0 _ w.in_default.not-Some c.in_ok-count.ensures (omega arith) (ap string_bytes w.text-is)
    ]
