use Rattle.std.proofs.Common.{refl, inr}
use Rattle.charts.proofs.Recodes.{recoded-means, recoded-fits, recoded_too_wide}
use Rattle.charts.proofs.bit_chart.BitChartChart.recode.Goals as goal

pub returns-then-count-gt-MOST : goal.returns-then-count-gt-MOST
returns-then-count-gt-MOST c =
    let s = c.args.self.now in
    let r = c.args.recoding.now in
    let ok = c.if-not-in_range.ensures.0 refl in
    (refl, inr (refl, ok, recoded_too_wide s.count r.bound r.codes s.table r.places.now r.class_of.now ok 12 c.if-count-gt-MOST.true))

pub returns : goal.returns
returns c =
    let s = c.args.self.now in
    let r = c.args.recoding.now in
    let ok = c.if-not-in_range.ensures.0 refl in (
      ok,
      record {
        fitted = recoded-fits s.count r.bound r.codes s.table r.places.now r.class_of.now ok 12 c.if-count-gt-MOST.false;
        meaning = recoded-means s.count r.bound r.codes s.table r.places.now r.class_of.now ok c.rows-table.result c.rows-table.ensures;
        counted = refl;
        fitting = λ f. (λ h. h, λ h. h);
      },
    )
