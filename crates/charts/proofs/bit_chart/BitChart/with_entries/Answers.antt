use Rattle.std.proofs.Common.{◌≤◌, length, rules, arith}
use Rattle.charts.proofs.Stretches.{table_size, loads}
use Rattle.charts.proofs.bit_chart.BitChart.with_entries.Goals as goal

pub slice_bounds-copy_from_slice-end : goal.slice_bounds-copy_from_slice-end
slice_bounds-copy_from_slice-end c =
    let few : length c.args.entries.now ≤ 4096 = omega (arith, table_size, c.power.ensures.within) in
    search rules

pub copy_from_slice-requires : goal.copy_from_slice-requires
copy_from_slice-requires c =
    let few : length c.args.entries.now ≤ 4096 = omega (arith, table_size, c.power.ensures.within) in
    search rules

pub returns : goal.returns
returns c =
    let size = c.power.ensures.within (omega arith) in
    (record { small = c.if-n-gt-MOST.false; whole = omega arith }, loads c.args.n c.args.entries.now _ _ c.copy_from_slice.ensures.after (omega arith))
