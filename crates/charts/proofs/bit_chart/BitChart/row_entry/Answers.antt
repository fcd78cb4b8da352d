use Rattle.std.proofs.Common.{arith}
use Rattle.charts.proofs.Recodes.{code_there, class_there}
use Rattle.charts.proofs.bit_chart.BitChart.row_entry.Goals as goal

pub bounds-recoding-x : goal.bounds-recoding-x
bounds-recoding-x c = code_there c.requires.ready c.args.x c.size-size.result c.size-size.ensures.value c.requires.inside

pub bounds-recoding-recoding : goal.bounds-recoding-recoding
bounds-recoding-recoding c = class_there c.requires.ready c.args.x c.size-size.result c.size-size.ensures.value c.requires.inside

pub offset_bounds-recoding-recoding : goal.offset_bounds-recoding-recoding
offset_bounds-recoding-recoding c =
    let there = class_there c.requires.ready c.args.x c.size-size.result c.size-size.ensures.value c.requires.inside in
    omega arith
