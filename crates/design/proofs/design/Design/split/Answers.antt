use Rattle.std.proofs.Common.{◌≡◌, ℕ, ◌+◌, ◌-◌, ◌^◌, ◌≤◌, ◌++◌, length, get_or, take, drop, refl, sym, ap, ◌∙◌, subst, arith}
use Rattle.std.specs.List.{range_with_len}
use Rattle.std.proofs.lemmas.List.FromFn.{length-map-range_with_len, get_or-map-range_with_len}
use Rattle.std.proofs.lemmas.List.{length-take-le, take-take}
use Rattle.functions.specs.Words.{bits}
use Rattle.functions.specs.Classes.{class_of}
use Rattle.rows.specs.Rows.{items}
use Rattle.design.specs.Cells.{cells_of}
use Rattle.design.specs.Designs.{left_of}
use Rattle.design.proofs.Splits.{classes-inside, split_short, split_full, split_unfit, split_done}
use Rattle.design.proofs.design.Design.split.Goals as goal

pub returns-in_default : goal.returns-in_default
returns-in_default g c =
    let long : length c.args.self.now.live ≡ 16 = omega arith in
    let ranged = c.if-not-in_range.ensures.0 refl in
    split_short g.C.Chart g.R.CodeRule g.F.CellFamily c.args.self.now c.args.b c.args.j c.args.strip.now c.number_classes.new.strip long c.if-self.false ranged c.in_default.ensures

pub returns-then-cells-gt-MOST : goal.returns-then-cells-gt-MOST
returns-then-cells-gt-MOST g c =
    let d = c.args.self.now in
    let long : length c.args.self.now.live ≡ 16 = omega arith in
    let ranged = c.if-not-in_range.ensures.0 refl in
    let few : c.in-Some.classes ≤ 2 ^ c.args.j = omega (arith, c.power.ensures.within (omega (arith, g.F.CellFamily.laws.few_pins c.args.self.now.family, ranged.pinned, ranged.fewer))) in
    split_full g.C.Chart g.R.CodeRule g.F.CellFamily d c.args.b c.args.j c.in-Some.classes c.args.strip.now c.number_classes.new.strip long c.if-self.false ranged c.in-Some.ensures few (omega (arith, c.count.ensures.value, c.if-cells-gt-MOST.true))

pub slice_bounds-places-end : goal.slice_bounds-places-end
slice_bounds-places-end g c =
    let d = c.args.self.now in
    let long : length c.args.self.now.live ≡ 16 = omega arith in
    let ranged = c.if-not-in_range.ensures.0 refl in
    let k = classes-inside g.C.Chart g.R.CodeRule g.F.CellFamily d c.args.b c.args.j c.in-Some.classes c.args.strip.now c.number_classes.new.strip long c.if-self.false ranged c.in-Some.ensures in
    omega arith

pub returns-in_default-recode : goal.returns-in_default-recode
returns-in_default-recode g c =
    let d = c.args.self.now in
    let long : length c.args.self.now.live ≡ 16 = omega arith in
    let ranged = c.if-not-in_range.ensures.0 refl in
    let few : c.in-Some.classes ≤ 2 ^ c.args.j = omega (arith, c.power.ensures.within (omega (arith, g.F.CellFamily.laws.few_pins c.args.self.now.family, ranged.pinned, ranged.fewer))) in
    let codes = c.code_classes.ensures in
    let spare : length (cells_of c.args.self.now.netlist) + c.args.j ≤ 47 = omega (arith, c.count.ensures.value, c.if-cells-gt-MOST.false) in
    let why = c.in_default-recode.ensures in
    split_unfit g.C.Chart g.R.CodeRule g.F.CellFamily d c.args.b c.args.j c.in-Some.classes c.args.strip.now c.number_classes.new.strip long c.if-self.false ranged c.in-Some.ensures few
    spare c.code_classes.result codes.long codes.classes (take c.in-Some.classes c.number_classes.new.strip) refl
    c.recode.new.self _ why.0 why.1

pub returns : goal.returns
returns g c =
    let d = c.args.self.now in
    let b = c.args.b in
    let long : length c.args.self.now.live ≡ 16 = omega arith in
    let ranged = c.if-not-in_range.ensures.0 refl in
    let few : c.in-Some.classes ≤ 2 ^ c.args.j = omega (arith, c.power.ensures.within (omega (arith, g.F.CellFamily.laws.few_pins c.args.self.now.family, ranged.pinned, ranged.fewer))) in
    let codes = c.code_classes.ensures in
    let spare : length (cells_of c.args.self.now.netlist) + c.args.j ≤ 47 = omega (arith, c.count.ensures.value, c.if-cells-gt-MOST.false) in
    let done = c.in-Ok.ensures in
    let small = g.C.Chart.laws.small c.args.self.now.chart.below in
    let wide = length-take-le c.count-2.result d.live (omega (arith, c.count-2.ensures)) in
    let f = left_of g.C.Chart g.R.CodeRule g.F.CellFamily d in
    let ns = items c.class_numbers-numbers.result in
    let numbers = c.class_numbers-numbers.ensures in
    split_done g.C.Chart g.R.CodeRule g.F.CellFamily d b c.args.j c.in-Some.classes c.args.strip.now c.number_classes.new.strip long c.if-self.false ranged c.in-Some.ensures few
    spare c.code_classes.result codes.long codes.classes (take c.in-Some.classes c.number_classes.new.strip) refl
    c.recode.new.self done.1
    ns (ap length numbers ∙ length-map-range_with_len (λ e. class_of b f (bits b e)) 0 (2 ^ b)) (λ e l. ap (λ xs. get_or xs e 0) numbers ∙ get_or-map-range_with_len (λ k. class_of b f (bits b k)) 0 (2 ^ b) e e 0 l (omega arith))
    (take b (take c.count-2.result d.live)) (take-take b c.count-2.result d.live (omega (arith, ranged.bound, c.count-2.ensures))) c.put_codes-self.new.netlist c.put_codes-self.ensures.cells c.put_codes-self.ensures.closed
    c.put_codes-self.result
    c.count.result
    (subst (λ (k : ℕ). take (g.C.Chart.arity d.chart.below - b + c.args.j) c.put_codes-self.result ≡ range_with_len (16 + k) c.args.j ++ drop b (take (g.C.Chart.arity d.chart.below) d.live)) (sym c.count.ensures.value)
    (subst (λ (i : ℕ). take (i - b + c.args.j) c.put_codes-self.result ≡ range_with_len (16 + length (cells_of d.netlist)) c.args.j ++ drop b (take i d.live)) c.count-2.ensures
    (subst (λ (i : ℕ). take (i - b + c.args.j) c.put_codes-self.result ≡ range_with_len (16 + length (cells_of d.netlist)) c.args.j ++ drop b (take c.count-2.result d.live)) wide c.put_codes-self.ensures.live)))
    c.count.ensures.value
