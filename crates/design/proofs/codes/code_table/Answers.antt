use Rattle.std.proofs.Common.{ℕ, ◌-◌, ◌/◌, ◌%◌, ◌^◌, Bool, nat_eq, slice_index, ap, ◌∙◌, rules}
use native.Mathlib.Nat.{min-eq_left}
use Rattle.families.specs.Tables.{tabled}
use Rattle.families.proofs.TableEntries.{tabulated_row}
use Rattle.design.proofs.codes.code_table.Goals as goal

pub returns : goal.returns
returns g c =
    let ns = c.args.numbers.now in
    let row : ℕ → Bool = λ e. nat_eq (g.R.CodeRule.code c.args.rule.now c.args.j (slice_index ns e) / 2 ^ (c.args.j - 1 - c.args.t) % 2) 1 in
    tabulated_row {row = row} _ _ c.tabulate.ensures.made (λ e b l k. search rules) ∙ ap (λ k. tabled k row) (min-eq_left c.requires.short)
