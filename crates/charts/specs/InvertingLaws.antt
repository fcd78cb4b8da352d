-- The negation of a chart keeps the laws of charts.
use Rattle.std.proofs.Common.{ap}
use Rattle.std.specs.Prelude.{ℕ, Bool, not}
use Rattle.functions.specs.Functions.{Fn, negated}
use Rattle.charts.specs.Laws.{Laws}

-- charts D over the charts C below them
pub inverting_laws : {C P D : Type 0} {arity : C → ℕ} {column : C → ℕ → P → Fn} {next : C → ℕ → P → Bool → P} (below : D → C) → Laws arity column next →
    Laws (λ s. arity (below s)) (λ s d p. negated (column (below s) d p)) (λ s. next (below s))
inverting_laws below laws = record {
  small = λ s. laws.small (below s);
  forks = λ s d p h. ap negated (laws.forks (below s) d p h);
  ends = λ s p. let end = laws.ends (below s) p in (not end.0, ap negated end.1);
  past = λ s d p h. ap negated (laws.past (below s) d p h);
  stays = λ s. laws.stays (below s);
}
