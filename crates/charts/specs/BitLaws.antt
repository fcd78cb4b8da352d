-- The bit chart keeps the laws of charts.
use Rattle.std.specs.Prelude.{◌≡◌, ℕ, suc, ◌+◌, ◌-◌, ◌^◌, ◌<◌, ◌≤◌, Bool, true, false, cond, List, ◌==◌, nat_le, slice_index_or, refl}
use Rattle.std.proofs.Common.{sym, ap, ◌∙◌, arith, pow_pos}
use Rattle.std.proofs.Math.Nat.{two-pow-succ}
use Rattle.std.proofs.lemmas.Bool.{lt-ltb, le-ltb, eqb-true, leb-true, eq-eqb, le-leb, ne_eqb, and_parts, and_from, and_left}
use Rattle.functions.specs.Functions.{bit, fork, tree}
use Rattle.functions.proofs.Rows.{tree-same}
use Rattle.charts.specs.Laws.{Laws}
use Rattle.charts.specs.Stretches.{there, entry_of, stretch_column, nowhere, half_of, onward}
use Rattle.charts.specs.declared.bit_chart.Stretch.{Stretch}
use Rattle.charts.specs.declared.bit_chart.BitChart.{BitChart}

there_nowhere : (m k : ℕ) → there m k nowhere ≡ false
there_nowhere m k = and_left (0 == 2 ^ k) (nat_le (0 + 0) (2 ^ m)) (ne_eqb 0 (2 ^ k) (λ e. omega (arith, pow_pos k)))

there_half : (m k : ℕ) (p : Stretch) (v : Bool) → there m (suc k) p ≡ true → there m k (half_of (2 ^ k) p v) ≡ true
there_half m k p v h =
    let parts = and_parts (p.len == 2 ^ suc k) (nat_le (p.start + p.len) (2 ^ m)) h in
    let long = eqb-true p.len (2 ^ suc k) parts.0 in
    let inside = leb-true (p.start + p.len) (2 ^ m) parts.1 in
    let from : (s : ℕ) → s ≤ p.start + 2 ^ k → there m k (record { start = s; len = 2 ^ k }) ≡ true =
    λ s l. and_from (2 ^ k == 2 ^ k) (nat_le (s + 2 ^ k) (2 ^ m)) (eq-eqb (2 ^ k) (2 ^ k) refl) (le-leb (s + 2 ^ k) (2 ^ m) (omega (arith, two-pow-succ k))) in
    elim v as (λ w. there m k (half_of (2 ^ k) p w) ≡ true) [ true ↦ from (p.start + 2 ^ k) (omega arith) | false ↦ from p.start (omega arith) ]

-- a stretch is the fork of its halves, and one that the table lacks the fork of two that it lacks
forks_by : (m k : ℕ) (table : List Bool) (p : Stretch) (b : Bool) → there m (suc k) p ≡ b →
    tree (suc k) (entry_of m table (suc k) p) ≡ fork (tree k (entry_of m table k (cond b (half_of (2 ^ k) p false) nowhere))) (tree k (entry_of m table k (cond b (half_of (2 ^ k) p true) nowhere)))
forks_by m k table p true h =
    let low = there_half m k p false h in
    let high = there_half m k p true h in
    rw (h, low, high) (
    ap (fork (tree k (λ i. slice_index_or table (p.start + i) false)))
    (tree-same k (λ i. slice_index_or table (p.start + (2 ^ k + i)) false) (λ i. slice_index_or table (p.start + 2 ^ k + i) false)
    (λ i l. let e : p.start + (2 ^ k + i) ≡ p.start + 2 ^ k + i = omega arith in ap (λ n. slice_index_or table n false) e))
    )
forks_by m k table p false h = rw (h, there_nowhere m k)

column_forks : (m : ℕ) (table : List Bool) (d : ℕ) (p : Stretch) → d < m →
    stretch_column m table d p ≡ fork (stretch_column m table (d + 1) (onward m d p false)) (stretch_column m table (d + 1) (onward m d p true))
column_forks m table d p h =
    let above : m - d ≡ suc (m - (d + 1)) = omega arith in
    let short = lt-ltb d m h in
    rw (short, above) (forks_by m (m - (d + 1)) table p (there m (suc (m - (d + 1))) p) refl)

pub column_ends : (m : ℕ) (table : List Bool) (d : ℕ) (p : Stretch) → m ≤ d → stretch_column m table d p ≡ bit (entry_of m table 0 p 0)
column_ends m table d p h = let none : m - d ≡ 0 = omega arith in rw none

pub bit_laws : Laws {C = BitChart} {P = Stretch} (λ s. s.count) (λ s. stretch_column s.count s.table) (λ s. onward s.count)
bit_laws = record {
  small = λ s. omega (arith, s.small);
  forks = λ s. column_forks s.count s.table;
  ends = λ s p. (entry_of s.count s.table 0 p 0, column_ends s.count s.table s.count p (omega arith));
  past = λ s d p h. column_ends s.count s.table d p h ∙ sym (column_ends s.count s.table s.count p (omega arith));
  stays = λ s d p v h. rw (le-ltb d s.count h);
}
