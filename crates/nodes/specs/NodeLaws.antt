-- The node chart keeps the laws of charts.
use Rattle.std.specs.Prelude.{◌≡◌, ℕ, suc, ◌+◌, ◌-◌, ◌<◌, ◌≤◌, Bool, true, false, cond, ◌&&◌, List, length, ◌==◌, nat_le, nat_lt, refl}
use Rattle.std.proofs.Common.{sym, ap, ◌∙◌, inl, inr, add-one, arith}
use Rattle.std.proofs.lemmas.Bool.{ltb-true, ltb-false, leb-true, eqb-true, eqb-false, and_parts, and_cases, cases_lt, lt-ltb, le-ltb, le-leb, ne_eqb, true≢false}
use Rattle.functions.specs.Functions.{Fn, bit, fork}
use Rattle.charts.specs.Laws.{Laws}
use Rattle.rows.specs.Rows.{items}
use Rattle.nodes.specs.declared.node.Node.{Node}
use Rattle.nodes.specs.declared.node_chart.NodeChart.{NodeChart}
use Rattle.nodes.specs.Diagrams.{at, child, tests, down, mean, level, Placed, Ordered}
use Rattle.nodes.specs.NodeCharts.{has, seen, place_column, onward}

-- n is there at the depth d
pub data There (xs : List Node) (c d n : ℕ) : Type 0 where
  end : n < 2 → There xs c d n
  inner : 2 ≤ n → n < c + 2 → d ≤ (at xs n).var → There xs c d n

pub there_has : {xs : List Node} {c d n : ℕ} → There xs c d n → has xs c d n ≡ true
there_has {xs} {c} {d} {n} (end h) = rw (lt-ltb n 2 h)
there_has {xs} {c} {d} {n} (inner a b e) = rw (le-ltb n 2 a, lt-ltb n (c + 2) b, le-leb d (at xs n).var e)

pub has_there : {xs : List Node} {c d n : ℕ} → has xs c d n ≡ true → There xs c d n
has_there {xs} {c} {d} {n} e =
    elim (cases_lt n 2) [
      | inl h ↦ end h
      | inr h ↦
          let w : (nat_lt n (c + 2) && nat_le d (at xs n).var) ≡ true = rw (le-ltb n 2 h) at e in
          let p = and_parts (nat_lt n (c + 2)) (nat_le d (at xs n).var) w in
          inner h (ltb-true n (c + 2) p.0) (leb-true d (at xs n).var p.1)
    ]

pub seen_there : (xs : List Node) (c d n : ℕ) → There xs c d (seen xs c d n)
seen_there xs c d n = go (has xs c d n) refl
  where
    go : (t : Bool) → has xs c d n ≡ t → There xs c d (cond t n 0)
    go true e = has_there e
    go false e = end (omega arith)

pub there_seen : {xs : List Node} {c d n : ℕ} → There xs c d n → seen xs c d n ≡ n
there_seen {xs} {c} {d} {n} t = rw (there_has t)

-- where a step leads from a number that is there is there one deeper
pub down_there : (m c : ℕ) (xs : List Node) → Ordered m xs c → (v : Bool) (d n : ℕ) → There xs c d n → There xs c (suc d) (down v xs d n)
down_there m c xs o v d n t = go (tests xs d n) refl t
  where
    below : (l : ℕ) → l < n → n < c + 2 → d < level m xs l → There xs c (suc d) l
    below l less nc later =
        elim (cases_lt l 2) [
          | inl h ↦ end h
          | inr h ↦ let w = le-ltb l 2 h in inner h (omega arith) (rw w at later)
        ]

    kid : (w : Bool) → 2 ≤ n → n < c + 2 → (at xs n).var ≡ d → There xs c (suc d) (child w (at xs n))
    kid false a b e = let p : Placed m xs n = o n a b in below (at xs n).low p.1 b (omega (arith, p.3))
    kid true a b e = let p : Placed m xs n = o n a b in below (at xs n).high p.2 b (omega (arith, p.4))

    go : (b : Bool) → tests xs d n ≡ b → There xs c d n → There xs c (suc d) (cond b (child v (at xs n)) n)
    go true e (end h) = let p = and_parts (nat_lt 1 n) ((at xs n).var == d) e in absurd (omega (arith, ltb-true 1 n p.0))
    go true e (inner a b l) = kid v a b (eqb-true (at xs n).var d (and_parts (nat_lt 1 n) ((at xs n).var == d) e).1)
    go false e (end h) = end h
    go false e (inner a b l) =
        elim (and_cases (nat_lt 1 n) ((at xs n).var == d) e) [
          | inl f ↦ absurd (omega (arith, ltb-false 1 n f))
          | inr f ↦ let ne = eqb-false (at xs n).var d f in inner a b (omega arith)
        ]

-- a column forks into those of the next places
column_forks : (s : NodeChart) (d n : ℕ) → d < s.arity →
    place_column s d n ≡ fork (place_column s (d + 1) (onward s d n false)) (place_column s (d + 1) (onward s d n true))
unfolding mean
column_forks s d n h =
    let xs = items s.nodes in
    let c = length (items s.nodes) in
    let t = seen_there xs c d n in
    let low = there_seen (down_there s.arity c xs s.ordered false d (seen xs c d n) t) in
    let high = there_seen (down_there s.arity c xs s.ordered true d (seen xs c d n) t) in
    let above : s.arity - d ≡ suc (s.arity - (d + 1)) = omega arith in
    let short = lt-ltb d s.arity h in
    let next : d + 1 ≡ suc d = add-one d in
    let k = s.arity - (d + 1) in
    let g : ℕ → ℕ → Fn = λ e l. mean xs k e (seen xs c e l) in
    let a : (l : ℕ) → seen xs c (suc d) l ≡ l → mean xs k (suc d) l ≡ mean xs k (d + 1) (seen xs c (d + 1) l) =
    λ l e. sym (ap (λ (z : ℕ). g z l) next ∙ ap (mean xs k (suc d)) e) in
    rw (short, above) (let p = a (down false xs d (seen xs c d n)) low in let q = a (down true xs d (seen xs c d n)) high in cc)

-- at the last depth, and past it, a column is a bit
pub column_ends : (s : NodeChart) (d n : ℕ) → s.arity ≤ d → place_column s d n ≡ bit (n == 1)
unfolding mean
column_ends s d n h =
    let none : s.arity - d ≡ 0 = omega arith in
    rw none (ap bit (go (has (items s.nodes) (length (items s.nodes)) d n) refl))
  where
    go : (b : Bool) → has (items s.nodes) (length (items s.nodes)) d n ≡ b → (cond b n 0 == 1) ≡ (n == 1)
    go true e = refl
    go false e = elim (cases_lt n 2) [
      | inl l ↦ absurd (true≢false (sym (there_has {xs = items s.nodes} {c = length (items s.nodes)} {d = d} (end l)) ∙ e))
      | inr l ↦ sym (ne_eqb n 1 (λ q. omega arith))
    ]

pub node_laws : Laws {C = NodeChart} {P = ℕ} (λ s. s.arity) place_column onward
node_laws = record {
  small = λ s. s.small;
  forks = column_forks;
  ends = λ s n. ((n == 1), column_ends s s.arity n (omega arith));
  past = λ s d n h. column_ends s d n h ∙ sym (column_ends s s.arity n (omega arith));
  stays = λ s d n v h. rw (le-ltb d s.arity h);
}
