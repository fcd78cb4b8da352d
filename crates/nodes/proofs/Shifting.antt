-- The nodes below the first variables, moved to where the new variables end.
use Rattle.std.proofs.Common.{◌≡◌, ℕ, zero, suc, ◌+◌, ◌-◌, ◌^◌, ◌<◌, ◌≤◌, true, false, List, length, get_or, sym, refl, ap, ◌∙◌, inl, inr, ⊎_elim, arith}
use Rattle.std.proofs.lemmas.Bool.{cases_lt, cases_eq}
use Rattle.nodes.specs.declared.node.Node.{Node}
use Rattle.functions.specs.Functions.{Fn, rows}
use Rattle.functions.proofs.Rows.{rows_same}
use Rattle.nodes.specs.Diagrams.{at, mean, level, down, Placed, Ordered, node}
use Rattle.nodes.specs.Recodes.{Shift, kept, gone, Shifts, chosen, Leaves, Topped}
use Rattle.nodes.proofs.Canonical.{level-end, level-node, step, last_end}
use Rattle.nodes.proofs.Grown.{placed}
use Rattle.nodes.proofs.Swapping.{Downs, down_stands, down_passes}

module _ (m c : ℕ) (xs : List Node) (o : Ordered m xs c) (b j : ℕ) (bm : b ≤ m) (raw : List Node) (s : b < m → Shifts xs b j (c + 2) raw) where
  -- a number that has none of the first b variables keeps its children
  level_shift : (n : ℕ) → n < c + 2 → b ≤ level m xs n → level (m - b + j) raw n ≡ level m xs n - b + j
  level_shift n nc h = ⊎_elim small large (cases_lt n 2)
    where
      small : n < 2 → level (m - b + j) raw n ≡ level m xs n - b + j
      small k = omega (arith, level-end (m - b + j) raw n k, level-end m xs n k)

      go : 2 ≤ n → Shift xs b j n (at raw n) → level (m - b + j) raw n ≡ level m xs n - b + j
      go two (kept le e) = let v : (at raw n).var ≡ (at xs n).var - b + j = ap (λ (z : Node). z.var) e in omega (arith, level-node (m - b + j) raw n two, level-node m xs n two)
      go two (gone lt e) = absurd (omega (arith, level-node m xs n two))

      large : 2 ≤ n → level (m - b + j) raw n ≡ level m xs n - b + j
      large k = let p : Placed m xs n = o n k nc in go k (s (omega (arith, p.0, level-node m xs n k)) n k nc)

  -- a step from a moved node
  shift_down : (d d' n : ℕ) → d' ≡ d - b + j → b ≤ d → n < c + 2 → d ≤ level m xs n → Downs raw d' n (down false xs d n) (down true xs d n)
  shift_down d d' n de bd nc dl = ⊎_elim small large (cases_lt n 2)
    where
      both : Downs xs d n n n → Downs raw d' n n n → Downs raw d' n (down false xs d n) (down true xs d n)
      both x y = record { d0 = y.d0 ∙ sym x.d0; d1 = y.d1 ∙ sym x.d1 }

      small : n < 2 → Downs raw d' n (down false xs d n) (down true xs d n)
      small h = both (down_passes xs d n (λ a e. omega arith)) (down_passes raw d' n (λ a e. omega arith))

      go : 2 ≤ n → Shift xs b j n (at raw n) → Downs raw d' n (down false xs d n) (down true xs d n)
      go two (gone lt e) = absurd (omega (arith, level-node m xs n two))
      go two (kept le e) =
          ⊎_elim
          (λ (v : (at xs n).var ≡ d).
          let x = down_stands xs d n (at xs n) two refl v in
          let y = down_stands raw d' n (node ((at xs n).var - b + j) (at xs n).low (at xs n).high) two e (omega arith) in
          record { d0 = y.d0 ∙ sym x.d0; d1 = y.d1 ∙ sym x.d1 })
          (λ (v : (at xs n).var ≡ d → ⊥).
          let u : (at raw n).var ≡ (at xs n).var - b + j = ap (λ (z : Node). z.var) e in
          both (down_passes xs d n (λ a q. v q)) (down_passes raw d' n (λ a q. v (omega arith))))
          (cases_eq (at xs n).var d)

      large : 2 ≤ n → Downs raw d' n (down false xs d n) (down true xs d n)
      large h = let p : Placed m xs n = o n h nc in go h (s (omega (arith, p.0, level-node m xs n h)) n h nc)

  -- a moved node means what it meant
  shift_mean : (k d d' n : ℕ) → k + d ≡ m → d' ≡ d - b + j → b ≤ d → n < c + 2 → d ≤ level m xs n → mean raw k d' n ≡ mean xs k d n
  unfolding mean
  shift_mean zero d d' n km de bd nc dl = refl
  shift_mean (suc k) d d' n km de bd nc dl =
      let w = shift_down d d' n de bd nc dl in
      let s0 = step m c xs o false d n (omega arith) nc dl in
      let s1 = step m c xs o true d n (omega arith) nc dl in
      let g : ℕ → Fn = λ z. mean raw k (suc d') z in
      let h0 : mean raw k (suc d') (down false raw d' n) ≡ mean xs k (suc d) (down false xs d n) = ap g w.d0 ∙ shift_mean k (suc d) (suc d') (down false xs d n) (omega arith) (omega arith) (omega arith) (omega (arith, s0.less)) s0.later in
      let h1 : mean raw k (suc d') (down true raw d' n) ≡ mean xs k (suc d) (down true xs d n) = ap g w.d1 ∙ shift_mean k (suc d) (suc d') (down true xs d n) (omega arith) (omega arith) (omega arith) (omega (arith, s1.less)) s1.later in
      cc (h0, h1)

  -- the moved nodes are ordered
  ordered_shift : b < m → Ordered (m - b + j) raw c
  ordered_shift left n two nc = go (s left n two nc)
    where
      go : Shift xs b j n (at raw n) → Placed (m - b + j) raw n
      go (gone lt e) =
          let l = level-end (m - b + j) raw 0 (omega arith) in
          placed (m - b + j) raw n (node 0 0 0) e (omega arith) (omega arith) (omega arith) (omega arith) (omega arith)
      go (kept le e) =
          let p : Placed m xs n = o n two nc in
          let ll = level_shift (at xs n).low (omega arith) (omega (arith, p.3)) in
          let lh = level_shift (at xs n).high (omega arith) (omega (arith, p.4)) in
          placed (m - b + j) raw n (node ((at xs n).var - b + j) (at xs n).low (at xs n).high) e (omega arith) p.1 p.2 (omega (arith, ll, p.3)) (omega (arith, lh, p.4))

  -- the leaves among the first e nodes, which are all where a variable is left, and else none
  module _ (leaves : List ℕ) (ok : (q : ℕ) → q < length leaves → (get_or leaves q 0 < c + 2) × (b ≤ level m xs (get_or leaves q 0))) where
    pub leaves_ready : (e : ℕ) → (b < m → e ≡ c) → (b ≡ m → e ≡ 0) → Leaves raw e (m - b + j) j leaves
    leaves_ready e all none =
        record {
          ordered = λ n two nc. elim (cases_lt b m) [
            | inl h ↦ ordered_shift h n two (omega (arith, all h))
            | inr h ↦ absurd (omega (arith, none (omega arith)))
          ];
          arity = omega arith;
          there_are = λ q h. let w = ok q h in elim (cases_lt b m) [
            | inl l ↦ omega (arith, all l, w.0)
            | inr l ↦ omega (arith, last_end m c xs o (get_or leaves q 0) w.0 (omega (arith, w.1)))
          ];
          later = λ q h. let w = ok q h in omega (arith, level_shift (get_or leaves q 0) w.0 w.1);
        }

    chosen_is : length leaves ≡ 2 ^ j → chosen raw (m - b + j) j leaves j ≡ rows j (λ q. mean xs (m - b) b (get_or leaves q 0))
    chosen_is many =
        rows_same j (λ q. mean raw (m - b + j - j) j (get_or leaves q 0)) (λ q. mean xs (m - b) b (get_or leaves q 0))
        (λ q less.
        let w = ok q (omega arith) in
        let e : m - b + j - j ≡ m - b = omega arith in
        ap (λ (t : ℕ). mean raw t j (get_or leaves q 0)) e ∙ shift_mean (m - b) b j (get_or leaves q 0) (omega arith) (omega arith) (omega arith) w.0 w.1)

    pub recoded-mean : length leaves ≡ 2 ^ j → (e : ℕ) (ys : List Node) (c' root : ℕ) → Topped raw e ys c' (m - b + j) j leaves 0 root → mean ys (m - b + j) 0 root ≡ rows j (λ q. mean xs (m - b) b (get_or leaves q 0))
    recoded-mean many e ys c' root t =
        let e1 : m - b + j ≡ m - b + j - 0 = omega arith in
        let e2 : j - 0 ≡ j = omega arith in
        ap (λ (z : ℕ). mean ys z 0 root) e1 ∙ (t.means ∙ (ap (λ (z : ℕ). chosen raw (m - b + j) j leaves z) e2 ∙ chosen_is many))
