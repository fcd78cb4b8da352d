-- Node charts: their diagrams, their columns, and what it is to take on a function.
use Rattle.std.proofs.Common.{◌≡◌, ℕ, zero, suc, ◌+◌, ◌-◌, ◌^◌, ◌<◌, ◌≤◌, true, false, eqb, List, map, length, get_or, take, sym, refl, ap, ◌∙◌, subst, inl, inr, arith, pow_mono}
use Rattle.std.proofs.lemmas.Bool.{cases_lt, cases_eq, cases_Bool, eq-eqb, ne_eqb}
use Rattle.std.proofs.lemmas.List.{get_or-map}
use Rattle.functions.specs.Functions.{Fn, bit, rows, tree, recoded}
use Rattle.functions.specs.Classes.{same_fn}
use Rattle.functions.proofs.Values.{same-sound, same_self}
use Rattle.functions.proofs.Rows.{rows_same}
use Rattle.charts.specs.Changes.{whole, Became, Recodable}
use Rattle.rows.specs.Rows.{items}
use Rattle.nodes.specs.declared.node.Node.{Node}
use Rattle.std.proofs.lemmas.List.{get_or-take, length-take-le}
use Rattle.nodes.specs.declared.node_chart.NodeChart.{NodeChart}
use Rattle.nodes.specs.Diagrams.{mean, level, Diagram}
use Rattle.nodes.specs.Sizes.{size, Small}
use Rattle.nodes.specs.Recodes.{Shifts, Leaves, Topped}
use Rattle.nodes.specs.NodeCharts.{seen, place_column, node_function, Drawn}
use Rattle.nodes.specs.Laws.{NodeChartLaws}
use Rattle.nodes.specs.NodeLaws.{There, end, inner, seen_there, there_seen}
use Rattle.nodes.proofs.Canonical.{level-end, level-node, end_same, canonical}
use Rattle.nodes.proofs.Exact.{mean-arity}
use Rattle.nodes.proofs.Shifting.{leaves_ready, recoded-mean}
use Rattle.nodes.proofs.Unique.{sized}

-- the diagram of a chart
diagram_of : (s : NodeChart) → Diagram s.arity (items s.nodes) (length (items s.nodes)) s.root
diagram_of s = record { ordered = s.ordered; reduced = (s.proper, s.single); rooted = s.rooted; reached = s.reached }

-- a chart has as many nodes as the size of its function
pub chart_size : (s : NodeChart) → length (items s.nodes) ≡ size (node_function s)
chart_size s = sized s.arity (length (items s.nodes)) (items s.nodes) s.root (diagram_of s)

-- a number that is there is one of the diagram's, and its variable is not before the depth
there-level : (m c : ℕ) (xs : List Node) (d n : ℕ) → d ≤ m → There xs c d n → (n < c + 2) × (d ≤ level m xs n)
there-level m c xs d n dm (end h) = (omega arith, omega (arith, level-end m xs n h))
there-level m c xs d n dm (inner two nc l) = (nc, omega (arith, level-node m xs n two))

-- the root stands for itself
pub whole_is : (s : NodeChart) → whole place_column (λ z. z.root) s ≡ node_function s
whole_is s =
    let all : s.arity - 0 ≡ s.arity = omega arith in
    let t : There (items s.nodes) (length (items s.nodes)) 0 s.root = elim (cases_lt s.root 2) [ inl h ↦ end h | inr h ↦ inner h s.rooted (omega arith) ] in
    ap (λ (z : ℕ). mean (items s.nodes) (s.arity - 0) 0 z) (there_seen t) ∙ ap (λ (z : ℕ). mean (items s.nodes) z 0 s.root) all

-- places that mean the same column stand for the same number
seen-once : (s : NodeChart) (d a b : ℕ) → place_column s d a ≡ place_column s d b → seen (items s.nodes) (length (items s.nodes)) d a ≡ seen (items s.nodes) (length (items s.nodes)) d b
unfolding mean
seen-once s d a b e =
    let xs = items s.nodes in
    let c = length (items s.nodes) in
    let ta = seen_there xs c d a in
    let tb = seen_there xs c d b in
    elim (cases_lt s.arity d) [
      | inl l ↦
          let none : s.arity - d ≡ 0 = omega arith in
          end_same _ _ (past l ta) (past l tb) (rw none at e)
      | inr l ↦
          let la = there-level s.arity c xs d (seen xs c d a) l ta in
          let lb = there-level s.arity c xs d (seen xs c d b) l tb in
          canonical s.arity c xs s.ordered (s.proper, s.single) (s.arity - d) d (omega arith) (seen xs c d a) (seen xs c d b) la.0 lb.0 la.1 lb.1 e
    ]
  where
    past : s.arity < d → {n : ℕ} → There (items s.nodes) (length (items s.nodes)) d n → n < 2
    past l {n} (end h) = h
    past l {n} (inner two nc h) = let p = s.ordered n two nc in absurd (omega (arith, p.0))

-- places stand for the same number exactly if they mean the same column
pub same_seen : (s : NodeChart) (d a b : ℕ) → eqb (seen (items s.nodes) (length (items s.nodes)) d a) (seen (items s.nodes) (length (items s.nodes)) d b) ≡ same_fn (place_column s d a) (place_column s d b)
same_seen s d a b =
    let x = seen (items s.nodes) (length (items s.nodes)) d a in
    let y = seen (items s.nodes) (length (items s.nodes)) d b in
    let f = place_column s d a in
    let g = place_column s d b in
    elim (cases_eq x y) [
      | inl e ↦
          let fg : f ≡ g = ap (mean (items s.nodes) (s.arity - d) d) e in
          eq-eqb x y e ∙ sym (subst (λ (z : Fn). same_fn f z ≡ true) fg (same_self f))
      | inr ne ↦ elim (cases_Bool (same_fn f g)) [
        | inl t ↦ absurd (ne (seen-once s d a b (same-sound f g t)))
        | inr t ↦ ne_eqb x y ne ∙ sym t
      ]
    ]

-- ---- the laws

-- the end 0 means zero
zero_means : (xs : List Node) (k d : ℕ) → mean xs k d 0 ≡ tree k (λ i. false)
unfolding mean
zero_means xs zero d = refl
zero_means xs (suc k) d = let e = zero_means xs k (suc d) in cc

-- the function of a chart fits
small_function : (s : NodeChart) → Small (node_function s)
small_function s = (record { count = s.arity; within = s.small; arity = mean-arity (items s.nodes) s.arity 0 s.root }, omega (arith, chart_size s, s.room))

pub node_chart_laws : NodeChartLaws
node_chart_laws = record {
  diagram = diagram_of;
  arity = λ s. mean-arity (items s.nodes) s.arity 0 s.root;
  fits = small_function;
  lacking = λ s d n h. rw h (zero_means (items s.nodes) (s.arity - d) d);
}

-- ---- a chart in the place of another

-- a chart of f in the place of another
pub became : (s t : NodeChart) (m : ℕ) (f : Fn) → Drawn m f t → Became (λ z. z.arity) (whole place_column (λ z. z.root)) (λ z. Small) m f s t
became s t m f d = record {
  fitted = subst Small d.meaning (small_function t);
  meaning = whole_is t ∙ d.meaning;
  counted = d.counted;
  fitting = λ g. (λ h. h, λ h. h);
}

-- ---- the leaves of a recode

-- there are at most 16 codes
pub code_room : (j : ℕ) → j ≤ 4 → 2 ^ j ≤ 16
code_room j h = pow_mono h

-- the codes' leaves, whose numbers are in front in a list of 16
pub record Coded (f : ℕ → ℕ) (class_of : List ℕ) (j : ℕ) (leaves : List ℕ) : Type 0 where
  pub many : length leaves ≡ 2 ^ j
  pub each : (q : ℕ) → q < length leaves → get_or leaves q 0 ≡ f (get_or class_of q 0)

pub coded : (f : ℕ → ℕ) (class_of : List ℕ) (j w : ℕ) → w ≡ 2 ^ j → j ≤ 4 → (leaves : List ℕ) → length leaves ≡ 16 → ((q : ℕ) → q < 2 ^ j → get_or leaves q 0 ≡ f (get_or class_of q 0)) → Coded f class_of j (take w leaves)
coded f class_of j w we jl leaves len each =
    let room = code_room j jl in
    let long = length-take-le w leaves (omega arith) in
    record { many = long ∙ we; each = λ q less. get_or-take w leaves q 0 (omega arith) ∙ each q (omega arith) }

module _ (s : NodeChart) (b j : ℕ) (places class_of : List ℕ) (ok : Recodable s.arity b j (length places) class_of) (leaves : List ℕ) (codes : Coded (λ z. seen (items s.nodes) (length (items s.nodes)) b (get_or places z 0)) class_of j leaves) where
  -- each leaf is there at the depth b
  leaf_there : (q : ℕ) → q < length leaves → (get_or leaves q 0 < length (items s.nodes) + 2) × (b ≤ level s.arity (items s.nodes) (get_or leaves q 0))
  leaf_there q h = there-level s.arity (length (items s.nodes)) (items s.nodes) b (get_or leaves q 0) ok.bound (subst (There (items s.nodes) (length (items s.nodes)) b) (sym (codes.each q h)) (seen_there (items s.nodes) (length (items s.nodes)) b (get_or places (get_or class_of q 0) 0)))

  -- the leaves mean the columns of the classes
  leaves-mean : rows j (λ q. mean (items s.nodes) (s.arity - b) b (get_or leaves q 0)) ≡ recoded j (map (place_column s b) places) (λ q. get_or class_of q 0)
  leaves-mean =
      rows_same j (λ q. mean (items s.nodes) (s.arity - b) b (get_or leaves q 0)) (λ q. get_or (map (place_column s b) places) (get_or class_of q 0) (bit false))
      (λ q l. ap (mean (items s.nodes) (s.arity - b) b) (codes.each q (omega (arith, codes.many))) ∙ sym (get_or-map (place_column s b) places (get_or class_of q 0) 0 (bit false) (ok.placed q l)))

  module _ (raw : List Node) (shifts : b < s.arity → Shifts (items s.nodes) b j (length (items s.nodes) + 2) raw) (e : ℕ) (all : b < s.arity → e ≡ length (items s.nodes)) (none : b ≡ s.arity → e ≡ 0) where
    -- the moved nodes are ready for the new variables
    pub ready : Leaves raw e (s.arity - b + j) j leaves
    ready = leaves_ready s.arity (length (items s.nodes)) (items s.nodes) s.ordered b j ok.bound raw shifts leaves leaf_there e all none

    -- what the top of the new nodes means
    pub recoded_is : (ys : List Node) (c root : ℕ) → Topped raw e ys c (s.arity - b + j) j leaves 0 root → mean ys (s.arity - b + j) 0 root ≡ recoded j (map (place_column s b) places) (λ q. get_or class_of q 0)
    recoded_is ys c root t = recoded-mean s.arity (length (items s.nodes)) (items s.nodes) s.ordered b j ok.bound raw shifts leaves leaf_there codes.many e ys c root t ∙ leaves-mean
