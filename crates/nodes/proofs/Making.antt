-- What the store answers means the node that was asked for.
use Rattle.std.proofs.Common.{◌≡◌, ℕ, suc, ◌+◌, ◌-◌, ◌<◌, ◌≤◌, true, false, List, [], ◌∷◌, ◌++◌, length, sym, refl, ap, ◌∙◌, subst, ⊎_elim, arith}
use Rattle.std.proofs.lemmas.Bool.{cases_lt}
use Rattle.std.proofs.lemmas.List.{get_or_append_left, get_or_push, length_push}
use Rattle.rows.specs.Rows.{items}
use Rattle.nodes.specs.declared.node.Node.{Node}
use Rattle.nodes.specs.declared.store.Store.{Store}
use Rattle.functions.specs.Functions.{Fn, fork}
use Rattle.nodes.specs.Diagrams.{at, down, mean, level, Ordered, Reduced, blank}
use Rattle.nodes.specs.Sizes.{parts, size}
use Rattle.nodes.specs.Stores.{Absent, Did, dropped, there, pushed}
use Rattle.nodes.proofs.Canonical.{Look, stands, passes, look, level-node, canonical}
use Rattle.nodes.proofs.Indexes.{at_old, at_new}
use Rattle.nodes.proofs.Grown.{Agree, Above, mean-agree, ordered_grown, reduced_grown}
use Rattle.nodes.proofs.Counting.{In, part_self}
use Rattle.nodes.proofs.Exact.{own, Needed, at_least}

-- each part of g is one of f
abbrev pub Inside : Fn → Fn → Type 0
Inside g f = (x : Fn) → In x (parts g) → In x (parts f)

-- the nodes so far: ordered, reduced, and each a part of f
pub record State (m : ℕ) (f : Fn) (xs : List Node) (c : ℕ) : Type 0 where
  pub ordered : Ordered m xs c
  pub reduced : Reduced xs c
  pub needed : Needed m xs c f

-- one variable further, at a node that has it, and at a number that has not
pub mean_stands : (xs : List Node) (k d n : ℕ) (y : Node) → 2 ≤ n → at xs n ≡ y → y.var ≡ d → mean xs (suc k) d n ≡ fork (mean xs k (suc d) y.low) (mean xs k (suc d) y.high)
unfolding mean
mean_stands xs k d n y two e v = go (look xs d n)
  where
    go : Look xs d n → mean xs (suc k) d n ≡ fork (mean xs k (suc d) y.low) (mean xs k (suc d) y.high)
    go (stands two' v' e0 e1) =
        let l : down false xs d n ≡ y.low = e0 ∙ ap (λ (z : Node). z.low) e in
        let h : down true xs d n ≡ y.high = e1 ∙ ap (λ (z : Node). z.high) e in
        cc
    go (passes nay e0 e1) = absurd (nay two (ap (λ (z : Node). z.var) e ∙ v))

pub mean_passes : (m : ℕ) (xs : List Node) (k d n : ℕ) → d < level m xs n → mean xs (suc k) d n ≡ fork (mean xs k (suc d) n) (mean xs k (suc d) n)
unfolding mean
mean_passes m xs k d n less = go (look xs d n)
  where
    go : Look xs d n → mean xs (suc k) d n ≡ fork (mean xs k (suc d) n) (mean xs k (suc d) n)
    go (stands two v e0 e1) = absurd (omega (arith, level-node m xs n two))
    go (passes nay e0 e1) = cc

module _ (m : ℕ) (f : Fn) (xs : List Node) (c : ℕ) (st : State m f xs c) (node : Node) (k : ℕ) (km : k + suc node.var ≡ m) (above : Above m xs c node) where
  module _ (inside : Inside (fork (mean xs k (suc node.var) node.low) (mean xs k (suc node.var) node.high)) f) (apart : node.low ≡ node.high → ⊥) (absent : Absent xs c node) where
    grow : (ys : List Node) → Agree xs ys c → at ys (c + 2) ≡ node → State m f ys (c + 1)
    grow ys g new =
        let o' = ordered_grown m c xs ys node st.ordered g new above in
        let r' = reduced_grown c xs ys node st.reduced g new apart absent in
        record { ordered = o'; reduced = r'; needed = needed' }
      where
        A : Fn
        A = mean xs k (suc node.var) node.low

        B : Fn
        B = mean xs k (suc node.var) node.high

        halves : A ≡ B → ⊥
        halves e =
            let l = above.low-later in
            let h = above.high-later in
            apart (canonical m c xs st.ordered st.reduced k (suc node.var) km node.low node.high above.low-there above.high-there l h e)

        needed' : (n : ℕ) → 2 ≤ n → n < c + 1 + 2 → In (own m ys n) (parts f)
        needed' n two less =
            ⊎_elim
            (λ (h : n < c + 2).
            let e = g n two h in
            let v : (at ys n).var ≡ (at xs n).var = ap (λ (z : Node). z.var) e in
            let q : own m ys n ≡ own m xs n = ap (λ (t : ℕ). mean ys (m - t) t n) v ∙ mean-agree m c xs ys st.ordered g (m - (at xs n).var) (at xs n).var n h in
            let P : Fn → Type 0 = λ z. In z (parts f) in
            subst P (sym q) (st.needed n two h))
            (λ (h : c + 2 ≤ n).
            let n≡ : n ≡ c + 2 = omega arith in
            let e : at ys n ≡ node = ap (at ys) n≡ ∙ new in
            let v : (at ys n).var ≡ node.var = ap (λ (z : Node). z.var) e in
            let kv : m - node.var ≡ suc k = omega arith in
            let q0 : own m ys n ≡ mean ys (suc k) node.var n = ap (λ (t : ℕ). mean ys (m - t) t n) v ∙ ap (λ (t : ℕ). mean ys t node.var n) kv in
            let q1 = mean_stands ys k node.var n node two e refl in
            let q2 = mean-agree m c xs ys st.ordered g k (suc node.var) node.low above.low-there in
            let q3 = mean-agree m c xs ys st.ordered g k (suc node.var) node.high above.high-there in
            let q : own m ys n ≡ fork A B = cc in
            let P : Fn → Type 0 = λ z. In z (parts f) in
            subst P (sym q) (inside (fork A B) (part_self A B halves)))
            (cases_lt n (c + 2))

    -- where there is no room, f has more parts than there are nodes
    pub too_many : length xs ≡ c → c + 1 ≤ size f
    too_many len =
        let ys : List Node = xs ++ (node ∷ []) in
        let g : Agree xs ys c = λ n two less. get_or_append_left xs (node ∷ []) blank (n - 2) (omega arith) in
        let w : c + 2 - 2 ≡ c = omega arith in
        let new : at ys (c + 2) ≡ node = rw w (get_or_push xs node blank c len) in
        let s = grow ys g new in
        at_least m (c + 1) ys s.ordered s.reduced f s.needed

-- what `make` answers: a number of the store as it is now, whose function is the one asked for
pub record Answer (m : ℕ) (xs : List Node) (c : ℕ) (ys : List Node) (c' : ℕ) (k : ℕ) (node : Node) (r : ℕ) : Type 0 where
  pub there_is : r < c' + 2
  pub later : node.var ≤ level m ys r
  pub means : mean ys (suc k) node.var r ≡ fork (mean xs k (suc node.var) node.low) (mean xs k (suc node.var) node.high)
  pub agree : Agree xs ys c
  pub more : c ≤ c'

-- what each answer keeps and means
pub made : (m : ℕ) (f : Fn) (s t : Store) (node : Node) (r : ℕ) → State m f (items s.nodes) (length (items s.nodes)) → (k : ℕ) → k + suc node.var ≡ m → Above m (items s.nodes) (length (items s.nodes)) node → Inside (fork (mean (items s.nodes) k (suc node.var) node.low) (mean (items s.nodes) k (suc node.var) node.high)) f → Did s t node r → State m f (items t.nodes) (length (items t.nodes)) × Answer m (items s.nodes) (length (items s.nodes)) (items t.nodes) (length (items t.nodes)) k node r
made m f s t node r st k km above inside (dropped e q n) =
    let P : Store → Type 0 = λ z. State m f (items z.nodes) (length (items z.nodes)) × Answer m (items s.nodes) (length (items s.nodes)) (items z.nodes) (length (items z.nodes)) k node r in
    let lower : node.var < level m (items s.nodes) r = let Q : ℕ → Type 0 = λ z. node.var < level m (items s.nodes) z in subst Q (sym n) above.low-later in
    let a : mean (items s.nodes) (suc k) node.var r ≡ fork (mean (items s.nodes) k (suc node.var) r) (mean (items s.nodes) k (suc node.var) r) = mean_passes m (items s.nodes) k node.var r lower in
    let n' : r ≡ node.high = n ∙ q in
    let b : mean (items s.nodes) k (suc node.var) r ≡ mean (items s.nodes) k (suc node.var) node.low = ap (λ (z : ℕ). mean (items s.nodes) k (suc node.var) z) n in
    let b' : mean (items s.nodes) k (suc node.var) r ≡ mean (items s.nodes) k (suc node.var) node.high = ap (λ (z : ℕ). mean (items s.nodes) k (suc node.var) z) n' in
    let d : mean (items s.nodes) (suc k) node.var r ≡ fork (mean (items s.nodes) k (suc node.var) node.low) (mean (items s.nodes) k (suc node.var) node.high) = cc (a, b, b') in
    subst P (sym e) (
      st,
      record { there_is = omega (arith, above.low-there); later = omega arith; means = d; agree = λ i two less. refl; more = omega arith },
    )
made m f s t node r st k km above inside (there e apart two less is) =
    let P : Store → Type 0 = λ z. State m f (items z.nodes) (length (items z.nodes)) × Answer m (items s.nodes) (length (items s.nodes)) (items z.nodes) (length (items z.nodes)) k node r in
    let v : (at (items s.nodes) r).var ≡ node.var = ap (λ (z : Node). z.var) is in
    subst P (sym e) (
      st,
      record {
        there_is = less;
        later = omega (arith, level-node m (items s.nodes) r two, v);
        means = mean_stands (items s.nodes) k node.var r node two is refl;
        agree = λ i a b. refl;
        more = omega arith;
      },
    )
made m f s t node r st k km above inside (pushed room nodes apart absent n) =
    let g : Agree (items s.nodes) (items t.nodes) (length (items s.nodes)) = λ i two less. ap (λ (z : List Node). at z i) nodes ∙ at_old (items s.nodes) node i two less in
    let new : at (items t.nodes) (length (items s.nodes) + 2) ≡ node = ap (λ (z : List Node). at z (length (items s.nodes) + 2)) nodes ∙ at_new (items s.nodes) node (length (items s.nodes) + 2) refl in
    let st' : State m f (items t.nodes) (length (items s.nodes) + 1) = grow m f (items s.nodes) (length (items s.nodes)) st node k km above inside apart absent (items t.nodes) g new in
    let count : length (items t.nodes) ≡ length (items s.nodes) + 1 = ap length nodes ∙ length_push (items s.nodes) node in
    let C : ℕ → Type 0 = λ z. State m f (items t.nodes) z in
    let is : at (items t.nodes) r ≡ node = ap (at (items t.nodes)) n ∙ new in
    let two : 2 ≤ r = omega arith in
    let v : (at (items t.nodes) r).var ≡ node.var = ap (λ (z : Node). z.var) is in
    let a = mean_stands (items t.nodes) k node.var r node two is refl in
    let b = mean-agree m (length (items s.nodes)) (items s.nodes) (items t.nodes) st.ordered g k (suc node.var) node.low above.low-there in
    let b' = mean-agree m (length (items s.nodes)) (items s.nodes) (items t.nodes) st.ordered g k (suc node.var) node.high above.high-there in
    let d : mean (items t.nodes) (suc k) node.var r ≡ fork (mean (items s.nodes) k (suc node.var) node.low) (mean (items s.nodes) k (suc node.var) node.high) = cc (a, b, b') in (
      subst C (sym count) st',
      record {
        there_is = omega arith;
        later = omega (arith, level-node m (items t.nodes) r two, v);
        means = d;
        agree = g;
        more = omega arith;
      },
    )
