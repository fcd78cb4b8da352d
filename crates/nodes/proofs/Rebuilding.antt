-- The marked nodes made anew, one after the other, are the diagram of what the root means.
use Rattle.std.proofs.Common.{◌≡◌, ℕ, zero, suc, ◌+◌, ◌-◌, ◌<◌, ◌≤◌, Bool, ◌⊎◌, List, length, get_or, set, replicate, sym, refl, ap, ◌∙◌, subst, inr, ⊎_elim, arith}
use Rattle.std.proofs.lemmas.Bool.{cases_lt, cases_eq}
use Rattle.std.proofs.lemmas.List.{get_or-set_same, get_or-set_other, get_or-replicate, length-replicate, length-set}
use Rattle.rows.specs.Rows.{items}
use Rattle.nodes.specs.declared.node.Node.{Node}
use Rattle.nodes.specs.declared.store.Store.{Store}
use Rattle.functions.specs.Functions.{Fn, fork}
use Rattle.nodes.specs.Diagrams.{at, blank, mean, level, Placed, Ordered, Reach, start, to_low, to_high, Diagram}
use Rattle.nodes.specs.Sizes.{size}
use Rattle.nodes.specs.Stores.{Absent, Did}
use Rattle.nodes.specs.Marks.{Marked, Marks, renamed}
use Rattle.nodes.proofs.Indexes.{at-index}
use Rattle.nodes.proofs.Canonical.{level-end, level-node}
use Rattle.nodes.proofs.Grown.{Agree, Above, mean-agree, level-agree}
use Rattle.nodes.proofs.Counting.{part_left, part_right}
use Rattle.nodes.proofs.Exact.{Needed, reached}
use Rattle.nodes.proofs.Making.{Inside, State, mean_stands, mean_passes, too_many, made}

-- what the number n means from its own variable on
abbrev pub full : ℕ → List Node → ℕ → Fn
full m xs n = mean xs (m - level m xs n) (level m xs n) n

-- no variable is after the last
pub level_le : (m c : ℕ) (xs : List Node) → Ordered m xs c → (n : ℕ) → n < c + 2 → level m xs n ≤ m
level_le m c xs o n nc =
    ⊎_elim
    (λ (h : n < 2). omega (arith, level-end m xs n h))
    (λ (h : 2 ≤ n). let p : Placed m xs n = o n h nc in omega (arith, level-node m xs n h))
    (cases_lt n 2)

inside_is : (a b f : Fn) → a ≡ b → Inside a f → Inside b f
inside_is a b f e i = let P : Fn → Type 0 = λ t. Inside t f in subst P e i

is_inside : (a f g : Fn) → f ≡ g → Inside a f → Inside a g
is_inside a f g e i = let P : Fn → Type 0 = λ t. Inside a t in subst P e i

-- what a number means from its own variable on is inside what it means from an earlier one
inside-level : (m c : ℕ) (xs : List Node) → Ordered m xs c → (k d n : ℕ) → k + d ≡ m → n < c + 2 → d ≤ level m xs n → Inside (full m xs n) (mean xs k d n)
inside-level m c xs o zero d n km nc dl =
    let l = level_le m c xs o n nc in
    let e : level m xs n ≡ d = omega arith in
    let e' : m - level m xs n ≡ zero = omega arith in
    is_inside (full m xs n) (full m xs n) (mean xs zero d n) (ap (λ (t : ℕ). mean xs t (level m xs n) n) e' ∙ ap (λ (t : ℕ). mean xs zero t n) e) (λ x i. i)
inside-level m c xs o (suc k) d n km nc dl =
    let l = level_le m c xs o n nc in
    ⊎_elim
    (λ (e : d ≡ level m xs n).
    let e' : m - level m xs n ≡ suc k = omega arith in
    is_inside (full m xs n) (full m xs n) (mean xs (suc k) d n) (ap (λ (t : ℕ). mean xs t (level m xs n) n) e' ∙ ap (λ (t : ℕ). mean xs (suc k) t n) (sym e)) (λ x i. i))
    (λ (nay : d ≡ level m xs n → ⊥).
    let ih : Inside (full m xs n) (mean xs k (suc d) n) = inside-level m c xs o k (suc d) n (omega arith) nc (omega arith) in
    let e = mean_passes m xs k d n (omega arith) in
    is_inside (full m xs n) (fork (mean xs k (suc d) n) (mean xs k (suc d) n)) (mean xs (suc k) d n) (sym e) (λ x i. part_left x (mean xs k (suc d) n) (mean xs k (suc d) n) (ih x i)))
    (cases_eq d (level m xs n))

-- at a node: its halves
pub full_node : (m c : ℕ) (xs : List Node) → Ordered m xs c → (n : ℕ) → 2 ≤ n → n < c + 2 → (k : ℕ) → k + suc (at xs n).var ≡ m → full m xs n ≡ fork (mean xs k (suc (at xs n).var) (at xs n).low) (mean xs k (suc (at xs n).var) (at xs n).high)
full_node m c xs o n two nc k km =
    let v = level-node m xs n two in
    let e : m - level m xs n ≡ suc k = omega arith in
    ap (λ (t : ℕ). mean xs t (level m xs n) n) e ∙ (ap (λ (t : ℕ). mean xs (suc k) t n) v ∙ mean_stands xs k (at xs n).var n (at xs n) two refl refl)

module _ (m c : ℕ) (xs : List Node) (o : Ordered m xs c) (root : ℕ) (rc : root < c + 2) where
  -- n is one of the numbers, and its function inside the root's
  pub record Want (n : ℕ) : Type 0 where
    pub less : n < c + 2
    pub part : Inside (full m xs n) (mean xs m 0 root)

  -- so is each number that is come to
  pub wanted : (n : ℕ) → Reach xs root n → Want n
  wanted n start = record { less = rc; part = inside-level m c xs o m 0 root (omega arith) rc (omega arith) }
  wanted n (to_low {p = p} two r) =
      let w = wanted p r in
      let pl : Placed m xs p = o p two w.less in
      let k : ℕ = m - suc (at xs p).var in
      let km : k + suc (at xs p).var ≡ m = omega arith in
      let lc : (at xs p).low < c + 2 = omega (arith, w.less) in
      let A = mean xs k (suc (at xs p).var) (at xs p).low in
      let B = mean xs k (suc (at xs p).var) (at xs p).high in
      let i : Inside (fork A B) (mean xs m 0 root) = inside_is (full m xs p) (fork A B) (mean xs m 0 root) (full_node m c xs o p two w.less k km) w.part in
      let j : Inside (full m xs (at xs p).low) A = inside-level m c xs o k (suc (at xs p).var) (at xs p).low km lc pl.3 in
      record { less = lc; part = λ x q. i x (part_left x A B (j x q)) }
  wanted n (to_high {p = p} two r) =
      let w = wanted p r in
      let pl : Placed m xs p = o p two w.less in
      let k : ℕ = m - suc (at xs p).var in
      let km : k + suc (at xs p).var ≡ m = omega arith in
      let lc : (at xs p).high < c + 2 = omega (arith, w.less) in
      let A = mean xs k (suc (at xs p).var) (at xs p).low in
      let B = mean xs k (suc (at xs p).var) (at xs p).high in
      let i : Inside (fork A B) (mean xs m 0 root) = inside_is (full m xs p) (fork A B) (mean xs m 0 root) (full_node m c xs o p two w.less k km) w.part in
      let j : Inside (full m xs (at xs p).high) B = inside-level m c xs o k (suc (at xs p).var) (at xs p).high km lc pl.4 in
      record { less = lc; part = λ x q. i x (part_right x A B (j x q)) }

-- the number b of the nodes xs means what the number n of the nodes raw means
pub record Stands (m : ℕ) (raw : List Node) (n : ℕ) (xs : List Node) (c b : ℕ) : Type 0 where
  pub there_is : b < c + 2
  pub later : level m raw n ≤ level m xs b
  pub means : mean xs (m - level m raw n) (level m raw n) b ≡ full m raw n

-- the numbers mean the same from each earlier variable on
pub means_up : (m : ℕ) (raw : List Node) (n : ℕ) (xs : List Node) (c b : ℕ) → Stands m raw n xs c b → (k d : ℕ) → k + d ≡ m → level m raw n ≤ m → d ≤ level m raw n → mean xs k d b ≡ mean raw k d n
means_up m raw n xs c b s zero d km lm dl =
    let e : level m raw n ≡ d = omega arith in
    let e' : m - level m raw n ≡ zero = omega arith in
    let a : mean xs (m - level m raw n) (level m raw n) b ≡ mean xs zero d b = ap (λ (t : ℕ). mean xs t (level m raw n) b) e' ∙ ap (λ (t : ℕ). mean xs zero t b) e in
    let a' : full m raw n ≡ mean raw zero d n = ap (λ (t : ℕ). mean raw t (level m raw n) n) e' ∙ ap (λ (t : ℕ). mean raw zero t n) e in
    sym a ∙ (s.means ∙ a')
means_up m raw n xs c b s (suc k) d km lm dl =
    ⊎_elim
    (λ (q : d ≡ level m raw n).
    let e : level m raw n ≡ d = sym q in
    let e' : m - level m raw n ≡ suc k = omega arith in
    let a : mean xs (m - level m raw n) (level m raw n) b ≡ mean xs (suc k) d b = ap (λ (t : ℕ). mean xs t (level m raw n) b) e' ∙ ap (λ (t : ℕ). mean xs (suc k) t b) e in
    let a' : full m raw n ≡ mean raw (suc k) d n = ap (λ (t : ℕ). mean raw t (level m raw n) n) e' ∙ ap (λ (t : ℕ). mean raw (suc k) t n) e in
    sym a ∙ (s.means ∙ a'))
    (λ (nay : d ≡ level m raw n → ⊥).
    let ih : mean xs k (suc d) b ≡ mean raw k (suc d) n = means_up m raw n xs c b s k (suc d) (omega arith) lm (omega arith) in
    let x = mean_passes m xs k d b (omega (arith, s.later)) in
    let y = mean_passes m raw k d n (omega arith) in
    cc)
    (cases_eq d (level m raw n))

-- and in a store with more nodes
stands_on : (m : ℕ) (raw : List Node) (n : ℕ) (xs : List Node) (c b : ℕ) (ys : List Node) (c' : ℕ) → Ordered m xs c → Agree xs ys c → c ≤ c' → Stands m raw n xs c b → Stands m raw n ys c' b
stands_on m raw n xs c b ys c' o g more s =
    record {
      there_is = omega (arith, s.there_is);
      later = omega (arith, s.later, level-agree xs ys c g m b s.there_is);
      means = mean-agree m c xs ys o g (m - level m raw n) (level m raw n) b s.there_is ∙ s.means;
    }

-- an end stands for itself
pub stands_end : (m : ℕ) (raw xs : List Node) (c b : ℕ) → b < 2 → Stands m raw b xs c b
unfolding mean
stands_end m raw xs c b h =
    let l = level-end m raw b h in
    let l' = level-end m xs b h in
    let z : m - level m raw b ≡ 0 = omega arith in
    record {
      there_is = omega arith;
      later = omega arith;
      means = let P : ℕ → Type 0 = λ t. mean xs t (level m raw b) b ≡ mean raw t (level m raw b) b in subst P (sym z) refl;
    }

-- the numbers below i + 2 that are wanted have their new numbers
abbrev pub Turn : ℕ → List Node → List Bool → ℕ → List Node → ℕ → List ℕ → Type 0
Turn m raw marks i xs c new = (n : ℕ) → n < i + 2 → (n < 2) ⊎ Marked marks n → Stands m raw n xs c (get_or new n 0)

-- the ends have their numbers at first
pub turn_first : (m : ℕ) (raw : List Node) (marks : List Bool) (xs : List Node) (c : ℕ) → Turn m raw marks 0 xs c (set (replicate 3074 0) 1 1)
turn_first m raw marks xs c n less w =
    let zeros : List ℕ = replicate 3074 0 in
    ⊎_elim
    (λ (e : n ≡ 1).
    let q : get_or (set zeros 1 1) n 0 ≡ n = ap (λ (t : ℕ). get_or (set zeros 1 1) t 0) e ∙ (get_or-set_same zeros 1 1 0 (omega (arith, length-replicate {A = ℕ} 3074 0)) ∙ sym e) in
    let P : ℕ → Type 0 = λ t. Stands m raw n xs c t in
    subst P (sym q) (stands_end m raw xs c n (omega arith)))
    (λ (e : n ≡ 1 → ⊥).
    let n0 : n ≡ 0 = omega arith in
    let q : get_or (set zeros 1 1) n 0 ≡ n = get_or-set_other zeros 1 n 1 0 e ∙ (get_or-replicate 3074 n 0 0 (omega arith) ∙ sym n0) in
    let P : ℕ → Type 0 = λ t. Stands m raw n xs c t in
    subst P (sym q) (stands_end m raw xs c n (omega arith)))
    (cases_eq n 1)

-- a node without a mark needs none
pub turn_skip : (m : ℕ) (raw : List Node) (marks : List Bool) (i : ℕ) (xs : List Node) (c : ℕ) (new : List ℕ) → Turn m raw marks i xs c new → (Marked marks (i + 2) → ⊥) → Turn m raw marks (i + 1) xs c new
turn_skip m raw marks i xs c new t nay n less w =
    ⊎_elim
    (λ (e : n ≡ i + 2).
    absurd (⊎_elim (λ (h : n < 2). omega arith) (λ (h : Marked marks n). let P : ℕ → Type 0 = λ z. Marked marks z in nay (subst P e h)) w))
    (λ (e : n ≡ i + 2 → ⊥). t n (omega arith) w)
    (cases_eq n (i + 2))

module _ (m : ℕ) (raw : List Node) (o : Ordered m raw (length raw)) (root : ℕ) (rc : root < length raw + 2) (marks : List Bool) (ms : Marks raw root 2 marks) (i : ℕ) (il : i < length raw) (here : Marked marks (i + 2)) (new : List ℕ) where
  named : (y : Node) → y ≡ renamed (get_or raw i blank) new → y ≡ renamed (at raw (i + 2)) new
  named y e = e ∙ ap (λ (z : Node). renamed z new) (sym (at-index raw i))

  module _ (xs : List Node) (c : ℕ) (st : State m (mean raw m 0 root) xs c) (t : Turn m raw marks i xs c new) where
    pub record Ready : Type 0 where
      pub k : ℕ
      pub km : k + suc (at raw (i + 2)).var ≡ m
      pub above : Above m xs c (renamed (at raw (i + 2)) new)
      pub is : fork (mean xs k (suc (at raw (i + 2)).var) (get_or new (at raw (i + 2)).low 0)) (mean xs k (suc (at raw (i + 2)).var) (get_or new (at raw (i + 2)).high 0)) ≡ full m raw (i + 2)
      pub inside : Inside (fork (mean xs k (suc (at raw (i + 2)).var) (get_or new (at raw (i + 2)).low 0)) (mean xs k (suc (at raw (i + 2)).var) (get_or new (at raw (i + 2)).high 0))) (mean raw m 0 root)

    pub ready : Ready
    ready =
        let two : 2 ≤ i + 2 = omega arith in
        let nc : i + 2 < length raw + 2 = omega arith in
        let p : Placed m raw (i + 2) = o (i + 2) two nc in
        let v = (at raw (i + 2)).var in
        let kids = ms.closed (i + 2) two two nc here in
        let sl = t (at raw (i + 2)).low p.1 (inr kids.0) in
        let sh = t (at raw (i + 2)).high p.2 (inr kids.1) in
        let k : ℕ = m - suc v in
        let km : k + suc v ≡ m = omega arith in
        let ml = means_up m raw (at raw (i + 2)).low xs c (get_or new (at raw (i + 2)).low 0) sl k (suc v) km (level_le m (length raw) raw o (at raw (i + 2)).low (omega arith)) p.3 in
        let mh = means_up m raw (at raw (i + 2)).high xs c (get_or new (at raw (i + 2)).high 0) sh k (suc v) km (level_le m (length raw) raw o (at raw (i + 2)).high (omega arith)) p.4 in
        let f = full_node m (length raw) raw o (i + 2) two nc k km in
        let e : fork (mean xs k (suc v) (get_or new (at raw (i + 2)).low 0)) (mean xs k (suc v) (get_or new (at raw (i + 2)).high 0)) ≡ full m raw (i + 2) = cc (ml, mh, f) in
        record {
          k = k;
          km = km;
          above = record { within = p.0; low-there = sl.there_is; high-there = sh.there_is; low-later = omega (arith, p.3, sl.later); high-later = omega (arith, p.4, sh.later) };
          is = e;
          inside = inside_is (full m raw (i + 2)) _ (mean raw m 0 root) (sym e) (wanted m (length raw) raw o root rc (i + 2) (ms.sound (i + 2) here)).part;
        }

    pub full_up : length xs ≡ c → (y : Node) → y ≡ renamed (get_or raw i blank) new → (y.low ≡ y.high → ⊥) × Absent xs c y → c + 1 ≤ size (mean raw m 0 root)
    full_up len y e w =
        let r = ready in
        let P : Node → Type 0 = λ z. (z.low ≡ z.high → ⊥) × Absent xs c z in
        let q = subst P (named y e) w in
        too_many m (mean raw m 0 root) xs c st (renamed (at raw (i + 2)) new) r.k r.km r.above r.inside q.0 q.1 len

  -- a marked node gets the number that the store answers
  pub turn_more : (s s' : Store) (r : ℕ) → length raw ≤ 3072 → length new ≡ 3074 → State m (mean raw m 0 root) (items s.nodes) (length (items s.nodes)) → Turn m raw marks i (items s.nodes) (length (items s.nodes)) new → (y : Node) → y ≡ renamed (get_or raw i blank) new → Did s s' y r → State m (mean raw m 0 root) (items s'.nodes) (length (items s'.nodes)) × Turn m raw marks (i + 1) (items s'.nodes) (length (items s'.nodes)) (set new (i + 2) r) × (length (set new (i + 2) r) ≡ 3074)
  turn_more s s' r long len st t y e did =
      let rd = ready (items s.nodes) (length (items s.nodes)) st t in
      let d = made m (mean raw m 0 root) s s' (renamed (at raw (i + 2)) new) r st rd.k rd.km rd.above rd.inside (subst (λ (z : Node). Did s s' z r) (named y e) did) in
      let a = d.1 in
      let v = level-node m raw (i + 2) (omega arith) in
      let km = rd.km in
      let lk : m - level m raw (i + 2) ≡ suc rd.k = omega arith in
      let fresh : Stands m raw (i + 2) (items s'.nodes) (length (items s'.nodes)) r =
      record {
        there_is = a.there_is;
        later = omega (arith, a.later, v);
        means = ap (λ (z : ℕ). mean (items s'.nodes) z (level m raw (i + 2)) r) lk ∙ (ap (λ (z : ℕ). mean (items s'.nodes) (suc rd.k) z r) v ∙ (a.means ∙ rd.is));
      } in (
        d.0,
        (λ n less w.
            ⊎_elim
            (λ (e : n ≡ i + 2).
            let q : get_or (set new (i + 2) r) (i + 2) 0 ≡ r = get_or-set_same new (i + 2) r 0 (omega arith) in
            let P : ℕ → Type 0 = λ z. Stands m raw (i + 2) (items s'.nodes) (length (items s'.nodes)) z in
            let Q : ℕ → Type 0 = λ z. Stands m raw z (items s'.nodes) (length (items s'.nodes)) (get_or (set new (i + 2) r) z 0) in
            subst Q (sym e) (subst P (sym q) fresh))
            (λ (e : n ≡ i + 2 → ⊥).
            let q = get_or-set_other new (i + 2) n r 0 e in
            let P : ℕ → Type 0 = λ z. Stands m raw n (items s'.nodes) (length (items s'.nodes)) z in
            subst P (sym q) (stands_on m raw n (items s.nodes) (length (items s.nodes)) (get_or new n 0) (items s'.nodes) (length (items s'.nodes)) st.ordered a.agree a.more (t n (omega arith) w)))
            (cases_eq n (i + 2))),
        length-set new (i + 2) r ∙ len,
      )

-- the store with no node
pub state-first : (m : ℕ) (f : Fn) (xs : List Node) → State m f xs 0
state-first m f xs =
    record {
      ordered = λ n two less. absurd (omega arith);
      reduced = (λ n two less e. omega arith, λ a b h. let l = h.0 in omega arith);
      needed = λ n two less. absurd (omega arith);
    }

-- the store at the end: the diagram of what the root means
pub record Finished (m : ℕ) (f : Fn) (xs : List Node) (c b : ℕ) : Type 0 where
  pub diagram : Diagram m xs c b
  pub means : mean xs m 0 b ≡ f

-- the last turn
pub finish : (m : ℕ) (raw : List Node) → Ordered m raw (length raw) → (root : ℕ) → root < length raw + 2 → (xs : List Node) (c b : ℕ) → State m (mean raw m 0 root) xs c → Stands m raw root xs c b → Finished m (mean raw m 0 root) xs c b
finish m raw o root rc xs c b st s =
    let f = mean raw m 0 root in
    let e : mean xs m 0 b ≡ f = means_up m raw root xs c b s m 0 (omega arith) (level_le m (length raw) raw o root rc) (omega arith) in
    let P : Fn → Type 0 = λ z. Needed m xs c z in
    record {
      diagram = record {
        ordered = st.ordered;
        reduced = st.reduced;
        rooted = s.there_is;
        reached = λ n two less. ∣ reached m c xs st.ordered st.reduced b s.there_is (subst P (sym e) st.needed) n two less ∣₁;
      };
      means = e;
    }
