-- The nodes of a page, read one after another.
use Rattle.std.proofs.Common.{◌≡◌, ℕ, suc, ◌+◌, ◌-◌, ◌<◌, ◌≤◌, true, cond, ◌&&◌, eqb, ltb, leb, List, [], ◌∷◌, ◌++◌, length, Some, sym, refl, ap, ◌∙◌, inl, inr, arith}
use Rattle.std.proofs.lemmas.List.{length_push}
use Rattle.std.proofs.lemmas.Bool.{and_parts, cases_Bool, cond-true, cond-false, eq-eqb, ne_eqb, eqb-true, leb-true, ltb-true, cases_eq}
use Rattle.frames.specs.declared.kinds.Kind.TheVariants as kind
use Rattle.frames.specs.Outcome.{past, line_after}
use Rattle.frames.specs.Records.{Got, got, gone, bad}
use Rattle.frames.specs.Pages.{Page, page, onward}
use Rattle.nodes.specs.declared.node.Node.{Node}
use Rattle.nodes.specs.Drafts.{Verdict, fits, misplaced, repeated, verdict, names, unnamed, top}
use Rattle.nodepages.specs.declared.records.Heading.{Heading}
use Rattle.nodepages.specs.Page.{fields, taken, right_root, in_range, heading, joined, node_of, next_node, listed, named, paged}

-- a record whose fields were read
pub taken-told : {X Y : Type 0} (g : Got X) (give : X → Got Y) (y : Y) → taken g give ≡ got y → (x : X) × (g ≡ got x) × (give x ≡ got y)
taken-told (got x) give y e = (x, refl, e)
taken-told gone give y e = let z : ◌≡◌ {A = ℕ} 0 1 = cc in absurd (omega arith)
taken-told (bad w v) give y e = let z : ◌≡◌ {A = ℕ} 0 1 = cc in absurd (omega arith)

-- a node that was added fits, and stands behind the others
pub joined-told : (line : ℕ) (ys zs : List Node) (y : Node) (v : Verdict) → joined line ys y v ≡ got zs → (v ≡ fits) × (zs ≡ ys ++ (y ∷ []))
joined-told line ys zs y fits e = (refl, cc)
joined-told line ys zs y misplaced e = let z : ◌≡◌ {A = ℕ} 0 1 = cc in absurd (omega arith)
joined-told line ys zs y repeated e = let z : ◌≡◌ {A = ℕ} 0 1 = cc in absurd (omega arith)

pub next-length : (n : ℕ) (ys zs : List Node) (xs : List ℕ) (line : ℕ) → next_node n ys xs line ≡ got zs → length zs ≡ length ys + 1
next-length n ys zs xs line e =
    let t = taken-told (fields kind.Node xs line) (λ t. joined line ys (node_of t) (verdict n ys (node_of t))) zs e in
    let y = node_of t.0 in
    ap length (joined-told line ys zs y (verdict n ys y) t.2).1 ∙ length_push ys y

-- after i of the nodes that are due
module _ (n count i : ℕ) (xs : List ℕ) (line : ℕ) where
  -- the page goes on with those that are left
  abbrev pub then_nodes : List Node → Page (List Node)
  then_nodes zs = listed n (count - (i + 1)) zs (past xs) (line_after xs line)

  pub nodes-on : (ys : List Node) (all : Page (List Node)) → i < count → listed n (count - i) ys xs line ≡ all → onward line (next_node n ys xs line) then_nodes ≡ all
  nodes-on ys all less is = let e : count - i ≡ suc (count - (i + 1)) = omega arith in ap (λ (k : ℕ). listed n k ys xs line) (sym e) ∙ is

  pub nodes-past : (zs : List Node) (all : Page (List Node)) (rest : List ℕ) (next : ℕ) → then_nodes zs ≡ all → rest ≡ past xs → next ≡ line_after xs line → listed n (count - (i + 1)) zs rest next ≡ all
  nodes-past zs all rest next e p q = ap (λ (t : List ℕ). listed n (count - (i + 1)) zs t next) p ∙ ap (listed n (count - (i + 1)) zs (past xs)) q ∙ e

-- and after all of them
pub nodes_all : (n count i : ℕ) (ys : List Node) (xs : List ℕ) (line : ℕ) → count ≤ i → listed n (count - i) ys xs line ≡ page ys xs line
nodes_all n count i ys xs line h = let e : count - i ≡ 0 = omega arith in ap (λ (k : ℕ). listed n k ys xs line) e

-- what a heading in range tells
pub record Ranged (h : Heading) : Type 0 where
  pub low : 1 ≤ h.arity
  pub high : h.arity ≤ 16
  pub few : h.count ≤ 1024
  pub right : right_root h.count h.root ≡ true

pub ranged : (h : Heading) → in_range h ≡ true → Ranged h
ranged h e =
    let p = and_parts (leb 1 h.arity && leb h.arity 16) (leb h.count 1024 && right_root h.count h.root) e in
    let q = and_parts (leb 1 h.arity) (leb h.arity 16) p.0 in
    let r = and_parts (leb h.count 1024) (right_root h.count h.root) p.1 in
    record { low = leb-true 1 h.arity q.0; high = leb-true h.arity 16 q.1; few = leb-true h.count 1024 r.0; right = r.1 }

-- the root that a heading may give is the number of the last node, or of an end
end-number : (r : ℕ) → r < 2 → cond (eqb r 1) 1 0 ≡ r
end-number r h = elim (cases_eq r 1) [
  | inl e ↦ cond-true (eqb r 1) 1 0 (eq-eqb r 1 e) ∙ sym e
  | inr e ↦ cond-false (eqb r 1) 1 0 (ne_eqb r 1 e) ∙ omega arith
]

pub top_right : (ys : List Node) (k r : ℕ) → length ys ≡ k → right_root k r ≡ true → top ys (eqb r 1) ≡ r
top_right [] k r long e =
    let z : k ≡ 0 = sym long in
    let l : ltb r 2 ≡ true = sym (cond-true (eqb k 0) (ltb r 2) (eqb r (k + 1)) (eq-eqb k 0 z)) ∙ e in
    end-number r (ltb-true r 2 l)
top_right (y ∷ ys) k r long e =
    let l : eqb r (k + 1) ≡ true = sym (cond-false (eqb k 0) (ltb r 2) (eqb r (k + 1)) (ne_eqb k 0 (λ z. omega arith))) ∙ e in
    omega (arith, eqb-true r (k + 1) l)

-- a node that no later one names is not below the first, and not the last
pub unnamed-there : (n k : ℕ) (ys : List Node) → unnamed n ys ≡ Some k → (n ≤ k) × (k < n + length ys)
unnamed-there n k [] e = let z : ◌≡◌ {A = ℕ} 0 1 = cc in absurd (omega arith)
unnamed-there n k (x ∷ []) e = let z : ◌≡◌ {A = ℕ} 0 1 = cc in absurd (omega arith)
unnamed-there n k (x ∷ y ∷ ys) e = elim (cases_Bool (names n (y ∷ ys))) [
  | inl t ↦
      let r = unnamed-there (n + 1) k (y ∷ ys) (sym (cond-true (names n (y ∷ ys)) (unnamed (n + 1) (y ∷ ys)) (Some n) t) ∙ e) in
      (omega arith, omega arith)
  | inr t ↦
      let f = cond-false (names n (y ∷ ys)) (unnamed (n + 1) (y ∷ ys)) (Some n) t in
      let s : Some n ≡ Some k = sym f ∙ e in
      let q : n ≡ k = cc in
      (omega arith, omega arith)
]

-- a page, by what its nodes read as
pub page-named : (xs : List ℕ) (line : ℕ) (h : Heading) → got h ≡ heading xs line → (m : ℕ) → m ≡ h.arity → (mid : List ℕ) → mid ≡ past xs → (next : ℕ) → next ≡ line_after xs line → (p : Page (List Node)) → listed m h.count [] mid next ≡ p → paged xs line ≡ named line h p
page-named xs line h e m a mid b next c p is =
    let f = λ (g : Got Heading). onward line g (λ h. named line h (listed h.arity h.count [] (past xs) (line_after xs line))) in
    let q : listed h.arity h.count [] (past xs) (line_after xs line) ≡ listed m h.count [] mid next = sym (ap (λ (n : ℕ). listed n h.count [] mid next) a ∙ ap (λ (t : List ℕ). listed h.arity h.count [] t next) b ∙ ap (listed h.arity h.count [] (past xs)) c) in
    sym (ap f e) ∙ ap (named line h) (q ∙ is)
