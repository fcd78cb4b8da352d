use Rattle.std.proofs.Common.{◌≡◌, ℕ, ◌≤◌, true, eqb, List, sym, ap, ◌∙◌, subst, arith, rules}
use Rattle.std.proofs.lemmas.Bool.{some_since}
use Rattle.frames.specs.Reading.{left}
use Rattle.frames.specs.Records.{got}
use Rattle.nodes.specs.declared.node.Node.{Node}
use Rattle.nodes.specs.Drafts.{drafted, unnamed, top, Charts}
use Rattle.nodepages.specs.Page.{in_range, heading, settled}
use Rattle.nodepages.proofs.Nodes.{ranged, unnamed-there, top_right, page-named}
use Rattle.nodepages.proofs.filling.read_page.Goals as goal

pub unwrap-draft-requires : goal.unwrap-draft-requires
unwrap-draft-requires c =
    let r = c.in_ok-read_heading.ensures.range in
    let e : in_range c.in_ok-heading.heading ≡ true = rw c.in_ok-heading.ensures.ok_part at r in
    some_since c.new.result _ _ c.new.ensures (λ h. let k = ranged c.in_ok-heading.heading e in omega (arith, k.high))

pub read_nodes-requires : goal.read_nodes-requires
read_nodes-requires c =
    let r = c.in_ok-read_heading.ensures.range in
    let e : in_range c.in_ok-heading.heading ≡ true = rw c.in_ok-heading.ensures.ok_part at r in
    let n = c.new.ensures in
    record { none = (rw c.unwrap-draft.ensures at n).1; room = (ranged c.in_ok-heading.heading e).few }

pub overflow_sub-result : goal.overflow_sub-result
overflow_sub-result c = let u = unnamed-there 2 c.in-Err.unnamed.node (drafted c.read_nodes.new.draft) c.in-Err.ensures in omega (arith, u.0)

pub overflow_add-result : goal.overflow_add-result
overflow_add-result c =
    let u = unnamed-there 2 c.in-Err.unnamed.node (drafted c.read_nodes.new.draft) c.in-Err.ensures in
    let r = c.in_ok-read_heading.ensures.range in
    let e : in_range c.in_ok-heading.heading ≡ true = rw c.in_ok-heading.ensures.ok_part at r in
    let few = (ranged c.in_ok-heading.heading e).few in
    let many = c.in_ok-read_nodes.ensures.many in
    let b : c.in-Err.unnamed.node ≤ 1026 = omega (arith, u.1, few, many) in
    search rules

pub returns-in-Ok : goal.returns-in-Ok
returns-in-Ok c =
    let h = c.in_ok-heading.heading in
    let xs = left c.args.reader.now in
    let line = c.args.reader.now.line in
    let d = c.read_nodes.new.draft in
    let w = c.in_ok-read_heading.ensures in
    let wa = w.answer in
    let wr = w.range in
    let a : got c.in_ok-heading.heading ≡ heading (left c.args.reader.now) c.args.reader.now.line = rw c.in_ok-heading.ensures.ok_part at wa in
    let e : in_range c.in_ok-heading.heading ≡ true = rw c.in_ok-heading.ensures.ok_part at wr in
    let n = c.new.ensures in
    let m : c.unwrap-draft.result.arity ≡ c.in_ok-heading.heading.arity = (rw c.unwrap-draft.ensures at n).0 in
    let v = c.in_ok-read_nodes.ensures in
    let f = c.in-Ok.ensures in
    let p = page-named xs line h a c.unwrap-draft.result.arity m (left c.read_heading.new.reader) w.moved.rest c.read_heading.new.reader.line w.moved.line _ v.nodes.1 in
    let t = top_right (drafted d) h.count h.root v.many (ranged h e).right in
    let rest = left c.read_nodes.new.reader in
    let after = c.read_nodes.new.reader.line in
    let s = p ∙ ap (λ (ys : List Node). settled line h ys rest after (unnamed 2 ys)) (sym v.nodes.2) ∙ ap (settled line h (drafted d) rest after) f.0 in
    let P : ℕ → Type 0 = λ n. Charts n (drafted d) (top (drafted d) (eqb h.root 1)) c.in-Ok.chart in
    let Q : ℕ → Type 0 = λ r. Charts h.arity (drafted d) r c.in-Ok.chart in
    (record { arity = h.arity; nodes = drafted d; root = h.root }, s, subst Q t (subst P (v.arity ∙ m) f.1))
