use Rattle.std.proofs.Common.{◌≡◌, ℕ, ◌-◌, List, length, sym, refl, ap, ◌∙◌, arith}
use Rattle.frames.specs.Reading.{left}
use Rattle.nodes.specs.declared.node.Node.{Node}
use Rattle.nodes.specs.Drafts.{drafted}
use Rattle.nodepages.specs.Page.{listed, next_node}
use Rattle.frames.proofs.Pages.{onward-some, onward-none, onward-err}
use Rattle.nodepages.proofs.Nodes.{then_nodes, next-length, nodes-on, nodes-past, nodes_all}
use Rattle.nodepages.proofs.filling.read_nodes.Goals as goal

pub loop-i-init : goal.loop-i-init
loop-i-init c =
    let d = c.args.draft.now in
    let xs = left c.args.reader.now in
    let z : c.args.count - 0 ≡ c.args.count = omega arith in (
      ap (λ (k : ℕ). listed d.arity k (drafted d) xs c.args.reader.now.line) z ∙ ap (λ (ys : List Node). listed d.arity c.args.count ys xs c.args.reader.now.line) c.requires.none,
      ap length c.requires.none,
      refl,
    )

pub read_node-requires : goal.read_node-requires
read_node-requires c = omega (arith, c.loop-i.invariant.1)

pub returns-in_err-read_node-clause-nodes : goal.returns-in_err-read_node-clause-nodes
returns-in_err-read_node-clause-nodes c =
    let n = c.args.draft.now.arity in
    let d = c.loop-i.draft in
    let xs = left c.loop-i.reader in
    let line = c.loop-i.reader.line in
    let i = c.loop-i.invariant in
    let w = c.in_err-read_node.ensures in
    let a = w.answer ∙ ap (λ (n : ℕ). next_node n (drafted d) xs line) i.2 in
    let on = nodes-on n c.args.count c.loop-i._i xs line (drafted d) _ c.loop-i-test.true i.0 in
    onward-err (λ (u : Unit {0}). drafted c.read_node.new.draft) line (then_nodes n c.args.count c.loop-i._i xs line) on _ _ _ c.in_err-read_node.field-0.0 c.from_residual.result a c.from_residual.ensures.1

pub returns-in_err-ok_or-clause-nodes : goal.returns-in_err-ok_or-clause-nodes
returns-in_err-ok_or-clause-nodes c =
    let n = c.args.draft.now.arity in
    let d = c.loop-i.draft in
    let xs = left c.loop-i.reader in
    let line = c.loop-i.reader.line in
    let i = c.loop-i.invariant in
    let a = c.in_ok-read_node.ensures.answer ∙ ap (λ (n : ℕ). next_node n (drafted d) xs line) i.2 in
    let on = nodes-on n c.args.count c.loop-i._i xs line (drafted d) _ c.loop-i-test.true i.0 in
    let v = c.in_err-ok_or.ensures.value in
    onward-none (λ (u : Unit {0}). drafted c.read_node.new.draft) line (then_nodes n c.args.count c.loop-i._i xs line) on _ _ _ c.in_ok-read_node.field-0 c.in_err-ok_or.field-0.0 c.from_residual-in_err-ok_or.result a (rw c.line-line.ensures at v) c.from_residual-in_err-ok_or.ensures.1

pub loop-i-preserved : goal.loop-i-preserved
loop-i-preserved c =
    let n = c.args.draft.now.arity in
    let d = c.loop-i.draft in
    let t = c.read_node.new.draft in
    let xs = left c.loop-i.reader in
    let line = c.loop-i.reader.line in
    let i = c.loop-i.invariant in
    let w = c.in_ok-read_node.ensures in
    let a = w.answer ∙ ap (λ (n : ℕ). next_node n (drafted d) xs line) i.2 in
    let on = nodes-on n c.args.count c.loop-i._i xs line (drafted d) _ c.loop-i-test.true i.0 in
    let e = c.in_ok-ok_or.ensures.ok_part in
    let more = onward-some (λ (u : Unit {0}). drafted c.read_node.new.draft) line (then_nodes n c.args.count c.loop-i._i xs line) on c.in_ok-read_node.field-0 _ a e in
    let long = next-length n (drafted d) (drafted t) xs line (sym (rw e at a)) in
    (nodes-past n c.args.count c.loop-i._i xs line (drafted t) _ (left c.read_node.new.reader) c.read_node.new.reader.line more w.moved.rest w.moved.line, omega (arith, long, i.1), w.arity ∙ i.2)

pub returns : goal.returns
returns c =
    let d = c.loop-i.draft in
    let i = c.loop-i.invariant in
    record {
      nodes = (drafted d, sym i.0 ∙ nodes_all c.args.draft.now.arity c.args.count c.loop-i._i (drafted d) (left c.loop-i.reader) c.loop-i.reader.line (omega arith), refl);
      many = i.1 ∙ omega arith;
      arity = i.2;
    }
