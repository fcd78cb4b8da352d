use Rattle.std.proofs.Common.{◌≡◌, ◌<◌, true, [], ◌∷◌, ◌++◌, length, Err, Result, sym, ap, ◌∙◌, subst, arith}
use Rattle.std.proofs.lemmas.Result.{err_from_is_err_and}
use Rattle.nodes.specs.declared.node.Node.{Node}
use Rattle.nodes.specs.declared.drafting.NodeFlaw.{NodeFlaw}
use Rattle.nodes.specs.Drafts.{in_place, drafted, verdict, fits, repeated, Added}
use Rattle.nodes.proofs.Adding.{stored, sound_of, came, came_again, came_last, kept, full}
use Rattle.nodes.proofs.draft.Draft.add.Goals as goal

pub invariant_of-self : goal.invariant_of-self
invariant_of-self c =
    let d = c.args.self.now in
    let ok : in_place d.arity (drafted d) c.new-node.result ≡ true = sym c.if-not-admits.ensures in
    let k = kept d.arity d.store c.make.new.self c.new-node.result (sound_of d) ok c.make.result c.make.ensures in
    record { small = d.small; ordered = k.ordered; proper = k.proper; single = k.single }

pub returns-in_err-number-clause-added : goal.returns-in_err-number-clause-added
returns-in_err-number-clause-added c =
    let d = c.args.self.now in
    let t = c.make.new.self in
    let e = c.in_err-number.ensures in
    let f = full d.arity d.store t c.new-node.result (sound_of d) (sym c.if-not-admits.ensures) e.1 e.2 e.3 in
    let w = err_from_is_err_and c.from_residual.result c.from_residual.ensures.1 in
    let P : Result (Unit {0}) NodeFlaw → Type 0 = λ r. Added d.arity (drafted d) (stored t) c.new-node.result r in
    let Q : Node → Type 0 = λ y. Added d.arity (drafted d) (stored t) y c.from_residual.result in
    subst Q c.new-node.ensures (subst P (sym (w.1 ∙ ap Err w.2)) (f.0, f.1, ap stored e.0))

pub returns-then-from-fresh-clause-added : goal.returns-then-from-fresh-clause-added
returns-then-from-fresh-clause-added c =
    let d = c.args.self.now in
    let t = c.make.new.self in
    let y = c.new-node.result in
    let w = came d.arity d.store t y (sound_of d) (sym c.if-not-admits.ensures) c.in_ok-number.number c.in_ok-number.ensures in
    let P : Node → Type 0 = λ y. (verdict d.arity (drafted d) y ≡ repeated) × (stored t ≡ drafted d) in
    subst P c.new-node.ensures (came_again d.arity d.store t y c.in_ok-number.number w (omega arith))

pub returns-clause-added : goal.returns-clause-added
returns-clause-added c =
    let d = c.args.self.now in
    let t = c.make.new.self in
    let y = c.new-node.result in
    let w = came d.arity d.store t y (sound_of d) (sym c.if-not-admits.ensures) c.in_ok-number.number c.in_ok-number.ensures in
    let P : Node → Type 0 = λ y. (verdict d.arity (drafted d) y ≡ fits) × (length (drafted d) < 1024) × (stored t ≡ drafted d ++ (y ∷ [])) in
    subst P c.new-node.ensures (came_last d.arity d.store t y c.in_ok-number.number w (omega arith))
