use Rattle.std.proofs.Common.{◌≡◌, ◌+◌, length, refl, ap, ◌∙◌, rules}
use Rattle.std.proofs.lemmas.List.{length_push}
use Rattle.std.proofs.lemmas.Result.{IfOk-at_ok}
use Rattle.rows.specs.Rows.{items}
use Rattle.nodes.proofs.Indexes.{index_push}
use Rattle.nodes.proofs.store.Store.push.Goals as goal

pub invariant_of-self-clause-indexed : goal.invariant_of-self-clause-indexed
invariant_of-self-clause-indexed c =
    let s = c.args.self.now in
    let more = IfOk-at_ok _ c.unwrap.ensures c.push.ensures.ok in
    let long : length (items c.push.new.self) ≡ length (items s.nodes) + 1 = ap length more ∙ length_push (items s.nodes) c.args.node in
    rw (long, more, c.as_slice-i.ensures.value, c.bucket-b.ensures) (index_push (items s.nodes) s.heads s.nexts (length (items s.nodes)) c.args.node s.indexed refl (search rules) (search rules))
