use Rattle.std.proofs.Common.{length, ◌≡◌, ◌+◌, not, option_map, take, drop, ◌∙◌, rules}
use Rattle.std.proofs.lemmas.Iterator.{YieldsList-from_slice}
use Rattle.std.proofs.lemmas.Iterator.Adapters.{YieldsList-from_skip}
use Rattle.std.proofs.lemmas.Iterator.Search.{position_from_yields_List}
use Rattle.rows.specs.Rows.{items}
use Rattle.nodes.proofs.Naming.{first-unnamed}
use Rattle.nodes.proofs.draft.Draft.first_unnamed.Goals as goal

pub returns : goal.returns
returns c =
    let d = c.args.self.now in
    let s = d.store in
    let marks = c.named-marks.result in
    let added : c.map.result ≡ option_map (λ i. i + 2) c.position-first.result = search rules in
    added ∙ first-unnamed d.arity (items s.nodes) d.ordered marks (search rules) c.named-marks.ensures c.position-first.result
    (position_from_yields_List {s = c.skip.result} {all = drop 2 (take (length (items s.nodes) + 1) marks)} not _ _ c.position-first.result c.position-first.ensures.ran (YieldsList-from_skip {s = c.skip.result} 2 (YieldsList-from_slice (take (length (items s.nodes) + 1) marks) (cc (c.skip.ensures.source, c.iter.ensures.rest))) c.skip.ensures.count) (λ x b q k. search rules))
