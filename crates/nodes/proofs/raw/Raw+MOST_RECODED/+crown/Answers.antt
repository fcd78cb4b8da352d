use Rattle.std.proofs.Common.{◌+◌, ◌-◌, ◌/◌, length, ◌∙◌, pow_pos, refl, ap, arith, rules}
use Rattle.std.proofs.lemmas.List.{length_push}
use Rattle.rows.specs.Rows.{items}
use Rattle.nodes.proofs.Topping.{halved, top_leaf, leaves_low, leaves_high, top_join}
use Rattle.nodes.proofs.raw.Raw+MOST_RECODED.+crown.Goals as goal

pub returns-then-var-j : goal.returns-then-var-j
returns-then-var-j t c =
    let s = c.args.self.now in
    record { top = top_leaf (items s.nodes) (length (items s.nodes)) s.arity c.args.j c.args.leaves.now c.args.var c.requires.leaves c.if-var-j.true (omega (arith, c.requires.width, pow_pos (c.args.j - c.args.var))); arity = refl }

pub crown-low-requires : goal.crown-low-requires
crown-low-requires t c =
    let s = c.args.self.now in
    let p = c.split_at.result in
    let w = halved (length c.args.leaves.now) c.args.var c.args.j (omega arith) c.requires.width in
    (search rules, (leaves_low c.args.leaves.now (length c.args.leaves.now / 2) p.0.now p.1.now c.split_at.ensures.front c.split_at.ensures.back (items s.nodes) (length (items s.nodes)) s.arity c.args.j (omega arith) c.requires.leaves, (omega arith, (c.split_at.ensures.front_len ∙ w.0, omega arith))))

pub crown-high-requires : goal.crown-high-requires
crown-high-requires t c =
    let s = c.args.self.now in
    let p = c.split_at.result in
    let w = halved (length c.args.leaves.now) c.args.var c.args.j (omega arith) c.requires.width in
    let top = c.crown-low.ensures.top in
    rw c.crown-low.ensures.arity (search rules, (leaves_high c.args.leaves.now (length c.args.leaves.now / 2) p.0.now p.1.now c.split_at.ensures.front c.split_at.ensures.back (items s.nodes) (length (items s.nodes)) (items c.crown-low.new.self.nodes) (length (items c.crown-low.new.self.nodes)) s.arity c.args.j (omega arith) c.requires.leaves top.ordered top.more top.agree, (omega arith, (omega arith, omega (arith, top.few)))))

pub returns : goal.returns
returns t c =
    let s = c.args.self.now in
    let p = c.split_at.result in
    let w = halved (length c.args.leaves.now) c.args.var c.args.j (omega arith) c.requires.width in
    let high = rw c.crown-low.ensures.arity at c.crown-high.ensures.top in
    record {
      top = rw (ap length c.push.ensures.nodes ∙ length_push (items c.crown-high.new.self.nodes) c.new.result) (top_join c.args.leaves.now (length c.args.leaves.now / 2) p.0.now p.1.now c.split_at.ensures.front c.split_at.ensures.back (items s.nodes) (length (items s.nodes)) (items c.crown-low.new.self.nodes) (length (items c.crown-low.new.self.nodes)) (items c.crown-high.new.self.nodes) (length (items c.crown-high.new.self.nodes)) s.arity c.args.j c.args.var (c.args.var + 1) c.crown-low.result c.crown-high.result c.requires.leaves refl (omega arith) w.0 w.1 c.crown-low.ensures.top high refl (items c.push.new.self.nodes) c.new.result c.push.ensures.nodes c.new.ensures c.push.result c.push.ensures.number);
      arity = c.push.ensures.arity ∙ c.crown-high.ensures.arity ∙ c.crown-low.ensures.arity;
    }
