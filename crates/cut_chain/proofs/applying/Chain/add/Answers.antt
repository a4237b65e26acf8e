use Rattle.std.proofs.Common.{◌+◌, sym, ap, ◌∙◌, subst, arith}
use Rattle.log_base.specs.Shape.{shape}
use Rattle.record_frame.specs.declared.values.Value.TheVariants.{Add}
use Rattle.shard_registry.specs.Order.{Order, added}
use Rattle.cut_chain.specs.Known.{Chained, learned}
use Rattle.cut_chain.specs.Kept.{known_from, IsKept}
use Rattle.cut_chain.proofs.Keeping.{kept_on, known_add, added-in_range, added-listed}
use Rattle.cut_chain.proofs.applying.Chain.add.Goals as goal

pub invariant_of-self : goal.invariant_of-self
invariant_of-self g c =
    let f = c.self.inside in
    let is = c.self.invariant in
    let places = g.P.Places.places f.places in
    let counted = ap (λ (v : Chained). v.known.count) c.self.view_is in
    let shards = ap (λ (v : Chained). v.known.config.shards) c.self.view_is in
    let s = c.args.shard in
    subst (λ (o : Order). IsKept (shape f.config) o f.covered places f.end f.mark (f.count + 1)) (sym c.add.ensures.order)
    (kept_on (shape f.config) f.registry (added f.registry s.0) f.covered f.covered places places f.end f.mark f.count f.end f.mark (Add s) is
    (added-in_range f.registry f.config.shards s.0 (omega (arith, shards, c.requires.value)) is.in_range)
    (λ shard absent. is.unlisted shard (added-listed f.registry s.0 shard absent))
    (omega (arith, counted, c.requires.count)) (omega arith)
    (known_add (shape f.config) f.registry f.covered places f.end f.mark f.count s is.unlisted))

pub returns : goal.returns
returns g c =
    let f = c.self.inside in
    let places = g.P.Places.places f.places in
    ap (λ (o : Order). known_from (shape f.config) o f.covered places f.end f.mark (f.count + 1)) c.add.ensures.order
    ∙ known_add (shape f.config) f.registry f.covered places f.end f.mark f.count c.args.shard c.self.invariant.unlisted
    ∙ ap (λ (v : Chained). learned v.known (Add c.args.shard)) c.self.view_is
