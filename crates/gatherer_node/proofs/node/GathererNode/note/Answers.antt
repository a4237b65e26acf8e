use Rattle.std.proofs.Common.{rules, sym, subst}
use Rattle.log_base.specs.Shape.{shape}
use Rattle.gatherer_node.specs.Gatherer.{IsOf}
use Rattle.gatherer_node.proofs.Heard.{noted}
use Rattle.gatherer_node.proofs.node.GathererNode.note.Goals as goal

pub invariant_of-self : goal.invariant_of-self
invariant_of-self c =
    let config = shape c.self.inside.config in
    let index = c.self.inside.index in (
      c.self.invariant.0,
      subst (λ (h : _). IsOf config index h) (sym c.note.ensures)
          (noted config index c.self.inside.reports c.args.shard.0 c.args.replica.0 c.args.lengths.now c.self.invariant.1 c.requires.message.2 (search rules)),
    )
