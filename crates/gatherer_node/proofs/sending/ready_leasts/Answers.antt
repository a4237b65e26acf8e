use Rattle.std.proofs.Common.{◌∙◌, ℕ, List, sym, subst, ap}
use Rattle.event_letters.specs.Letters.{HasSpace}
use Rattle.log_base.specs.Shape.{shape}
use Rattle.node_model.specs.GathererRow.{leasts}
use Rattle.gatherer_node.specs.Gatherer.{sizes_of, told_of}
use Rattle.gatherer_node.proofs.Letters.{leasts-next, sizes-append}
use Rattle.gatherer_node.proofs.sending.ready_leasts.Goals as goal

pub loop-shard-preserved : goal.loop-shard-preserved
loop-shard-preserved c =
    let config = shape c.args.config.now in
    let before = leasts config c.args.index c.args.reports.now 0 c.loop-shard.shard in
    let told = told_of config c.args.index c.args.reports.now c.loop-shard.shard in
    let all = ap sizes_of (leasts-next config c.args.index c.args.reports.now c.loop-shard.shard) ∙ sizes-append before told in
    record {
      sent = c.in_ok-ready_least.ensures.sent ∙ c.loop-shard.invariant.sent;
      letters = c.in_ok-ready_least.ensures.letters ∙ c.loop-shard.invariant.letters;
      space =
          subst (λ (l : List ℕ). HasSpace c.ready_least.new.letters c.ready_least.new.out.rooms l) (sym all)
          (c.in_ok-ready_least.ensures.space (sizes_of before) c.loop-shard.invariant.space);
    }
