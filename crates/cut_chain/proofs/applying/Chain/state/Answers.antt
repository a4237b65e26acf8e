use Rattle.std.proofs.Common.{ap, ◌∙◌}
use Rattle.cut_chain.specs.Known.{Chained}
use Rattle.std.specs.Option.{option_map}
use Rattle.log_model.specs.Chain.{ShardState, state_in}
use Rattle.shard_registry.specs.Order.{state_of}
use Rattle.cut_chain.proofs.Keeping.{state_is}
use Rattle.cut_chain.proofs.applying.Chain.state.Goals as goal

pub returns : goal.returns
returns g c =
    let f = c.self.inside in
    c.state.ensures
    ∙ state_is f.config.replicas f.covered f.registry c.args.shard.0
    ∙ ap (λ (v : Chained). option_map (λ (found : ShardState). state_of found.standing) (state_in v.known.chain.shards c.args.shard.0)) c.self.view_is
