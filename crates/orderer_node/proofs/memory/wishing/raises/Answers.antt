use Rattle.std.proofs.Common.{Some, sym, ap, subst, ◌∙◌}
use Rattle.cut_chain.specs.Known.{Known}
use Rattle.log_base.specs.Shape.{shape}
use Rattle.log_model.specs.Chain.{IsChain}
use Rattle.log_model.proofs.Growth.{chain_of-IsChain}
use Rattle.orderer_node.proofs.Covers.{live_covers}
use Rattle.orderer_node.proofs.memory.wishing.raises.Goals as goal

pub returns-in-Some-Live : goal.returns-in-Some-Live
returns-in-Some-Live g c =
    let replicas = (shape c.args.config.now).replicas in
    let chain : IsChain replicas c.args.chain.now.known.chain =
    subst (λ (k : Known). IsChain replicas k.chain) (sym c.requires.values.1) (chain_of-IsChain replicas c.requires.values.0) in
    live_covers replicas c.args.chain.now.known.chain c.args.shard.0 c.args.lengths.now c.raises_live.result chain
    (sym c.state.ensures ∙ c.in-Some-Live.is ∙ ap Some c.in-Some-Live.field-0-is) c.raises_live.ensures
