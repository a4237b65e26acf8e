use Rattle.std.proofs.Common.{◌≡◌, not, is_some, sym, ap, subst, ◌∙◌}
use Rattle.log_base.specs.Shape.{shape}
use Rattle.log_model.specs.Chain.{is_of, state_in}
use Rattle.std.specs.List.{list_any}
use Rattle.cut_chain.specs.Known.{Known}
use Rattle.finaliser.specs.Wishing.{finalises_none}
use Rattle.node_model.specs.OrdererRow.{finalises_unknown}
use Rattle.record_frame.specs.declared.values.Value.{Value}
use Rattle.orderer_node.specs.Remembering.{Remembered}
use Rattle.orderer_node.proofs.Covers.{is_some-map, is_there}
use Rattle.orderer_node.proofs.memory.OrdererMemory.has_added.Goals as goal

pub returns-in-Finalise : goal.returns-in-Finalise
returns-in-Finalise g c =
    let shard = c.in-Finalise.shard.0 in
    let there = c.is_some.ensures ∙ ap is_some c.state.ensures ∙ is_some-map _ (state_in c.self.inside.chain.known.chain.shards shard)
    ∙ is_there c.self.inside.chain.known.chain.shards shard ∙ ap (λ (k : Known). list_any (is_of shard) k.chain.shards) c.self.invariant.chained in
    subst (λ (m : Remembered). finalises_none c.args.value.now c.is_some.result ≡ finalises_unknown m.config m.orderer.known c.args.value.now) c.self.view_is
    (subst (λ (v : Value). finalises_none v c.is_some.result ≡ finalises_unknown (shape c.self.inside.config) c.self.inside.known.known v) (sym c.in-Finalise.is) (ap not there))
