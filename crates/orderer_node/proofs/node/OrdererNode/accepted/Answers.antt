use Rattle.std.proofs.Common.{ap, ◌∙◌}
use Rattle.log_base.specs.Shape.{shape}
use Rattle.orderer_node.specs.Ordering.{Ordering}
use Rattle.orderer_node.proofs.Sending.{learners_space}
use Rattle.orderer_node.proofs.node.OrdererNode.accepted.Goals as goal

pub tell_learners-requires-clause-space : goal.tell_learners-requires-clause-space
tell_learners-requires-clause-space g c =
    learners_space _ _ (shape c.config-config.result) c.args.self.now.memory.config
    (c.config-config.ensures ∙ ap (λ (m : Ordering _). m.memory.config) c.self.view_is) c.requires.space
