use Rattle.log_base.specs.Shape.{shape}
use Rattle.cut_chain.proofs.Keeping.{kept_empty}
use Rattle.cut_chain.proofs.Stretches.{lengths_of-zeros}
use Rattle.cut_chain.proofs.applying.Chain.clear.Goals as goal

pub invariant_of-self : goal.invariant_of-self
invariant_of-self g c =
    kept_empty (shape c.self.inside.config) _ _ _ c.clear.ensures c.clear-2.ensures (lengths_of-zeros c.self.inside.config.replicas)
