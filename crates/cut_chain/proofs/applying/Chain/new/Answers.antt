use Rattle.log_base.specs.Shape.{shape}
use Rattle.cut_chain.proofs.Keeping.{kept_empty}
use Rattle.cut_chain.proofs.Stretches.{lengths_of-zeros}
use Rattle.cut_chain.proofs.applying.Chain.new.Goals as goal

pub invariant_of-result : goal.invariant_of-result
invariant_of-result g c =
    kept_empty (shape c.args.config) _ _ (g.P.Places.places c.args.places) c.in_ok-registry.ensures c.requires (lengths_of-zeros c.args.config.replicas)
