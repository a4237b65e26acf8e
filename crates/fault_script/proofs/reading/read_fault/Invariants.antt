use Rattle.log_base.specs.Shape.{shape}
use Rattle.fault_script.proofs.KindsSoFar.{KindsSoFar}
use Rattle.fault_script.proofs.reading.read_fault.Given as goal

abbrev pub invariant-loop-kind : goal.invariant-loop-kind
invariant-loop-kind l = KindsSoFar (shape l.config) l.text l.kind-index l.at
