use Rattle.log_base.specs.Shape.{shape}
use Rattle.fault_script.proofs.NumbersSoFar.{SoFar}
use Rattle.fault_script.proofs.numbers.read_numbers.Given as goal

abbrev pub invariant-loop-index : goal.invariant-loop-index
invariant-loop-index l = SoFar (shape l.config) l.operands l.text l.numbers l.index l.at
