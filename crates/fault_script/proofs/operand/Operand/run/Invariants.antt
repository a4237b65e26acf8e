use Rattle.std.proofs.Common.{◌≡◌, take, IfSome}
use Rattle.log_base.specs.Shape.{shape}
use Rattle.fault_script.specs.Grammar.{BeginsOne, shown}
use Rattle.fault_script.proofs.operand.Operand.run.Given as goal

abbrev pub invariant-loop-byte : goal.invariant-loop-byte
invariant-loop-byte l = (l.length ≡ l.byte-index) × (take l.length l.text ≡ shown l.value) × IfSome l.value (BeginsOne (shape l.config) l.self)
