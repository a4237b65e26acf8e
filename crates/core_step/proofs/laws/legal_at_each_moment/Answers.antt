use Rattle.std.specs.Prelude.{[]}
use Rattle.agreement_law.proofs.Bridge.{legal_front}
use Rattle.core_step.proofs.laws.legal_at_each_moment.Goals as goal

pub returns : goal.returns
returns c = λ shape kept events more legal. legal_front shape kept [] events more legal
