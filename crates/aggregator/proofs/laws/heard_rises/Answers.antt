use Rattle.aggregator.proofs.Merged.{get_or-greater_of}
use Rattle.aggregator.proofs.laws.heard_rises.Goals as goal

pub returns-clause-again : goal.returns-clause-again
returns-clause-again c = λ before said segment. get_or-greater_of before.length said.length segment
