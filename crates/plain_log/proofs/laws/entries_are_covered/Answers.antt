use Rattle.plain_log.specs.Log.{start}
use Rattle.plain_log.proofs.Coherent.{coherent_start, coherent_state_after}
use Rattle.plain_log.proofs.laws.entries_are_covered.Goals as goal

pub returns : goal.returns
returns c = λ shape run items all. coherent_state_after shape run (start shape) items all (coherent_start shape)
