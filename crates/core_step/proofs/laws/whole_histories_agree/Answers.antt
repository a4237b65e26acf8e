use Rattle.std.proofs.Common.{ap}
use Rattle.node_model.specs.Chosen.{decided}
use Rattle.node_model.proofs.Orderers.{legal_at_orderers, orderer_lists}
use Rattle.agreement_law.proofs.Whole.{founded_orderers, whole_agreed, whole_chosen, whole_runs, whole_stays}
use Rattle.core_step.proofs.laws.whole_histories_agree.Goals as goal

pub returns : goal.returns
returns c = record {
  legal = legal_at_orderers;
  sound = founded_orderers;
  agreed = whole_agreed;
  one_value = whole_chosen;
  lists = λ config kept events. ap (λ lists. decided config.orderers lists) (orderer_lists config kept events);
  stays = whole_stays;
  runs = whole_runs;
}
