use Rattle.schedule_model.proofs.Starting.{all_started, first_starts, no_later_start}
use Rattle.schedule_model.proofs.laws.nodes_are_started_first.Goals as goal

pub returns : goal.returns
returns c = record {
  first = first_starts;
  later = no_later_start;
  all = λ config run items events driven. all_started config run items events driven.followed driven.over;
}
