-- The one value that a leader decides in a round: its wish, or the cut of all lengths, after which it has no further one.
use Rattle.std.specs.Prelude.{◌≡◌, ◌<◌, [], ◌∷◌, ◌++◌, length, Some, None}
use Rattle.log_base.specs.ClusterShape.{Shape}
use Rattle.paxos_model.specs.Leader.{slot_limit}
use Rattle.paxos_model.specs.Learner.{left_wishes, wish_of}
use Rattle.record_frame.specs.declared.values.Value.{Value}
use Rattle.quiet_model.specs.Settled.{Agreed, ListsOf, all_lengths}

pub record IsNextDecision (config : Shape) (agreed : Agreed) (lists : ListsOf) (value : Value) : Type 0 where
  pub few : length agreed.values < slot_limit
  pub wished : wish_of config.replicas agreed.values (all_lengths config lists) agreed.wishes ≡ Some value
  pub last : wish_of config.replicas (agreed.values ++ value ∷ []) (all_lengths config lists) (left_wishes agreed.wishes (length agreed.values) value) ≡ None

-- what is agreed on then
abbrev pub decided_on : Agreed → Value → Agreed
decided_on agreed value = record agreed { values = agreed.values ++ value ∷ []; wishes = [] }

-- what is agreed on while one wish more waits
abbrev pub wishing : Agreed → Value → Agreed
wishing agreed value = record agreed { wishes = agreed.wishes ++ record { value = value; from = length agreed.values } ∷ [] }
