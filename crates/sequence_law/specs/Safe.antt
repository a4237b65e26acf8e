-- A safe history: there is one decided list, reads agree with the sequence, what is acknowledged stands there once, what is
-- refused as finalised stands nowhere, and what waits is not known.
use Rattle.std.specs.Prelude.{List}
use Rattle.history_frame.specs.declared.events.Event.{Event}
use Rattle.log_base.specs.ClusterShape.{Shape}
use Rattle.node_model.specs.NodeState.{KeptLists}
use Rattle.sequence_law.specs.Answers.{AcknowledgedOnce, PendingIsUnknown, ReadsAgree, RefusedNowhere}
use Rattle.sequence_law.specs.Known.{OneDecidedList}

pub record IsSafe (config : Shape) (kept : KeptLists) (events : List Event) : Type 0 where
  pub decided : OneDecidedList config kept events
  pub reads : ReadsAgree config kept events
  pub acknowledged : AcknowledgedOnce config kept events
  pub refused : RefusedNowhere config kept events
  pub pending : PendingIsUnknown config kept events
