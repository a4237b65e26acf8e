-- A row whose mark tells of no failure and of nothing in flight is quiet.
use Rattle.std.proofs.Common.{◌≡◌, ◌≢◌, Option, Some, None, refl}
use Rattle.history_frame.specs.declared.inputs.Input.{Input}
use Rattle.history_frame.specs.declared.inputs.Input.TheVariants.{Deliver, Call, Tick, Lead, Stop, Restart}
use Rattle.history_frame.specs.declared.inputs.Mark.{Mark}
use Rattle.history_frame.specs.declared.inputs.Mark.TheVariants.{Done, Halted, OpenedWithout, OpenedWith, StayedDown}
use Rattle.log_base.specs.ClusterShape.{Shape}
use Rattle.node_table.specs.declared.role.Role.{Role}
use Rattle.node_table.specs.declared.role.Role.TheVariants.{Storage, Gatherer, Orderer}
use Rattle.node_model.specs.GathererRow.{gatherer_role, outcome as gatherer_outcome}
use Rattle.node_model.specs.Marks.{ChangeOf, Mode, NodeOf, OutcomeOf, RoleOf, Running, Stopped, made_by, restarted, row_made, stop_made, usual_made}
use Rattle.node_model.specs.NodeState.{NodeOutcome, NodeState, Storing, Gathering, Ordering, as_outcome, outcome_as}
use Rattle.node_model.specs.OrdererRow.{orderer_role, outcome as orderer_outcome}
use Rattle.node_model.specs.StorageNode.{member_of}
use Rattle.node_model.specs.StorageRow.{storage_role, outcome as storage_outcome}
use Rattle.quiet_law.specs.Quiet.{TellsNoFailure, quiet_mark}

module _ {D P K M : Type 0} (role : RoleOf D P K M) (node : NodeOf D P K M) (made : OutcomeOf D P K M) where
  no_row_opens : (memory : M) (input : Input) (change : Option (ChangeOf P M)) → row_made role node.durable memory input change OpenedWithout ≢ Some made
  no_row_opens memory input None e = absurd (cc)
  no_row_opens memory input (Some change) e = absurd (cc)

  -- only a restart opens a node
  none_opens : (mode : Mode P K M) (input : Input) → usual_made role node mode input OpenedWithout ≢ Some made
  none_opens (Stopped flight known) input e = absurd (cc)
  none_opens (Running memory) input e = no_row_opens memory input (role.row node.durable memory input) e

  no_restart_done : restarted role node Done ≢ Some made
  no_restart_done e = absurd (cc)

  no_stop_opens : stop_made role node OpenedWithout ≢ Some made
  no_stop_opens e = absurd (cc)

  made_quiet : (input : Input) (mark : Mark) → TellsNoFailure mark → made_by role node input mark ≡ Some made → mark ≡ quiet_mark input
  made_quiet input Halted fine e = absurd fine
  made_quiet input OpenedWith fine e = absurd fine
  made_quiet input StayedDown fine e = absurd fine
  made_quiet (Deliver place index message) Done fine e = refl
  made_quiet (Call call) Done fine e = refl
  made_quiet Tick Done fine e = refl
  made_quiet Lead Done fine e = refl
  made_quiet Stop Done fine e = refl
  made_quiet Restart Done fine e = absurd (no_restart_done e)
  made_quiet (Deliver place index message) OpenedWithout fine e = absurd (none_opens node.mode (Deliver place index message) e)
  made_quiet (Call call) OpenedWithout fine e = absurd (none_opens node.mode (Call call) e)
  made_quiet Tick OpenedWithout fine e = absurd (none_opens node.mode Tick e)
  made_quiet Lead OpenedWithout fine e = absurd (none_opens node.mode Lead e)
  made_quiet Stop OpenedWithout fine e = absurd (no_stop_opens e)
  made_quiet Restart OpenedWithout fine e = refl

-- what a node of a role made
some_made : {D P K M : Type 0} (state : NodeOf D P K M → NodeState) (found : Option (OutcomeOf D P K M)) (made : NodeOutcome) → as_outcome state found ≡ Some made
    → (outcome : OutcomeOf D P K M) × (found ≡ Some outcome)
some_made state None made e = absurd (cc)
some_made state (Some outcome) made e = (outcome, refl)

pub row_quiet : (config : Shape) (role : Role) (state : NodeState) (input : Input) (mark : Mark) (made : NodeOutcome) → TellsNoFailure mark
    → outcome_as config role state input mark ≡ Some made → mark ≡ quiet_mark input
unfolding storage_outcome gatherer_outcome orderer_outcome
row_quiet config (Storage shard replica) (Storing node) input mark made fine e =
    let some = some_made Storing (storage_outcome config (member_of config shard.0 replica.0) node input mark) made e in
    made_quiet (storage_role config (member_of config shard.0 replica.0)) node some.0 input mark fine some.1
row_quiet config (Gatherer index) (Gathering node) input mark made fine e =
    let some = some_made Gathering (gatherer_outcome config index node input mark) made e in
    made_quiet (gatherer_role config index) node some.0 input mark fine some.1
row_quiet config (Orderer index) (Ordering node) input mark made fine e =
    let some = some_made Ordering (orderer_outcome config index node input mark) made e in
    made_quiet (orderer_role config index) node some.0 input mark fine some.1
row_quiet config (Storage shard replica) (Gathering node) input mark made fine e = absurd (cc)
row_quiet config (Storage shard replica) (Ordering node) input mark made fine e = absurd (cc)
row_quiet config (Gatherer index) (Storing node) input mark made fine e = absurd (cc)
row_quiet config (Gatherer index) (Ordering node) input mark made fine e = absurd (cc)
row_quiet config (Orderer index) (Storing node) input mark made fine e = absurd (cc)
row_quiet config (Orderer index) (Gathering node) input mark made fine e = absurd (cc)
