-- A running node has a row for each input that is named for its role, and for no other.
use Rattle.std.proofs.Common.{◌≡◌, ℕ, ◌&&◌, List, Some, None, is_some, refl}
use Rattle.aggregator.specs.Hearing.{Hearing}
use Rattle.history_frame.specs.declared.inputs.Call.{Call}
use Rattle.history_frame.specs.declared.inputs.Call.TheVariants.{Submit, Ask, Read, Request, Settled}
use Rattle.history_frame.specs.declared.inputs.Input.{Input}
use Rattle.history_frame.specs.declared.inputs.Input.TheVariants.{Deliver, Call as ACall, Tick, Lead, Stop, Restart}
use Rattle.log_base.specs.ClusterShape.{Shape}
use Rattle.log_model.specs.Storage.{Member}
use Rattle.message_frame.specs.declared.messages.Message.{Message}
use Rattle.message_frame.specs.declared.messages.Message.TheVariants.{Copy, CopyAck, Report, Least, Prepare, Promised, Lower, Accept, Accepted, Decide, Want}
use Rattle.paxos_model.specs.Votes.{Payload}
use Rattle.record_frame.specs.declared.entries.Entry.{Entry}
use Rattle.node_model.specs.GathererRow.{is_message as gatherer_message, message_row as gatherer_message_row, names as gatherer_names, row as gatherer_row}
use Rattle.node_model.specs.Marks.{is_named}
use Rattle.node_model.specs.Naming.{is_row_input}
use Rattle.node_model.specs.OrdererNode.{Orderer}
use Rattle.node_model.specs.OrdererRow.{call_row as orderer_call_row, is_call as orderer_call, is_message as orderer_message, message_row as orderer_message_row, names as orderer_names, row as orderer_row}
use Rattle.node_model.specs.StorageNode.{Replica}
use Rattle.node_model.specs.StorageRow.{call_row, is_call, is_message, message_row, names, row}

module _ (config : Shape) (member : Member) (lists : List (List Entry)) (memory : Replica) where
  storage_message : (message : Message) → is_some (message_row config member lists memory message) ≡ is_message message
  storage_message (Copy segment offset entry) = refl
  storage_message (CopyAck peer held) = refl
  storage_message (Report shard replica lengths) = refl
  storage_message (Least shard lengths) = refl
  storage_message (Prepare ballot slot) = refl
  storage_message (Promised ballot slot who votes) = refl
  storage_message (Lower ballot promise) = refl
  storage_message (Accept ballot slot value) = refl
  storage_message (Accepted ballot slot who) = refl
  storage_message (Decide slot value) = refl
  storage_message (Want slot node) = refl

  storage_call : (call : Call) → is_some (call_row member lists memory call) ≡ is_call call
  storage_call (Submit client number bytes) = refl
  storage_call (Ask client number) = refl
  storage_call (Read client position) = refl
  storage_call (Request client value) = refl
  storage_call (Settled client value from) = refl

  pub storage_rows : (input : Input) → is_some (row config member lists memory input) ≡ (is_row_input input && is_named names input)
  storage_rows (Deliver place index None) = refl
  storage_rows (Deliver place index (Some message)) = storage_message message
  storage_rows (ACall call) = storage_call call
  storage_rows Tick = refl
  storage_rows Lead = refl
  storage_rows Stop = refl
  storage_rows Restart = refl

module _ (config : Shape) (index : ℕ) (memory : Hearing) where
  gatherer_message_rows : (message : Message) → is_some (gatherer_message_row memory message) ≡ gatherer_message message
  gatherer_message_rows (Copy segment offset entry) = refl
  gatherer_message_rows (CopyAck peer held) = refl
  gatherer_message_rows (Report shard replica lengths) = refl
  gatherer_message_rows (Least shard lengths) = refl
  gatherer_message_rows (Prepare ballot slot) = refl
  gatherer_message_rows (Promised ballot slot who votes) = refl
  gatherer_message_rows (Lower ballot promise) = refl
  gatherer_message_rows (Accept ballot slot value) = refl
  gatherer_message_rows (Accepted ballot slot who) = refl
  gatherer_message_rows (Decide slot value) = refl
  gatherer_message_rows (Want slot node) = refl

  pub gatherer_rows : (input : Input) → is_some (gatherer_row config index memory input) ≡ (is_row_input input && is_named gatherer_names input)
  gatherer_rows (Deliver place place_index None) = refl
  gatherer_rows (Deliver place place_index (Some message)) = gatherer_message_rows message
  gatherer_rows (ACall call) = refl
  gatherer_rows Tick = refl
  gatherer_rows Lead = refl
  gatherer_rows Stop = refl
  gatherer_rows Restart = refl

module _ (config : Shape) (i : ℕ) (list : List Payload) (memory : Orderer) where
  orderer_message_rows : (message : Message) → is_some (orderer_message_row config i list memory message) ≡ orderer_message message
  orderer_message_rows (Copy segment offset entry) = refl
  orderer_message_rows (CopyAck peer held) = refl
  orderer_message_rows (Report shard replica lengths) = refl
  orderer_message_rows (Least shard lengths) = refl
  orderer_message_rows (Prepare ballot slot) = refl
  orderer_message_rows (Promised ballot slot who votes) = refl
  orderer_message_rows (Lower ballot promise) = refl
  orderer_message_rows (Accept ballot slot value) = refl
  orderer_message_rows (Accepted ballot slot who) = refl
  orderer_message_rows (Decide slot value) = refl
  orderer_message_rows (Want slot node) = refl

  orderer_call_rows : (call : Call) → is_some (orderer_call_row config memory call) ≡ orderer_call call
  orderer_call_rows (Submit client number bytes) = refl
  orderer_call_rows (Ask client number) = refl
  orderer_call_rows (Read client position) = refl
  orderer_call_rows (Request client value) = refl
  orderer_call_rows (Settled client value from) = refl

  pub orderer_rows : (input : Input) → is_some (orderer_row config i list memory input) ≡ (is_row_input input && is_named orderer_names input)
  orderer_rows (Deliver place index None) = refl
  orderer_rows (Deliver place index (Some message)) = orderer_message_rows message
  orderer_rows (ACall call) = orderer_call_rows call
  orderer_rows Tick = refl
  orderer_rows Lead = refl
  orderer_rows Stop = refl
  orderer_rows Restart = refl
