-- Storage nodes and gatherers send no message of the orderers, whatever happens at them.
use Rattle.std.proofs.Common.{◌≡◌, ℕ, zero, suc, Bool, true, false, cond, ◌==◌, ◌%◌, List, [], ◌∷◌, Option, Some, None, sym, subst}
use Rattle.std.specs.List.{AllByRecursion}
use Rattle.aggregator.specs.Hearing.{Hearing, least_in}
use Rattle.history_frame.specs.declared.events.Sent.{Sent}
use Rattle.history_frame.specs.declared.inputs.Call.{Call}
use Rattle.history_frame.specs.declared.inputs.Call.TheVariants.{Submit, Ask, Read, Request, Settled}
use Rattle.history_frame.specs.declared.inputs.Input.{Input}
use Rattle.history_frame.specs.declared.inputs.Input.TheVariants.{Deliver, Call as ACall, Tick, Lead, Stop, Restart}
use Rattle.history_frame.specs.declared.inputs.Mark.{Mark}
use Rattle.log_base.specs.ClusterShape.{Shape}
use Rattle.log_model.specs.Storage.{Member, list_in}
use Rattle.message_frame.specs.declared.messages.Message.{Message}
use Rattle.message_frame.specs.declared.messages.Message.TheVariants.{Copy, CopyAck, Report, Least, Prepare, Promised, Lower, Accept, Accepted, Decide, Want}
use Rattle.peer_copy.specs.declared.taking.Taking.{Taking}
use Rattle.peer_copy.specs.declared.taking.Taking.TheVariants.{Put as IsNext, Have as IsThere, Gap as IsMissing}
use Rattle.record_frame.specs.declared.entries.Entry.{Entry}
use Rattle.record_frame.specs.declared.values.Lengths.{Lengths}
use Rattle.record_frame.specs.declared.values.Value.{Value}
use Rattle.node_model.specs.GathererRow.{GathererNode, GathererOutcome, gatherer_role, least_letters, leasts, message_row as gatherer_message_row, on_report, on_tick as gatherer_tick, outcome as gatherer_outcome, row as gatherer_row}
use Rattle.node_model.specs.Marks.{ChangeOf, NodeOf, OutcomeOf, RoleOf}
use Rattle.node_model.specs.Messages.{least_message}
use Rattle.node_model.specs.Nodes.{before_orderers, to_orderers}
use Rattle.node_model.specs.OrdererLegal.{IsOtherLetter}
use Rattle.node_model.specs.StorageNode.{Put, Replica, StorageNode, StorageOutcome}
use Rattle.node_model.specs.StorageRow.{call_row, copied_as, message_row, on_ask, on_copied, on_copy, on_decide, on_read, on_submit, on_tick, outcome, report, row, storage_role, want, windows}
use Rattle.node_model.specs.Turning.{Turned, Ran, Fell, Slept, Stopped_now, Opened, Opened_more}
use Rattle.node_model.proofs.Letters.{all_append, copies_all, to_nodes_all, windows_all}
use Rattle.node_model.proofs.Turning.{ForSome, for_some_at, turned}

-- no letter is a message of the orderers
abbrev pub AreOthers : List Sent → Type 0
AreOthers outputs = AllByRecursion IsOtherLetter outputs

-- an event puts out what its row does, or nothing
module _ {D P K M : Type 0} (role : RoleOf D P K M) (node : NodeOf D P K M) (input : Input) where
  abbrev pub RowsTell : (List Sent → Type 0) → Type 0
  RowsTell Holds = (memory : M) (change : ChangeOf P M) → role.row node.durable memory input ≡ Some change → Holds change.outputs

  pub outputs_hold : (Holds : List Sent → Type 0) → Holds [] → RowsTell Holds
      → (mark : Mark) (made : OutcomeOf D P K M) → Turned role node input mark made → Holds made.outputs
  outputs_hold Holds none rows mark made (Ran memory change m r done e) = subst (λ (o : OutcomeOf D P K M). Holds o.outputs) (sym e) (rows memory change r)
  outputs_hold Holds none rows mark made (Fell memory change put m r p halts e) = subst (λ (o : OutcomeOf D P K M). Holds o.outputs) (sym e) none
  outputs_hold Holds none rows mark made (Slept flight known m done e) = subst (λ (o : OutcomeOf D P K M). Holds o.outputs) (sym e) none
  outputs_hold Holds none rows mark made (Stopped_now e) = subst (λ (o : OutcomeOf D P K M). Holds o.outputs) (sym e) none
  outputs_hold Holds none rows mark made (Opened without e) = subst (λ (o : OutcomeOf D P K M). Holds o.outputs) (sym e) none
  outputs_hold Holds none rows mark made (Opened_more put f more e) = subst (λ (o : OutcomeOf D P K M). Holds o.outputs) (sym e) none

abbrev OfRow : {P M : Type 0} → ChangeOf P M → Type 0
OfRow change = AreOthers change.outputs

module _ (config : Shape) (member : Member) (lists : List (List Entry)) (memory : Replica) where
  copied_others : (put : Put) (taking : Taking) → OfRow (copied_as config member lists memory put taking)
  copied_others put IsNext = (tt, (tt, tt))
  copied_others put IsThere = (tt, tt)
  copied_others put IsMissing = (tt, tt)

  copy_others : (put : Put) (offset : ℕ) → OfRow (on_copy config member lists memory put offset)
  unfolding on_copy
  copy_others put offset = copied_others put _

  ack_others : (peer held : ℕ) → OfRow (on_copied config member (list_in lists member.own) memory peer held)
  unfolding on_copied
  ack_others peer held = copies_all config member IsOtherLetter (list_in lists member.own) peer _ (λ offset entry e. tt)

  decide_others : (slot : ℕ) (value : Value) → OfRow (on_decide member memory slot value)
  unfolding on_decide
  decide_others slot value = tt

  tick_others : OfRow (on_tick config member lists memory)
  unfolding on_tick
  tick_others =
      all_append IsOtherLetter (windows config member (list_in lists member.own) memory.copying 0 member.replicas) (report config member lists ∷ want config member memory ∷ [])
      (windows_all config member IsOtherLetter (list_in lists member.own) memory.copying 0 member.replicas (λ peer low high other offset entry e. tt))
      (tt, (tt, tt))

  submit_others : (entry : Entry) → OfRow (on_submit member lists memory entry)
  unfolding on_submit
  submit_others entry = tt

  ask_others : (client number : ℕ) → OfRow (on_ask member lists memory client number)
  unfolding on_ask
  ask_others client number = tt

  read_others : (position : ℕ) → OfRow (on_read member lists memory position)
  unfolding on_read
  read_others position = tt

  message_others : (message : Message) → ForSome OfRow (message_row config member lists memory message)
  message_others (Copy segment offset entry) = copy_others _ offset
  message_others (CopyAck peer held) = ack_others peer.0 held
  message_others (Decide slot value) = decide_others slot.0 value
  message_others (Report shard replica lengths) = tt
  message_others (Least shard lengths) = tt
  message_others (Prepare ballot slot) = tt
  message_others (Promised ballot slot who votes) = tt
  message_others (Lower ballot promise) = tt
  message_others (Accept ballot slot value) = tt
  message_others (Accepted ballot slot who) = tt
  message_others (Want slot node) = tt

  call_others : (call : Call) → ForSome OfRow (call_row member lists memory call)
  call_others (Submit client number bytes) = submit_others _
  call_others (Ask client number) = ask_others client.0 number.0
  call_others (Read client position) = read_others position.0
  call_others (Request client value) = tt
  call_others (Settled client value from) = tt

  row_others : (input : Input) → ForSome OfRow (row config member lists memory input)
  row_others (Deliver place index None) = tt
  row_others (Deliver place index (Some message)) = message_others message
  row_others (ACall call) = call_others call
  row_others Tick = tick_others
  row_others Lead = tt
  row_others Stop = tt
  row_others Restart = tt

pub storage_others : (config : Shape) (member : Member) (node : StorageNode) (input : Input) (mark : Mark) (made : StorageOutcome)
    → outcome config member node input mark ≡ Some made → AreOthers made.outputs
unfolding outcome
storage_others config member node input mark made e =
    outputs_hold (storage_role config member) node input AreOthers tt
    (λ memory change r. for_some_at OfRow (row config member node.durable memory input) change (row_others config member node.durable memory input) r)
    mark made (turned (storage_role config member) node input mark made e)

module _ (config : Shape) (index : ℕ) (memory : Hearing) where
  least_others : (shard : ℕ) (least : Option Lengths) → AreOthers (least_letters config shard least)
  unfolding to_orderers
  least_others shard None = tt
  least_others shard (Some lengths) = to_nodes_all IsOtherLetter (least_message shard lengths) (before_orderers config) config.orderers (λ node low high. tt)

  leasts_others : (shard count : ℕ) → AreOthers (leasts config index memory shard count)
  leasts_others shard zero = tt
  leasts_others shard (suc count) =
      all_append IsOtherLetter _ (leasts config index memory (suc shard) count) (at (shard % config.gatherers == index)) (leasts_others (suc shard) count)
    where
      at : (t : Bool) → AreOthers (cond t (least_letters config shard (least_in memory shard)) [])
      at true = least_others shard (least_in memory shard)
      at false = tt

  gatherer_tick_others : OfRow (gatherer_tick config index memory)
  unfolding gatherer_tick
  gatherer_tick_others = leasts_others 0 config.shards

  report_others : (shard replica : ℕ) (lengths : Lengths) → OfRow (on_report memory shard replica lengths)
  unfolding on_report
  report_others shard replica lengths = tt

  gatherer_message_others : (message : Message) → ForSome OfRow (gatherer_message_row memory message)
  gatherer_message_others (Report shard replica lengths) = report_others shard.0 replica.0 lengths
  gatherer_message_others (Copy segment offset entry) = tt
  gatherer_message_others (CopyAck peer held) = tt
  gatherer_message_others (Decide slot value) = tt
  gatherer_message_others (Least shard lengths) = tt
  gatherer_message_others (Prepare ballot slot) = tt
  gatherer_message_others (Promised ballot slot who votes) = tt
  gatherer_message_others (Lower ballot promise) = tt
  gatherer_message_others (Accept ballot slot value) = tt
  gatherer_message_others (Accepted ballot slot who) = tt
  gatherer_message_others (Want slot node) = tt

  gatherer_row_others : (input : Input) → ForSome OfRow (gatherer_row config index memory input)
  gatherer_row_others (Deliver place place_index None) = tt
  gatherer_row_others (Deliver place place_index (Some message)) = gatherer_message_others message
  gatherer_row_others (ACall call) = tt
  gatherer_row_others Tick = gatherer_tick_others
  gatherer_row_others Lead = tt
  gatherer_row_others Stop = tt
  gatherer_row_others Restart = tt

pub gatherer_others : (config : Shape) (index : ℕ) (node : GathererNode) (input : Input) (mark : Mark) (made : GathererOutcome)
    → gatherer_outcome config index node input mark ≡ Some made → AreOthers made.outputs
unfolding gatherer_outcome
gatherer_others config index node input mark made e =
    outputs_hold (gatherer_role config index) node input AreOthers tt
    (λ memory change r. for_some_at OfRow (gatherer_row config index memory input) change (gatherer_row_others config index memory input) r)
    mark made (turned (gatherer_role config index) node input mark made e)
