-- What a node replies is an answer of nodes, whatever happens at it.
use Rattle.std.proofs.Common.{◌≡◌, ℕ, Bool, true, false, cond, ◌==◌, ◌^◌, nat_le, List, [], length, Option, Some, None, ◌++◌, ◌∷◌, refl, sym, subst}
use Rattle.std.proofs.lemmas.Bool.{cond_both}
use Rattle.std.proofs.lemmas.Option.{none-some, same_Some}
use Rattle.aggregator.specs.Hearing.{Hearing}
use Rattle.reply_frame.specs.declared.replies.Reply.{Reply, Nothing, Down, Halted as HaltedReply, NoSuchShard, Taken as TakenWish}
use Rattle.history_frame.specs.declared.inputs.Call.{Call}
use Rattle.history_frame.specs.declared.inputs.Call.TheVariants.{Submit, Ask, Read, Request, Settled}
use Rattle.history_frame.specs.declared.inputs.Input.{Input}
use Rattle.history_frame.specs.declared.inputs.Input.TheVariants.{Deliver, Call as ACall, Tick, Lead, Stop, Restart}
use Rattle.history_frame.specs.declared.inputs.Mark.{Mark}
use Rattle.log_base.specs.ClusterShape.{Shape}
use Rattle.log_model.specs.Asking.{Asked, At, Pending as PendingAsked, FinalisedAt, Stale as StaleAsked, Missing}
use Rattle.log_model.specs.Reading.{ReadAnswer, Found, Trimmed, Pending as PendingPosition, Elsewhere}
use Rattle.log_model.specs.Storage.{Member}
use Rattle.log_model.specs.Submitting.{Submitted, Stored, Stale, NotAdded, Finalised, Full}
use Rattle.message_frame.specs.declared.messages.Message.{Message}
use Rattle.message_frame.specs.declared.messages.Message.TheVariants.{Copy, CopyAck, Report, Least, Prepare, Promised, Lower, Accept, Accepted, Decide, Want}
use Rattle.message_frame.specs.declared.messages.Vote.{Vote}
use Rattle.node_table.specs.declared.role.Role.{Role}
use Rattle.node_table.specs.declared.role.Role.TheVariants.{Storage, Gatherer, Orderer as OrdererRole}
use Rattle.node_table.specs.Numbering.{role_at}
use Rattle.paxos_model.specs.Acceptor.{Promised as Promise_answer, Refused, Granted, Accepted as Accept_answer, TooLow, Taken}
use Rattle.paxos_model.specs.Leader.{Leader, Pending, awaits_promise, ballot_above, leader_from, with_acceptance, with_promise}
use Rattle.paxos_model.specs.Majority.{most}
use Rattle.paxos_model.specs.Votes.{Payload, Promise, promised}
use Rattle.peer_copy.specs.declared.taking.Taking.{Taking}
use Rattle.peer_copy.specs.declared.taking.Taking.TheVariants.{Put as IsNext, Have as IsThere, Gap as IsMissing}
use Rattle.record_frame.specs.declared.entries.Entry.{Entry}
use Rattle.record_frame.specs.declared.values.Value.{Value}
use Rattle.node_model.specs.GathererRow.{GathererNode, GathererOutcome, gatherer_role, message_row as gatherer_message_row, on_report, on_tick as gatherer_tick, outcome as gatherer_outcome, row as gatherer_row}
use Rattle.node_model.specs.Marks.{ChangeOf, NodeOf, OutcomeOf, RoleOf, to_call}
use Rattle.node_model.specs.Messages.{prepare_message}
use Rattle.node_model.specs.Nodes.{to_orderers}
use Rattle.node_model.specs.NodeState.{NodeOutcome, NodeState, Storing, Gathering, Ordering, as_outcome, node_outcome, outcome_as}
use Rattle.node_model.specs.OrdererNode.{Node, Orderer, Outcome}
use Rattle.node_model.specs.OrdererRow.{accept_answer, accepted_for, accepted_to, answered, call_row as orderer_call_row, counted, decided_by, finalises_unknown, go_on, learned, message_row as orderer_message_row, on_accept, on_accepted, on_lead, on_least, on_lower, on_prepare, on_promised, on_request, on_settled, on_tick as orderer_tick, on_want, one_tick, orderer_role, outcome as orderer_outcome, prepare_answer, promised_to, quiet, request_to, row as orderer_row, settled_reply, tick_leader, tick_pending, told, with_leader}
use Rattle.node_model.specs.StorageNode.{Put, Replica, StorageNode, StorageOutcome, member_of}
use Rattle.node_model.specs.StorageRow.{ask_reply, call_row, copied_as, message_row, on_ask, on_copied, on_copy, on_decide, on_read, on_submit, on_tick, outcome, read_reply, row, storage_role, submit_reply}
use Rattle.node_model.specs.Turning.{Turned, Ran, Fell, Slept, Stopped_now, Opened, Opened_more}
use Rattle.node_model.proofs.Turning.{ForSome, for_some_at, turned}
use Rattle.history_walk.specs.Replies.{IsNodeReply}

to_call_is : (input : Input) (reply : Reply) → IsNodeReply reply → IsNodeReply (to_call input reply)
to_call_is (ACall call) reply is = is
to_call_is (Deliver place index message) reply is = tt
to_call_is Tick reply is = tt
to_call_is Lead reply is = tt
to_call_is Stop reply is = tt
to_call_is Restart reply is = tt

-- an event answers what its row does, or that the node is down or halts, or nothing
module _ {D P K M : Type 0} (role : RoleOf D P K M) (node : NodeOf D P K M) (input : Input)
    (rows : (memory : M) (change : ChangeOf P M) → role.row node.durable memory input ≡ Some change → IsNodeReply change.reply) where
  turned_reply : (mark : Mark) (made : OutcomeOf D P K M) → Turned role node input mark made → IsNodeReply made.reply
  turned_reply mark made (Ran memory change m r done e) = subst (λ (o : OutcomeOf D P K M). IsNodeReply o.reply) (sym e) (rows memory change r)
  turned_reply mark made (Fell memory change put m r p halts e) = subst (λ (o : OutcomeOf D P K M). IsNodeReply o.reply) (sym e) (to_call_is input HaltedReply tt)
  turned_reply mark made (Slept flight known m done e) = subst (λ (o : OutcomeOf D P K M). IsNodeReply o.reply) (sym e) (to_call_is input Down tt)
  turned_reply mark made (Stopped_now e) = subst (λ (o : OutcomeOf D P K M). IsNodeReply o.reply) (sym e) tt
  turned_reply mark made (Opened without e) = subst (λ (o : OutcomeOf D P K M). IsNodeReply o.reply) (sym e) tt
  turned_reply mark made (Opened_more put f more e) = subst (λ (o : OutcomeOf D P K M). IsNodeReply o.reply) (sym e) tt

abbrev OfRow : {P M : Type 0} → ChangeOf P M → Type 0
OfRow change = IsNodeReply change.reply

submit_is : (answer : Submitted) → IsNodeReply (submit_reply answer)
submit_is (Stored offset) = tt
submit_is (Stale last) = tt
submit_is NotAdded = tt
submit_is Finalised = tt
submit_is Full = tt

ask_is : (answer : Asked) → IsNodeReply (ask_reply answer)
ask_is (At position) = tt
ask_is (PendingAsked covered) = tt
ask_is (FinalisedAt frozen) = tt
ask_is (StaleAsked last) = tt
ask_is Missing = tt

read_is : (position : ℕ) (answer : ReadAnswer) → IsNodeReply (read_reply position answer)
read_is position (Found entry) = tt
read_is position (Trimmed mark) = tt
read_is position (PendingPosition end) = tt
read_is position (Elsewhere shard) = tt

settled_is : (known : ℕ) (slot : Option ℕ) → IsNodeReply (settled_reply known slot)
settled_is known None = tt
settled_is known (Some slot) = tt

module _ (config : Shape) (member : Member) (lists : List (List Entry)) (memory : Replica) where
  copied_row : (put : Put) (taking : Taking) → OfRow (copied_as config member lists memory put taking)
  copied_row put IsNext = tt
  copied_row put IsThere = tt
  copied_row put IsMissing = tt

  message_is : (message : Message) → ForSome OfRow (message_row config member lists memory message)
  unfolding on_copy on_copied on_decide
  message_is (Copy segment offset entry) = copied_row _ _
  message_is (CopyAck peer held) = tt
  message_is (Decide slot value) = tt
  message_is (Report shard replica lengths) = tt
  message_is (Least shard lengths) = tt
  message_is (Prepare ballot slot) = tt
  message_is (Promised ballot slot who votes) = tt
  message_is (Lower ballot promise) = tt
  message_is (Accept ballot slot value) = tt
  message_is (Accepted ballot slot who) = tt
  message_is (Want slot node) = tt

  call_is : (call : Call) → ForSome OfRow (call_row member lists memory call)
  unfolding on_submit on_ask on_read
  call_is (Submit client number bytes) = submit_is _
  call_is (Ask client number) = ask_is _
  call_is (Read client position) = read_is _ _
  call_is (Request client value) = tt
  call_is (Settled client value from) = tt

  row_is : (input : Input) → ForSome OfRow (row config member lists memory input)
  unfolding on_tick
  row_is (Deliver place index None) = tt
  row_is (Deliver place index (Some message)) = message_is message
  row_is (ACall call) = call_is call
  row_is Tick = tt
  row_is Lead = tt
  row_is Stop = tt
  row_is Restart = tt

storage_reply : (config : Shape) (member : Member) (node : StorageNode) (input : Input) (mark : Mark) (made : StorageOutcome)
    → outcome config member node input mark ≡ Some made → IsNodeReply made.reply
unfolding outcome
storage_reply config member node input mark made e =
    turned_reply (storage_role config member) node input
    (λ memory change r. for_some_at OfRow (row config member node.durable memory input) change (row_is config member node.durable memory input) r)
    mark made (turned (storage_role config member) node input mark made e)

module _ (config : Shape) (index : ℕ) (memory : Hearing) where
  gatherer_message_is : (message : Message) → ForSome OfRow (gatherer_message_row memory message)
  unfolding on_report
  gatherer_message_is (Report shard replica lengths) = tt
  gatherer_message_is (Copy segment offset entry) = tt
  gatherer_message_is (CopyAck peer held) = tt
  gatherer_message_is (Decide slot value) = tt
  gatherer_message_is (Least shard lengths) = tt
  gatherer_message_is (Prepare ballot slot) = tt
  gatherer_message_is (Promised ballot slot who votes) = tt
  gatherer_message_is (Lower ballot promise) = tt
  gatherer_message_is (Accept ballot slot value) = tt
  gatherer_message_is (Accepted ballot slot who) = tt
  gatherer_message_is (Want slot node) = tt

  gatherer_row_is : (input : Input) → ForSome OfRow (gatherer_row config index memory input)
  unfolding gatherer_tick
  gatherer_row_is (Deliver place place_index None) = tt
  gatherer_row_is (Deliver place place_index (Some message)) = gatherer_message_is message
  gatherer_row_is (ACall call) = tt
  gatherer_row_is Tick = tt
  gatherer_row_is Lead = tt
  gatherer_row_is Stop = tt
  gatherer_row_is Restart = tt

gatherer_reply : (config : Shape) (index : ℕ) (node : GathererNode) (input : Input) (mark : Mark) (made : GathererOutcome)
    → gatherer_outcome config index node input mark ≡ Some made → IsNodeReply made.reply
unfolding gatherer_outcome
gatherer_reply config index node input mark made e =
    turned_reply (gatherer_role config index) node input
    (λ memory change r. for_some_at OfRow (gatherer_row config index memory input) change (gatherer_row_is config index memory input) r)
    mark made (turned (gatherer_role config index) node input mark made e)

module _ (config : Shape) (i : ℕ) (list : List Payload) (o : Orderer) where
  lead_is : OfRow (on_lead config i list o)
  unfolding on_lead
  lead_is = at (nat_le (2 ^ 56) (ballot_above config.orderers i (promised list)))
    where
      at : (t : Bool) → OfRow (cond t (quiet o) (record {
        put = Some (Promise (ballot_above config.orderers i (promised list)));
        after = with_leader o (Some (leader_from (ballot_above config.orderers i (promised list)) (length o.known)));
        outputs = to_orderers config (prepare_message (ballot_above config.orderers i (promised list)) (length o.known));
        reply = Nothing;
      }))
      at true = tt
      at false = tt

  prepare_is : (ballot slot : ℕ) (answer : Promise_answer) → OfRow (prepare_answer config i o ballot slot answer)
  prepare_is ballot slot (Refused promise) = tt
  prepare_is ballot slot (Granted put reported) = tt

  accept_is : (ballot slot : ℕ) (answer : Accept_answer) → OfRow (accept_answer config i o ballot slot answer)
  accept_is ballot slot (TooLow promise) = tt
  accept_is ballot slot (Taken put) = tt

  promised_is : (leader : Option Leader) (ballot slot who : ℕ) (votes : List Vote) → OfRow (promised_to config o leader ballot slot who votes)
  promised_is None ballot slot who votes = tt
  promised_is (Some leader) ballot slot who votes =
      cond_both (awaits_promise leader ballot slot) (go_on config o (with_promise leader who votes) []) (quiet o) OfRow (λ e. tt) (λ e. tt)

  decided_is : (leader : Option Leader) (p : Orderer) (slot : ℕ) (value : Value) → OfRow (decided_by config i p leader slot value)
  decided_is None p slot value = tt
  decided_is (Some leader) p slot value = tt

  counted_is : (leader : Leader) (pending : Pending) → OfRow (counted config i o leader pending)
  counted_is leader pending =
      cond_both (most config.orderers pending.accepted)
      (decided_by config i (learned o pending.slot pending.value) (learned o pending.slot pending.value).leader pending.slot pending.value)
      (quiet (with_leader o (Some (record leader { pending = Some pending })))) OfRow
      (λ e. decided_is (learned o pending.slot pending.value).leader (learned o pending.slot pending.value) pending.slot pending.value) (λ e. tt)

  accepted_for_is : (leader : Leader) (pending : Option Pending) (slot who : ℕ) → OfRow (accepted_for config i o leader pending slot who)
  accepted_for_is leader None slot who = tt
  accepted_for_is leader (Some pending) slot who =
      cond_both (pending.slot == slot) (counted config i o leader (with_acceptance pending who)) (quiet o) OfRow (λ e. counted_is leader (with_acceptance pending who)) (λ e. tt)

  accepted_is : (leader : Option Leader) (ballot slot who : ℕ) → OfRow (accepted_to config i o leader ballot slot who)
  accepted_is None ballot slot who = tt
  accepted_is (Some leader) ballot slot who =
      cond_both (leader.ballot == ballot) (accepted_for config i o leader leader.pending slot who) (quiet o) OfRow (λ e. accepted_for_is leader leader.pending slot who) (λ e. tt)

  tick_pending_is : (p : Orderer) (leader : Leader) (pending : Option Pending) → OfRow (tick_pending config p leader pending)
  tick_pending_is p leader None = tt
  tick_pending_is p leader (Some pending) = tt

  tick_leader_is : (p : Orderer) (leader : Option Leader) (asked : ℕ) → OfRow (tick_leader config i p leader asked)
  tick_leader_is p None asked = tt
  tick_leader_is p (Some leader) asked =
      cond_both (most config.orderers leader.answered) (tick_pending config p leader leader.pending) (told p (to_orderers config (prepare_message leader.ballot leader.window))) OfRow
      (λ e. tick_pending_is p leader leader.pending) (λ e. tt)

  orderer_message_is : (message : Message) → ForSome OfRow (orderer_message_row config i list o message)
  unfolding on_least on_prepare on_promised on_lower on_accept on_accepted on_want
  orderer_message_is (Least shard lengths) = tt
  orderer_message_is (Prepare ballot slot) = prepare_is ballot.0 slot.0 _
  orderer_message_is (Promised ballot slot who votes) = promised_is o.leader ballot.0 slot.0 who votes
  orderer_message_is (Lower ballot promise) = tt
  orderer_message_is (Accept ballot slot value) = accept_is ballot.0 slot.0 _
  orderer_message_is (Accepted ballot slot who) = accepted_is o.leader ballot.0 slot.0 who
  orderer_message_is (Decide slot value) = tt
  orderer_message_is (Want slot node) = tt
  orderer_message_is (Copy segment offset entry) = tt
  orderer_message_is (CopyAck peer held) = tt
  orderer_message_is (Report shard replica lengths) = tt

  request_is : (leader : Option Leader) (value : Value) → OfRow (request_to config o leader value)
  request_is None value = tt
  request_is (Some leader) value = at (finalises_unknown config o.known value)
    where
      at : (t : Bool) → OfRow (cond t (answered o NoSuchShard) (answered (record o { wishes = o.wishes ++ record { value = value; from = length o.known } ∷ [] }) (TakenWish (length o.known))))
      at true = tt
      at false = tt

  orderer_call_is : (call : Call) → ForSome OfRow (orderer_call_row config o call)
  unfolding on_request on_settled
  orderer_call_is (Request client value) = request_is o.leader value
  orderer_call_is (Settled client value from) = settled_is _ _
  orderer_call_is (Submit client number bytes) = tt
  orderer_call_is (Ask client number) = tt
  orderer_call_is (Read client position) = tt

  orderer_row_is : (input : Input) → ForSome OfRow (orderer_row config i list o input)
  unfolding orderer_tick
  orderer_row_is (Deliver place index None) = tt
  orderer_row_is (Deliver place index (Some message)) = orderer_message_is message
  orderer_row_is (ACall call) = orderer_call_is call
  orderer_row_is Tick = tick_leader_is (one_tick o) o.leader _
  orderer_row_is Lead = lead_is
  orderer_row_is Stop = tt
  orderer_row_is Restart = tt

orderer_reply : (config : Shape) (i : ℕ) (node : Node) (input : Input) (mark : Mark) (made : Outcome)
    → orderer_outcome config i node input mark ≡ Some made → IsNodeReply made.reply
unfolding orderer_outcome
orderer_reply config i node input mark made e =
    turned_reply (orderer_role config i) node input
    (λ memory change r. for_some_at OfRow (orderer_row config i node.durable memory input) change (orderer_row_is config i node.durable memory input) r)
    mark made (turned (orderer_role config i) node input mark made e)

-- an outcome of a role as one of a node
some_is : {D P K M : Type 0} (state : NodeOf D P K M → NodeState) (o : Option (OutcomeOf D P K M)) (made : NodeOutcome) → as_outcome state o ≡ Some made
    → ((one : OutcomeOf D P K M) → o ≡ Some one → IsNodeReply one.reply) → IsNodeReply made.reply
some_is state None made e each = absurd (none-some made e)
some_is state (Some one) made e each = subst (λ (m : NodeOutcome). IsNodeReply m.reply) (same_Some _ made e) (each one refl)

reply_as : (config : Shape) (role : Role) (state : NodeState) (input : Input) (mark : Mark) (made : NodeOutcome)
    → outcome_as config role state input mark ≡ Some made → IsNodeReply made.reply
reply_as config (Storage shard replica) (Storing node) input mark made e =
    some_is Storing (outcome config (member_of config shard.0 replica.0) node input mark) made e (storage_reply config (member_of config shard.0 replica.0) node input mark)
reply_as config (Gatherer index) (Gathering node) input mark made e = some_is Gathering (gatherer_outcome config index node input mark) made e (gatherer_reply config index node input mark)
reply_as config (OrdererRole index) (Ordering node) input mark made e = some_is Ordering (orderer_outcome config index node input mark) made e (orderer_reply config index node input mark)
reply_as config (Storage shard replica) (Gathering node) input mark made e = absurd (none-some made e)
reply_as config (Storage shard replica) (Ordering node) input mark made e = absurd (none-some made e)
reply_as config (Gatherer index) (Storing node) input mark made e = absurd (none-some made e)
reply_as config (Gatherer index) (Ordering node) input mark made e = absurd (none-some made e)
reply_as config (OrdererRole index) (Storing node) input mark made e = absurd (none-some made e)
reply_as config (OrdererRole index) (Gathering node) input mark made e = absurd (none-some made e)

-- an event of a node answers as nodes do
pub node_reply : (config : Shape) (node : ℕ) (state : NodeState) (input : Input) (mark : Mark) (made : NodeOutcome)
    → node_outcome config node state input mark ≡ Some made → IsNodeReply made.reply
node_reply config node state input mark made e = reply_as config (role_at config node) state input mark made e
