-- No node answers with a stream.
use Rattle.std.proofs.Common.{◌≡◌, ℕ, Bool, true, false, cond, List, Option, Some, None, refl, rules, sym, subst}
use Rattle.aggregator.specs.Hearing.{Hearing}
use Rattle.reply_frame.specs.declared.replies.Reply.{Reply, Down, Halted as HaltedReply}
use Rattle.history_frame.specs.declared.events.Happened.{Happened}
use Rattle.history_frame.specs.declared.inputs.Call.{Call}
use Rattle.history_frame.specs.declared.inputs.Call.TheVariants.{Submit, Ask, Read, Request, Settled}
use Rattle.history_frame.specs.declared.inputs.Input.{Input}
use Rattle.history_frame.specs.declared.inputs.Input.TheVariants.{Deliver, Call as ACall, Tick, Lead, Stop, Restart}
use Rattle.history_frame.specs.declared.inputs.Mark.{Mark}
use Rattle.log_base.specs.ClusterShape.{Shape}
use Rattle.log_model.specs.Asking.{Asked, At, Pending as PendingAsked, FinalisedAt, Stale as StaleAsked, Missing}
use Rattle.log_model.specs.Reading.{ReadAnswer, Found, Trimmed, Pending as PendingPosition, Elsewhere}
use Rattle.log_model.specs.Storage.{Member}
use Rattle.log_model.specs.Submitting.{Submitted, Stored, Stale, NotAdded, Finalised, Full}
use Rattle.message_frame.specs.declared.messages.Message.{Message}
use Rattle.message_frame.specs.declared.messages.Message.TheVariants.{Copy, CopyAck, Report, Least, Prepare, Promised, Lower, Accept, Accepted, Decide, Want}
use Rattle.message_frame.specs.declared.messages.Vote.{Vote}
use Rattle.node_table.specs.declared.role.Role.{Role}
use Rattle.node_table.specs.declared.role.Role.TheVariants.{Storage, Gatherer, Orderer}
use Rattle.node_table.specs.Numbering.{role_at}
use Rattle.paxos_model.specs.Acceptor.{Promised as PromiseAnswer, Refused, Granted, Accepted as AcceptAnswer, TooLow, Taken}
use Rattle.paxos_model.specs.Leader.{Leader, Pending}
use Rattle.paxos_model.specs.Votes.{Payload}
use Rattle.peer_copy.specs.declared.taking.Taking.{Taking}
use Rattle.peer_copy.specs.declared.taking.Taking.TheVariants.{Put as IsNext, Have as IsThere, Gap as IsMissing}
use Rattle.record_frame.specs.declared.entries.Entry.{Entry}
use Rattle.record_frame.specs.declared.values.Lengths.{Lengths}
use Rattle.record_frame.specs.declared.values.Value.{Value}
use Rattle.node_model.specs.GathererRow.{GathererNode, GathererOutcome, gatherer_role, message_row as gatherer_message, on_report, on_tick as gatherer_tick, outcome as gatherer_outcome, row as gatherer_row}
use Rattle.node_model.specs.Marks.{ChangeOf, NodeOf, OutcomeOf, RoleOf, to_call}
use Rattle.node_model.specs.NodeState.{Gathering, IsRow, NodeOutcome, NodeState, Ordering, Storing, as_outcome, outcome_as}
use Rattle.node_model.specs.OrdererNode.{Change, Node, Orderer as OrdererMemory, Outcome}
use Rattle.node_model.specs.OrdererRow.{accept_answer, accepted_for, accepted_to, call_row as orderer_calls, counted, decided_by, message_row as orderer_message, on_accept, on_accepted, on_lead, on_least, on_lower, on_prepare, on_promised, on_request, on_settled, on_tick as orderer_tick, on_want, orderer_role, outcome as orderer_outcome, prepare_answer, promised_to, request_to, row as orderer_row, settled_reply, tick_leader, tick_pending}
use Rattle.node_model.specs.StorageNode.{Put, Replica, StorageNode, StorageOutcome, member_of}
use Rattle.node_model.specs.StorageRow.{ask_reply, call_row, copied_as, message_row, on_ask, on_copied, on_copy, on_decide, on_read, on_submit, on_tick, outcome, read_reply, row, storage_role, submit_reply}
use Rattle.node_model.specs.Turning.{Turned, Ran, Fell, Slept, Stopped_now, Opened, Opened_more}
use Rattle.node_model.proofs.Turning.{ForSome, for_some_at, turned}
use Rattle.schedule_model.specs.Streams.{IsSingle}

-- ---- events

to_call-single : (input : Input) (reply : Reply) → IsSingle reply → IsSingle (to_call input reply)
to_call-single (Deliver place index message) reply h = tt
to_call-single (ACall call) reply h = h
to_call-single Tick reply h = tt
to_call-single Lead reply h = tt
to_call-single Stop reply h = tt
to_call-single Restart reply h = tt

abbrev OfRow : {P M : Type 0} → ChangeOf P M → Type 0
OfRow change = IsSingle change.reply

abbrev OfOutcome : {D P K M : Type 0} → OutcomeOf D P K M → Type 0
OfOutcome made = IsSingle made.reply

-- an event answers as its row does, or that the node is down or halted, or nothing
module _ {D P K M : Type 0} (role : RoleOf D P K M) (node : NodeOf D P K M) (input : Input) where
  abbrev RowsAnswer : Type 0
  RowsAnswer = (memory : M) → ForSome OfRow (role.row node.durable memory input)

  turned-single : RowsAnswer → (mark : Mark) (made : OutcomeOf D P K M) → Turned role node input mark made → OfOutcome made
  turned-single rows mark made (Ran memory change m r done e) =
      subst (λ (o : OutcomeOf D P K M). IsSingle o.reply) (sym e) (for_some_at OfRow (role.row node.durable memory input) change (rows memory) r)
  turned-single rows mark made (Fell memory change put m r p halts e) =
      subst (λ (o : OutcomeOf D P K M). IsSingle o.reply) (sym e) (to_call-single input HaltedReply tt)
  turned-single rows mark made (Slept flight known m done e) = subst (λ (o : OutcomeOf D P K M). IsSingle o.reply) (sym e) (to_call-single input Down tt)
  turned-single rows mark made (Stopped_now e) = subst (λ (o : OutcomeOf D P K M). IsSingle o.reply) (sym e) tt
  turned-single rows mark made (Opened without e) = subst (λ (o : OutcomeOf D P K M). IsSingle o.reply) (sym e) tt
  turned-single rows mark made (Opened_more put f more e) = subst (λ (o : OutcomeOf D P K M). IsSingle o.reply) (sym e) tt

-- ---- storage nodes

submitted-single : (answer : Submitted) → IsSingle (submit_reply answer)
submitted-single (Stored offset) = tt
submitted-single (Stale last) = tt
submitted-single NotAdded = tt
submitted-single Finalised = tt
submitted-single Full = tt

asked-single : (answer : Asked) → IsSingle (ask_reply answer)
asked-single (At position) = tt
asked-single (PendingAsked covered) = tt
asked-single (FinalisedAt frozen) = tt
asked-single (StaleAsked last) = tt
asked-single Missing = tt

read-single : (position : ℕ) (answer : ReadAnswer) → IsSingle (read_reply position answer)
read-single position (Found entry) = tt
read-single position (Trimmed mark) = tt
read-single position (PendingPosition end) = tt
read-single position (Elsewhere shard) = tt

module _ (config : Shape) (member : Member) (lists : List (List Entry)) (memory : Replica) where
  copied-single : (put : Put) (taking : Taking) → OfRow (copied_as config member lists memory put taking)
  copied-single put IsNext = tt
  copied-single put IsThere = tt
  copied-single put IsMissing = tt

  copy-single : (put : Put) (offset : ℕ) → OfRow (on_copy config member lists memory put offset)
  unfolding on_copy
  copy-single put offset = copied-single put _

  ack-single : (own : List Entry) (peer held : ℕ) → OfRow (on_copied config member own memory peer held)
  unfolding on_copied
  ack-single own peer held = tt

  decide-single : (slot : ℕ) (value : Value) → OfRow (on_decide member memory slot value)
  unfolding on_decide
  decide-single slot value = tt

  tick-single : OfRow (on_tick config member lists memory)
  unfolding on_tick
  tick-single = tt

  submit-single : (entry : Entry) → OfRow (on_submit member lists memory entry)
  unfolding on_submit
  submit-single entry = submitted-single _

  ask-single : (client number : ℕ) → OfRow (on_ask member lists memory client number)
  unfolding on_ask
  ask-single client number = asked-single _

  look-single : (position : ℕ) → OfRow (on_read member lists memory position)
  unfolding on_read
  look-single position = read-single position _

  message-single : (message : Message) → ForSome OfRow (message_row config member lists memory message)
  message-single (Copy segment offset entry) = copy-single _ offset
  message-single (CopyAck peer held) = ack-single _ peer.0 held
  message-single (Decide slot value) = decide-single slot.0 value
  message-single _ = tt

  call-single : (call : Call) → ForSome OfRow (call_row member lists memory call)
  call-single (Submit client number bytes) = submit-single _
  call-single (Ask client number) = ask-single client.0 number.0
  call-single (Read client position) = look-single position.0
  call-single _ = tt

  row-single : (input : Input) → ForSome OfRow (row config member lists memory input)
  row-single (Deliver place index None) = tt
  row-single (Deliver place index (Some message)) = message-single message
  row-single (ACall call) = call-single call
  row-single Tick = tick-single
  row-single Lead = tt
  row-single Stop = tt
  row-single Restart = tt

storage-single : (config : Shape) (member : Member) (node : StorageNode) (input : Input) (mark : Mark) (made : StorageOutcome)
    → outcome config member node input mark ≡ Some made → OfOutcome made
unfolding outcome
storage-single config member node input mark made e =
    turned-single (storage_role config member) node input (λ memory. row-single config member node.durable memory input) mark made
    (turned (storage_role config member) node input mark made e)

-- ---- gatherers

report-single : (memory : Hearing) (shard replica : ℕ) (lengths : Lengths) → OfRow (on_report memory shard replica lengths)
unfolding on_report
report-single memory shard replica lengths = tt

gather-single : (config : Shape) (index : ℕ) (memory : Hearing) → OfRow (gatherer_tick config index memory)
unfolding gatherer_tick
gather-single config index memory = tt

gatherer_message-single : (memory : Hearing) (message : Message) → ForSome OfRow (gatherer_message memory message)
gatherer_message-single memory (Report shard replica lengths) = report-single memory shard.0 replica.0 lengths
gatherer_message-single memory _ = tt

gatherer_row-single : (config : Shape) (index : ℕ) (memory : Hearing) (input : Input) → ForSome OfRow (gatherer_row config index memory input)
gatherer_row-single config index memory (Deliver place place_index None) = tt
gatherer_row-single config index memory (Deliver place place_index (Some message)) = gatherer_message-single memory message
gatherer_row-single config index memory (ACall call) = tt
gatherer_row-single config index memory Tick = gather-single config index memory
gatherer_row-single config index memory Lead = tt
gatherer_row-single config index memory Stop = tt
gatherer_row-single config index memory Restart = tt

gatherer-single : (config : Shape) (index : ℕ) (node : GathererNode) (input : Input) (mark : Mark) (made : GathererOutcome)
    → gatherer_outcome config index node input mark ≡ Some made → OfOutcome made
unfolding gatherer_outcome
gatherer-single config index node input mark made e =
    turned-single (gatherer_role config index) node input (λ memory. gatherer_row-single config index memory input) mark made
    (turned (gatherer_role config index) node input mark made e)

-- ---- orderers

cond-single : (b : Bool) (one other : Change) → OfRow one → OfRow other → OfRow (cond b one other)
cond-single true one other h k = h
cond-single false one other h k = k

module _ (config : Shape) (i : ℕ) (o : OrdererMemory) where
  lead-single : (list : List Payload) → OfRow (on_lead config i list o)
  unfolding on_lead
  lead-single list = search (rules, cond-single)

  prepared-single : (ballot slot : ℕ) (answer : PromiseAnswer) → OfRow (prepare_answer config i o ballot slot answer)
  prepared-single ballot slot (Refused promise) = tt
  prepared-single ballot slot (Granted put reported) = tt

  prepare-single : (list : List Payload) (ballot slot : ℕ) → OfRow (on_prepare config i list o ballot slot)
  unfolding on_prepare
  prepare-single list ballot slot = prepared-single ballot slot _

  promised-single : (leader : Option Leader) (ballot slot who : ℕ) (votes : List Vote) → OfRow (promised_to config o leader ballot slot who votes)
  promised-single None ballot slot who votes = tt
  promised-single (Some leader) ballot slot who votes = search (rules, cond-single)

  promise-single : (ballot slot who : ℕ) (votes : List Vote) → OfRow (on_promised config o ballot slot who votes)
  unfolding on_promised
  promise-single ballot slot who votes = promised-single o.leader ballot slot who votes

  lower-single : (ballot : ℕ) → OfRow (on_lower o ballot)
  unfolding on_lower
  lower-single ballot = tt

  accepting-single : (ballot slot : ℕ) (answer : AcceptAnswer) → OfRow (accept_answer config i o ballot slot answer)
  accepting-single ballot slot (TooLow promise) = tt
  accepting-single ballot slot (Taken put) = tt

  accept-single : (list : List Payload) (ballot slot : ℕ) (value : Value) → OfRow (on_accept config i list o ballot slot value)
  unfolding on_accept
  accept-single list ballot slot value = accepting-single ballot slot _

  decided-single : (now : OrdererMemory) (leader : Option Leader) (slot : ℕ) (value : Value) → OfRow (decided_by config i now leader slot value)
  decided-single now None slot value = tt
  decided-single now (Some leader) slot value = tt

  counted-single : (leader : Leader) (pending : Pending) → OfRow (counted config i o leader pending)
  counted-single leader pending = search (rules, cond-single, decided-single)

  counting-single : (leader : Leader) (pending : Option Pending) (slot who : ℕ) → OfRow (accepted_for config i o leader pending slot who)
  counting-single leader None slot who = tt
  counting-single leader (Some pending) slot who = search (rules, cond-single, counted-single)

  accepted-single : (leader : Option Leader) (ballot slot who : ℕ) → OfRow (accepted_to config i o leader ballot slot who)
  accepted-single None ballot slot who = tt
  accepted-single (Some leader) ballot slot who = search (rules, cond-single, counting-single)

  acceptance-single : (ballot slot who : ℕ) → OfRow (on_accepted config i o ballot slot who)
  unfolding on_accepted
  acceptance-single ballot slot who = accepted-single o.leader ballot slot who

  want-single : (slot node : ℕ) → OfRow (on_want o slot node)
  unfolding on_want
  want-single slot node = tt

  least-single : (shard : ℕ) (given : List ℕ) → OfRow (on_least config o shard given)
  unfolding on_least
  least-single shard given = tt

  pending-single : (now : OrdererMemory) (leader : Leader) (pending : Option Pending) → OfRow (tick_pending config now leader pending)
  pending-single now leader None = tt
  pending-single now leader (Some pending) = tt

  ticking-single : (now : OrdererMemory) (leader : Option Leader) (asked : ℕ) → OfRow (tick_leader config i now leader asked)
  ticking-single now None asked = tt
  ticking-single now (Some leader) asked = search (rules, cond-single, pending-single)

  order-single : OfRow (orderer_tick config i o)
  unfolding orderer_tick
  order-single = ticking-single _ o.leader _

  requested-single : (leader : Option Leader) (value : Value) → OfRow (request_to config o leader value)
  requested-single None value = tt
  requested-single (Some leader) value = search (rules, cond-single)

  request-single : (value : Value) → OfRow (on_request config o value)
  unfolding on_request
  request-single value = requested-single o.leader value

  found-single : (known : ℕ) (found : Option ℕ) → IsSingle (settled_reply known found)
  found-single known None = tt
  found-single known (Some slot) = tt

  settled-single : (value : Value) (first : ℕ) → OfRow (on_settled o value first)
  unfolding on_settled
  settled-single value first = found-single _ _

  orderer_message-single : (list : List Payload) (message : Message) → ForSome OfRow (orderer_message config i list o message)
  orderer_message-single list (Least shard lengths) = least-single shard.0 _
  orderer_message-single list (Prepare ballot slot) = prepare-single list ballot.0 slot.0
  orderer_message-single list (Promised ballot slot who votes) = promise-single ballot.0 slot.0 who votes
  orderer_message-single list (Lower ballot promise) = lower-single ballot.0
  orderer_message-single list (Accept ballot slot value) = accept-single list ballot.0 slot.0 value
  orderer_message-single list (Accepted ballot slot who) = acceptance-single ballot.0 slot.0 who
  orderer_message-single list (Decide slot value) = tt
  orderer_message-single list (Want slot node) = want-single slot.0 node.0
  orderer_message-single list _ = tt

  orderer_call-single : (call : Call) → ForSome OfRow (orderer_calls config o call)
  orderer_call-single (Request client value) = request-single value
  orderer_call-single (Settled client value first) = settled-single value first
  orderer_call-single _ = tt

  orderer_row-single : (list : List Payload) (input : Input) → ForSome OfRow (orderer_row config i list o input)
  orderer_row-single list (Deliver place index None) = tt
  orderer_row-single list (Deliver place index (Some message)) = orderer_message-single list message
  orderer_row-single list (ACall call) = orderer_call-single call
  orderer_row-single list Tick = order-single
  orderer_row-single list Lead = lead-single list
  orderer_row-single list Stop = tt
  orderer_row-single list Restart = tt

orderer-single : (config : Shape) (i : ℕ) (node : Node) (input : Input) (mark : Mark) (made : Outcome)
    → orderer_outcome config i node input mark ≡ Some made → OfOutcome made
unfolding orderer_outcome
orderer-single config i node input mark made e =
    turned-single (orderer_role config i) node input (λ memory. orderer_row-single config i memory node.durable input) mark made
    (turned (orderer_role config i) node input mark made e)

-- ---- nodes

some_outcome : {one other : NodeOutcome} → Some one ≡ Some other → one ≡ other
some_outcome e = cc

made-single : {D P K M : Type 0} (state : NodeOf D P K M → NodeState) (some : Option (OutcomeOf D P K M)) → ((made : OutcomeOf D P K M) → some ≡ Some made → OfOutcome made)
    → (made : NodeOutcome) → as_outcome state some ≡ Some made → IsSingle made.reply
made-single state None h made e = cc
made-single state (Some inner) h made e = subst (λ (o : NodeOutcome). IsSingle o.reply) (some_outcome e) (h inner refl)

role-single : (config : Shape) (role : Role) (state : NodeState) (input : Input) (mark : Mark) (made : NodeOutcome)
    → outcome_as config role state input mark ≡ Some made → IsSingle made.reply
role-single config (Storage shard replica) (Storing node) input mark made e =
    made-single Storing (outcome config (member_of config shard.0 replica.0) node input mark)
    (storage-single config (member_of config shard.0 replica.0) node input mark) made e
role-single config (Gatherer index) (Gathering node) input mark made e =
    made-single Gathering (gatherer_outcome config index node input mark) (gatherer-single config index node input mark) made e
role-single config (Orderer index) (Ordering node) input mark made e =
    made-single Ordering (orderer_outcome config index node input mark) (orderer-single config index node input mark) made e
role-single config _ _ input mark made e = cc

pub row_reply : (config : Shape) (node : ℕ) (state : NodeState) (happened : Happened) → IsRow config node state happened → IsSingle happened.reply
row_reply config node state happened h =
    subst IsSingle (sym h.reply) (role-single config (role_at config node) state happened.input happened.mark h.made h.rule)
