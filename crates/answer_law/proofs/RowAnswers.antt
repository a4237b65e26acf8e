-- What the rows of each role answer.
use Rattle.std.proofs.Common.{◌≡◌, ◌==◌, ◌^◌, ℕ, Bool, true, false, cond, List, length, Option, Some, None, slice_get, refl}
use Rattle.std.specs.Prelude.{nat_lt, nat_le}
use Rattle.std.proofs.lemmas.Bool.{cond_both}
use Rattle.reply_frame.specs.declared.replies.Reply.{Nothing as Silence}
use Rattle.reply_frame.specs.Replies.{IsNodeAnswer, IsShort}
use Rattle.aggregator.specs.Hearing.{Hearing}
use Rattle.history_frame.specs.declared.inputs.Call.{Call}
use Rattle.history_frame.specs.declared.inputs.Call.TheVariants.{Submit, Ask, Read, Request, Settled}
use Rattle.history_frame.specs.declared.inputs.Input.{Input}
use Rattle.history_frame.specs.declared.inputs.Input.TheVariants.{Deliver, Call as ACall, Tick, Lead, Stop, Restart}
use Rattle.log_base.specs.ClusterShape.{Shape}
use Rattle.log_base.specs.declared.numbers.Place.{Place}
use Rattle.log_model.specs.Asking.{Asked, At, Pending as PendingAsked, FinalisedAt, Stale as StaleAsked, Missing, ask}
use Rattle.log_model.specs.Reading.{ReadAnswer, Trimmed, read, read_entry, read_place}
use Rattle.log_model.specs.Storage.{Member, Knowledge, list_in}
use Rattle.log_model.specs.Submitting.{Submitted, Stored, Stale, NotAdded, Finalised, Full, submit}
use Rattle.message_frame.specs.declared.messages.Message.{Message}
use Rattle.message_frame.specs.declared.messages.Message.TheVariants.{Copy, CopyAck, Report, Least, Prepare, Promised, Lower, Accept, Accepted, Decide, Want}
use Rattle.message_frame.specs.declared.messages.Vote.{Vote}
use Rattle.paxos_model.specs.Acceptor.{Promised as Promise_answer, Refused, Granted, prepare, Accepted as Accept_answer, TooLow, Taken, accept}
use Rattle.paxos_model.specs.Leader.{Leader, Pending, awaits_promise, ballot_above, leader_from, with_acceptance}
use Rattle.paxos_model.specs.Learner.{find_value}
use Rattle.paxos_model.specs.Majority.{most}
use Rattle.paxos_model.specs.Votes.{Payload, Promise, promised}
use Rattle.peer_copy.specs.declared.taking.Taking.{Taking}
use Rattle.peer_copy.specs.declared.taking.Taking.TheVariants.{Put as IsNext, Have as IsThere, Gap as IsMissing}
use Rattle.record_frame.specs.declared.entries.Entry.{Entry}
use Rattle.record_frame.specs.declared.values.Value.{Value}
use Rattle.node_model.specs.GathererRow.{message_row as gatherer_message_row, on_report, on_tick as gatherer_tick, row as gatherer_row}
use Rattle.node_model.specs.Messages.{prepare_message}
use Rattle.node_model.specs.Nodes.{to_orderers}
use Rattle.node_model.specs.OrdererNode.{Change, Orderer}
use Rattle.node_model.specs.OrdererRow.{accept_answer, accepted_for, accepted_to, call_row as orderer_call_row, counted, decided_by, finalises_unknown, learned, message_row as orderer_message_row, on_accept, on_accepted, on_lead, on_least, on_lower, on_prepare, on_promised, on_request, on_settled, on_tick as orderer_tick, on_want, one_tick, prepare_answer, promised_to, quiet, request_to, row as orderer_row, settled_reply, tick_leader, tick_pending, with_leader}
use Rattle.node_model.specs.StorageNode.{Put, Replica}
use Rattle.node_model.specs.StorageRow.{ask_reply, call_row, copied_as, message_row, on_ask, on_copied, on_copy, on_decide, on_read, on_submit, on_tick, read_reply, row, submit_reply}
use Rattle.node_model.proofs.Turning.{ForSome}
use Rattle.answer_law.proofs.Answering.{OfAnswer}

submitted_answer : (a : Submitted) → IsNodeAnswer (submit_reply a)
submitted_answer (Stored offset) = tt
submitted_answer (Stale last) = tt
submitted_answer NotAdded = tt
submitted_answer Finalised = tt
submitted_answer Full = tt

asked_answer : (a : Asked) → IsNodeAnswer (ask_reply a)
asked_answer (At position) = tt
asked_answer (PendingAsked covered) = tt
asked_answer (FinalisedAt frozen) = tt
asked_answer (StaleAsked last) = tt
asked_answer Missing = tt

module _ (config : Shape) (member : Member) (lists : List (List Entry)) (short : (segment offset : ℕ) (entry : Entry) → slice_get (list_in lists segment) offset ≡ Some entry → IsShort entry) where
  entry_answer : (position end : ℕ) (found : Option Entry) → ((entry : Entry) → found ≡ Some entry → IsShort entry) → IsNodeAnswer (read_reply position (read_entry end found))
  entry_answer position end None h = tt
  entry_answer position end (Some entry) h = h entry refl

  place_answer : (position end : ℕ) (place : Option Place) → IsNodeAnswer (read_reply position (read_place member lists end place))
  place_answer position end None = tt
  place_answer position end (Some place) =
      cond_both (place.shard.0 == member.shard) _ _ (λ (a : ReadAnswer). IsNodeAnswer (read_reply position a))
      (λ own. entry_answer position end (slice_get (list_in lists place.segment.0) place.offset) (λ entry at. short place.segment.0 place.offset entry at))
      (λ other. tt)

  reading_answer : (known : Knowledge) (position : ℕ) → IsNodeAnswer (read_reply position (read member lists known position))
  unfolding read
  reading_answer known position =
      cond_both (nat_lt position known.chain.mark) (Trimmed known.chain.mark) (read_place member lists known.chain.end (slice_get known.places position))
      (λ (a : ReadAnswer). IsNodeAnswer (read_reply position a))
      (λ below. tt) (λ above. place_answer position known.chain.end (slice_get known.places position))

  copied_answer : (memory : Replica) (put : Put) (taking : Taking) → OfAnswer (copied_as config member lists memory put taking)
  copied_answer memory put IsNext = tt
  copied_answer memory put IsThere = tt
  copied_answer memory put IsMissing = tt

  copy_answer : (memory : Replica) (put : Put) (offset : ℕ) → OfAnswer (on_copy config member lists memory put offset)
  unfolding on_copy
  copy_answer memory put offset = copied_answer memory put _

  ack_answer : (memory : Replica) (peer held : ℕ) → OfAnswer (on_copied config member (list_in lists member.own) memory peer held)
  unfolding on_copied
  ack_answer memory peer held = tt

  decide_answer : (memory : Replica) (slot : ℕ) (value : Value) → OfAnswer (on_decide member memory slot value)
  unfolding on_decide
  decide_answer memory slot value = tt

  tick_answer : (memory : Replica) → OfAnswer (on_tick config member lists memory)
  unfolding on_tick
  tick_answer memory = tt

  submit_answer : (memory : Replica) (entry : Entry) → OfAnswer (on_submit member lists memory entry)
  unfolding on_submit
  submit_answer memory entry = submitted_answer (submit member (list_in lists member.own) memory.known entry).answer

  ask_answer : (memory : Replica) (client number : ℕ) → OfAnswer (on_ask member lists memory client number)
  unfolding on_ask
  ask_answer memory client number = asked_answer (ask member (list_in lists member.own) memory.known client number)

  read_answer : (memory : Replica) (position : ℕ) → OfAnswer (on_read member lists memory position)
  unfolding on_read
  read_answer memory position = reading_answer memory.known position

  message_answers : (memory : Replica) (message : Message) → ForSome OfAnswer (message_row config member lists memory message)
  message_answers memory (Copy segment offset entry) = copy_answer memory _ offset
  message_answers memory (CopyAck peer held) = ack_answer memory peer.0 held
  message_answers memory (Decide slot value) = decide_answer memory slot.0 value
  message_answers memory _ = tt

  call_answers : (memory : Replica) (call : Call) → ForSome OfAnswer (call_row member lists memory call)
  call_answers memory (Submit client number bytes) = submit_answer memory _
  call_answers memory (Ask client number) = ask_answer memory client.0 number.0
  call_answers memory (Read client position) = read_answer memory position.0
  call_answers memory _ = tt

  pub storage_row_answers : (memory : Replica) (input : Input) → ForSome OfAnswer (row config member lists memory input)
  storage_row_answers memory (Deliver place index None) = tt
  storage_row_answers memory (Deliver place index (Some message)) = message_answers memory message
  storage_row_answers memory (ACall call) = call_answers memory call
  storage_row_answers memory Tick = tick_answer memory
  storage_row_answers memory Lead = tt
  storage_row_answers memory Stop = tt
  storage_row_answers memory Restart = tt

module _ (config : Shape) (index : ℕ) (memory : Hearing) where
  gatherer_message_answers : (message : Message) → ForSome OfAnswer (gatherer_message_row memory message)
  unfolding on_report
  gatherer_message_answers (Report shard replica lengths) = tt
  gatherer_message_answers _ = tt

  pub gatherer_row_answers : (input : Input) → ForSome OfAnswer (gatherer_row config index memory input)
  unfolding gatherer_tick
  gatherer_row_answers (Deliver place at None) = tt
  gatherer_row_answers (Deliver place at (Some message)) = gatherer_message_answers message
  gatherer_row_answers (ACall call) = tt
  gatherer_row_answers Tick = tt
  gatherer_row_answers Lead = tt
  gatherer_row_answers Stop = tt
  gatherer_row_answers Restart = tt

module _ (config : Shape) (i : ℕ) where
  -- one of two rows
  either : (b : Bool) (x y : Change) → OfAnswer x → OfAnswer y → OfAnswer (cond b x y)
  either true x y p q = p
  either false x y p q = q

  -- an orderer that leads with a ballot
  abbrev led : ℕ → Orderer → Change
  led ballot o = record {
    put = Some (Promise ballot);
    after = with_leader o (Some (leader_from ballot (length o.known)));
    outputs = to_orderers config (prepare_message ballot (length o.known));
    reply = Silence;
  }

  lead_answer : (list : List Payload) (o : Orderer) → OfAnswer (on_lead config i list o)
  unfolding on_lead
  lead_answer list o = either (nat_le (2 ^ 56) (ballot_above config.orderers i (promised list))) (quiet o) (led (ballot_above config.orderers i (promised list)) o) tt tt

  promise_answer : (o : Orderer) (ballot slot : ℕ) (a : Promise_answer) → OfAnswer (prepare_answer config i o ballot slot a)
  promise_answer o ballot slot (Refused promise) = tt
  promise_answer o ballot slot (Granted put reported) = tt

  prepare_answers : (list : List Payload) (o : Orderer) (ballot slot : ℕ) → OfAnswer (on_prepare config i list o ballot slot)
  unfolding on_prepare
  prepare_answers list o ballot slot = promise_answer o ballot slot (prepare list ballot slot)

  promised_answer : (o : Orderer) (leader : Option Leader) (ballot slot who : ℕ) (votes : List Vote) → OfAnswer (promised_to config o leader ballot slot who votes)
  promised_answer o None ballot slot who votes = tt
  promised_answer o (Some leader) ballot slot who votes = either (awaits_promise leader ballot slot) _ _ tt tt

  promised_answers : (o : Orderer) (ballot slot who : ℕ) (votes : List Vote) → OfAnswer (on_promised config o ballot slot who votes)
  unfolding on_promised
  promised_answers o ballot slot who votes = promised_answer o o.leader ballot slot who votes

  lower_answer : (o : Orderer) (ballot : ℕ) → OfAnswer (on_lower o ballot)
  unfolding on_lower
  lower_answer o ballot = tt

  vote_answer : (o : Orderer) (ballot slot : ℕ) (a : Accept_answer) → OfAnswer (accept_answer config i o ballot slot a)
  vote_answer o ballot slot (TooLow promise) = tt
  vote_answer o ballot slot (Taken put) = tt

  accept_answers : (list : List Payload) (o : Orderer) (ballot slot : ℕ) (value : Value) → OfAnswer (on_accept config i list o ballot slot value)
  unfolding on_accept
  accept_answers list o ballot slot value = vote_answer o ballot slot (accept list ballot slot value)

  decided_answer : (o : Orderer) (leader : Option Leader) (slot : ℕ) (value : Value) → OfAnswer (decided_by config i o leader slot value)
  decided_answer o None slot value = tt
  decided_answer o (Some leader) slot value = tt

  counted_answer : (o : Orderer) (leader : Leader) (pending : Pending) → OfAnswer (counted config i o leader pending)
  counted_answer o leader pending =
      either (most config.orderers pending.accepted) _ _
      (decided_answer (learned o pending.slot pending.value) (learned o pending.slot pending.value).leader pending.slot pending.value) tt

  acceptance_answer : (o : Orderer) (leader : Leader) (pending : Option Pending) (slot who : ℕ) → OfAnswer (accepted_for config i o leader pending slot who)
  acceptance_answer o leader None slot who = tt
  acceptance_answer o leader (Some pending) slot who = either (pending.slot == slot) _ _ (counted_answer o leader (with_acceptance pending who)) tt

  accepted_answer : (o : Orderer) (leader : Option Leader) (ballot slot who : ℕ) → OfAnswer (accepted_to config i o leader ballot slot who)
  accepted_answer o None ballot slot who = tt
  accepted_answer o (Some leader) ballot slot who = either (leader.ballot == ballot) _ _ (acceptance_answer o leader leader.pending slot who) tt

  accepted_answers : (o : Orderer) (ballot slot who : ℕ) → OfAnswer (on_accepted config i o ballot slot who)
  unfolding on_accepted
  accepted_answers o ballot slot who = accepted_answer o o.leader ballot slot who

  want_answer : (o : Orderer) (slot node : ℕ) → OfAnswer (on_want o slot node)
  unfolding on_want
  want_answer o slot node = tt

  pending_answer : (o : Orderer) (leader : Leader) (pending : Option Pending) → OfAnswer (tick_pending config o leader pending)
  pending_answer o leader None = tt
  pending_answer o leader (Some pending) = tt

  ticked_answer : (o : Orderer) (leader : Option Leader) (asked : ℕ) → OfAnswer (tick_leader config i o leader asked)
  ticked_answer o None asked = tt
  ticked_answer o (Some leader) asked = either (most config.orderers leader.answered) _ _ (pending_answer o leader leader.pending) tt

  orderer_tick_answer : (o : Orderer) → OfAnswer (orderer_tick config i o)
  unfolding orderer_tick
  orderer_tick_answer o = ticked_answer (one_tick o) o.leader _

  requested_answer : (o : Orderer) (leader : Option Leader) (value : Value) → OfAnswer (request_to config o leader value)
  requested_answer o None value = tt
  requested_answer o (Some leader) value = either (finalises_unknown config o.known value) _ _ tt tt

  request_answer : (o : Orderer) (value : Value) → OfAnswer (on_request config o value)
  unfolding on_request
  request_answer o value = requested_answer o o.leader value

  slot_answer : (known : ℕ) (slot : Option ℕ) → IsNodeAnswer (settled_reply known slot)
  slot_answer known None = tt
  slot_answer known (Some slot) = tt

  settled_answer : (o : Orderer) (value : Value) (from : ℕ) → OfAnswer (on_settled o value from)
  unfolding on_settled
  settled_answer o value from = slot_answer (length o.known) (find_value o.known value from)

  least_answer : (o : Orderer) (shard : ℕ) (given : List ℕ) → OfAnswer (on_least config o shard given)
  unfolding on_least
  least_answer o shard given = tt

  orderer_message_answers : (list : List Payload) (o : Orderer) (message : Message) → ForSome OfAnswer (orderer_message_row config i list o message)
  orderer_message_answers list o (Least shard lengths) = least_answer o shard.0 lengths.length
  orderer_message_answers list o (Prepare ballot slot) = prepare_answers list o ballot.0 slot.0
  orderer_message_answers list o (Promised ballot slot who votes) = promised_answers o ballot.0 slot.0 who votes
  orderer_message_answers list o (Lower ballot promise) = lower_answer o ballot.0
  orderer_message_answers list o (Accept ballot slot value) = accept_answers list o ballot.0 slot.0 value
  orderer_message_answers list o (Accepted ballot slot who) = accepted_answers o ballot.0 slot.0 who
  orderer_message_answers list o (Decide slot value) = tt
  orderer_message_answers list o (Want slot node) = want_answer o slot.0 node.0
  orderer_message_answers list o _ = tt

  orderer_call_answers : (o : Orderer) (call : Call) → ForSome OfAnswer (orderer_call_row config o call)
  orderer_call_answers o (Request client value) = request_answer o value
  orderer_call_answers o (Settled client value from) = settled_answer o value from
  orderer_call_answers o _ = tt

  pub orderer_row_answers : (list : List Payload) (o : Orderer) (input : Input) → ForSome OfAnswer (orderer_row config i list o input)
  orderer_row_answers list o (Deliver place index None) = tt
  orderer_row_answers list o (Deliver place index (Some message)) = orderer_message_answers list o message
  orderer_row_answers list o (ACall call) = orderer_call_answers o call
  orderer_row_answers list o Tick = orderer_tick_answer o
  orderer_row_answers list o Lead = lead_answer list o
  orderer_row_answers list o Stop = tt
  orderer_row_answers list o Restart = tt
