-- The rule of an orderer: what it does at each input.
use Rattle.std.specs.Prelude.{ℕ, zero, suc, ◌*◌, ◌%◌, ◌^◌, length, List, [], ◌∷◌, ◌++◌, Bool, true, false, not, ◌==◌, nat_le, if◌then◌else◌, Option, Some, None, slice_get}
use Rattle.reply_frame.specs.declared.replies.Reply.{Reply, Nothing as Silence, NotLeading, NoSuchShard, Taken as TakenWish, Settled as SettledAt, PendingWish}
use Rattle.history_frame.specs.declared.events.Sent.{Sent}
use Rattle.history_frame.specs.declared.inputs.Call.{Call}
use Rattle.history_frame.specs.declared.inputs.Call.TheVariants.{Request, Settled}
use Rattle.history_frame.specs.declared.inputs.Input.{Input}
use Rattle.history_frame.specs.declared.inputs.Input.TheVariants.{Deliver, Call as ACall, Tick, Lead, Stop, Restart}
use Rattle.history_frame.specs.declared.inputs.Mark.{Mark}
use Rattle.log_base.specs.ClusterShape.{Shape}
use Rattle.log_model.specs.Chain.{chain_of, is_added}
use Rattle.message_frame.specs.declared.messages.Message.{Message}
use Rattle.message_frame.specs.declared.messages.Message.TheVariants.{Copy, CopyAck, Report, Least, Prepare, Promised, Lower, Accept, Accepted, Decide, Want}
use Rattle.message_frame.specs.declared.messages.Vote.{Vote}
use Rattle.record_frame.specs.declared.values.Value.{Value}
use Rattle.record_frame.specs.declared.values.Value.TheVariants.{Finalise}
use Rattle.paxos_model.specs.Acceptor.{Promised as Promise_answer, Refused, Granted, prepare, Accepted as Accept_answer, TooLow, Taken, accept}
use Rattle.paxos_model.specs.Leader.{Leader, Pending, Advanced, Next, Propose, Window, Nothing, advance, awaits_promise, ballot_above, leader_from, with_promise, with_acceptance, without_slot}
use Rattle.paxos_model.specs.Learner.{find_value, learn, left_wishes, raise, wish_of}
use Rattle.paxos_model.specs.Majority.{most}
use Rattle.paxos_model.specs.Votes.{Payload, Promise, promised}
use Rattle.node_table.specs.Numbering.{orderer_node}
use Rattle.node_model.specs.Marks.{Names, RoleOf, made_by}
use Rattle.node_model.specs.Messages.{accept_message, accepted_message, decide_message, lower_message, prepare_message, promised_message, want_message}
use Rattle.node_model.specs.Nodes.{letter, to_orderers, to_learners}
use Rattle.node_model.specs.OrdererNode.{Orderer, Node, Change, Outcome, fresh}

-- a row that puts, sends and answers nothing: this is its memory afterwards
abbrev pub quiet : Orderer → Change
quiet o = record { put = None; after = o; outputs = []; reply = Silence }

abbrev pub answered : Orderer → Reply → Change
answered o reply = record { put = None; after = o; outputs = []; reply = reply }

abbrev pub told : Orderer → List Sent → Change
told o outputs = record { put = None; after = o; outputs = outputs; reply = Silence }

-- an answer to the orderer that owns a ballot
abbrev pub to_owner : Shape → ℕ → Message → List Sent
to_owner shape ballot message = letter (orderer_node shape (ballot % shape.orderers)) message ∷ []

-- the letters of a leader's next step
abbrev pub next_letters : Shape → ℕ → Next → List Sent
next_letters shape ballot (Propose slot value) = to_orderers shape (accept_message ballot slot value)
next_letters shape ballot (Window slot) = to_orderers shape (prepare_message ballot slot)
next_letters shape ballot Nothing = []

abbrev pub with_leader : Orderer → Option Leader → Orderer
with_leader o leader = record o { leader = leader }

abbrev pub advanced_as : Shape → Orderer → ℕ → Advanced → List Sent → Change
advanced_as shape o ballot step before =
    told (with_leader o (Some step.leader)) (before ++ next_letters shape ballot step.next)

-- the leader goes on, after letters that it sent before
abbrev pub go_on : Shape → Orderer → Leader → List Sent → Change
go_on shape o leader before =
    advanced_as shape o leader.ballot
    (advance shape.orderers leader (length o.known) (wish_of shape.replicas o.known o.heard o.wishes)) before

-- the orderer after the value of a slot is learned
abbrev pub leader_after : Option Leader → ℕ → Option Leader
leader_after None slot = None
leader_after (Some leader) slot = Some (without_slot leader slot)

unfoldable pub learned : Orderer → ℕ → Value → Orderer
learned o slot value = record o {
  known = learn o.known slot value;
  wishes = left_wishes o.wishes slot value;
  leader = leader_after o.leader slot;
}

-- Lead: a new ballot, unless there is none left
unfoldable pub on_lead : Shape → ℕ → List Payload → Orderer → Change
on_lead shape i list o =
    let ballot = ballot_above shape.orderers i (promised list) in
    if nat_le (2 ^ 56) ballot then quiet o
    else record {
      put = Some (Promise ballot);
      after = with_leader o (Some (leader_from ballot (length o.known)));
      outputs = to_orderers shape (prepare_message ballot (length o.known));
      reply = Silence;
    }

abbrev pub prepare_answer : Shape → ℕ → Orderer → ℕ → ℕ → Promise_answer → Change
prepare_answer shape i o ballot slot (Refused promise) = told o (to_owner shape ballot (lower_message ballot promise))
prepare_answer shape i o ballot slot (Granted put reported) = record {
  put = put;
  after = o;
  outputs = to_owner shape ballot (promised_message ballot slot i reported);
  reply = Silence;
}

unfoldable pub on_prepare : Shape → ℕ → List Payload → Orderer → ℕ → ℕ → Change
on_prepare shape i list o ballot slot = prepare_answer shape i o ballot slot (prepare list ballot slot)

abbrev pub promised_to : Shape → Orderer → Option Leader → ℕ → ℕ → ℕ → List Vote → Change
promised_to shape o None ballot slot who votes = quiet o
promised_to shape o (Some leader) ballot slot who votes =
    if awaits_promise leader ballot slot then go_on shape o (with_promise leader who votes) [] else quiet o

unfoldable pub on_promised : Shape → Orderer → ℕ → ℕ → ℕ → List Vote → Change
on_promised shape o ballot slot who votes = promised_to shape o o.leader ballot slot who votes

-- a leader that hears of a greater promise gives up
abbrev pub lowered : Option Leader → ℕ → Option Leader
lowered None ballot = None
lowered (Some leader) ballot = if leader.ballot == ballot then None else Some leader

unfoldable pub on_lower : Orderer → ℕ → Change
on_lower o ballot = quiet (with_leader o (lowered o.leader ballot))

abbrev pub accept_answer : Shape → ℕ → Orderer → ℕ → ℕ → Accept_answer → Change
accept_answer shape i o ballot slot (TooLow promise) = told o (to_owner shape ballot (lower_message ballot promise))
accept_answer shape i o ballot slot (Taken put) = record {
  put = put;
  after = o;
  outputs = to_owner shape ballot (accepted_message ballot slot i);
  reply = Silence;
}

unfoldable pub on_accept : Shape → ℕ → List Payload → Orderer → ℕ → ℕ → Value → Change
on_accept shape i list o ballot slot value = accept_answer shape i o ballot slot (accept list ballot slot value)

-- Counting an acceptance: at a majority the value is learned, told to all others, and the leader goes on.
abbrev pub decided_by : Shape → ℕ → Orderer → Option Leader → ℕ → Value → Change
decided_by shape i o None slot value = told o (to_learners shape i (decide_message slot value))
decided_by shape i o (Some leader) slot value = go_on shape o leader (to_learners shape i (decide_message slot value))

abbrev pub counted : Shape → ℕ → Orderer → Leader → Pending → Change
counted shape i o leader pending =
    if most shape.orderers pending.accepted
    then decided_by shape i (learned o pending.slot pending.value) (learned o pending.slot pending.value).leader pending.slot pending.value
    else quiet (with_leader o (Some (record leader { pending = Some pending })))

abbrev pub accepted_for : Shape → ℕ → Orderer → Leader → Option Pending → ℕ → ℕ → Change
accepted_for shape i o leader None slot who = quiet o
accepted_for shape i o leader (Some pending) slot who =
    if pending.slot == slot then counted shape i o leader (with_acceptance pending who) else quiet o

abbrev pub accepted_to : Shape → ℕ → Orderer → Option Leader → ℕ → ℕ → ℕ → Change
accepted_to shape i o None ballot slot who = quiet o
accepted_to shape i o (Some leader) ballot slot who =
    if leader.ballot == ballot then accepted_for shape i o leader leader.pending slot who else quiet o

unfoldable pub on_accepted : Shape → ℕ → Orderer → ℕ → ℕ → ℕ → Change
on_accepted shape i o ballot slot who = accepted_to shape i o o.leader ballot slot who

-- the known values of so many slots from one on, told to a node
abbrev pub decide_letter : ℕ → ℕ → Option Value → List Sent
decide_letter node slot None = []
decide_letter node slot (Some value) = letter node (decide_message slot value) ∷ []

abbrev pub decide_letters : ℕ → List Value → ℕ → ℕ → List Sent
decide_letters node known slot zero = []
decide_letters node known slot (suc count) = decide_letter node slot (slice_get known slot) ++ decide_letters node known (suc slot) count

unfoldable pub on_want : Orderer → ℕ → ℕ → Change
on_want o slot node = told o (decide_letters node o.known slot 16)

-- time passes: without leading it asks another orderer for decided values, and a leader says again what was not answered
abbrev pub one_tick : Orderer → Orderer
one_tick o = record o { ticks = suc o.ticks }

abbrev pub tick_pending : Shape → Orderer → Leader → Option Pending → Change
tick_pending shape o leader None = go_on shape o leader []
tick_pending shape o leader (Some pending) = told o (to_orderers shape (accept_message leader.ballot pending.slot pending.value))

abbrev pub tick_leader : Shape → ℕ → Orderer → Option Leader → ℕ → Change
tick_leader shape i o None asked =
    told o (if asked == i then [] else letter (orderer_node shape asked) (want_message (length o.known) (orderer_node shape i)) ∷ [])
tick_leader shape i o (Some leader) asked =
    if most shape.orderers leader.answered then tick_pending shape o leader leader.pending
    else told o (to_orderers shape (prepare_message leader.ballot leader.window))

unfoldable pub on_tick : Shape → ℕ → Orderer → Change
on_tick shape i o = tick_leader shape i (one_tick o) o.leader (o.ticks % shape.orderers)

-- whether a value finalises a shard that was not added
abbrev pub finalises_unknown : Shape → List Value → Value → Bool
finalises_unknown shape known (Finalise shard) = not (is_added (chain_of shape.replicas known) shard.0)
finalises_unknown shape known _ = false

abbrev pub request_to : Shape → Orderer → Option Leader → Value → Change
request_to shape o None value = answered o NotLeading
request_to shape o (Some leader) value =
    if finalises_unknown shape o.known value then answered o NoSuchShard
    else answered (record o { wishes = o.wishes ++ record { value = value; from = length o.known } ∷ [] }) (TakenWish (length o.known))

unfoldable pub on_request : Shape → Orderer → Value → Change
on_request shape o value = request_to shape o o.leader value

abbrev pub settled_reply : ℕ → Option ℕ → Reply
settled_reply known None = PendingWish known
settled_reply known (Some slot) = SettledAt (record { 0 = slot })

unfoldable pub on_settled : Orderer → Value → ℕ → Change
on_settled o value from = answered o (settled_reply (length o.known) (find_value o.known value from))

unfoldable pub on_least : Shape → Orderer → ℕ → List ℕ → Change
on_least shape o shard given = quiet (record o { heard = raise shape.replicas (shard * shape.replicas) given o.heard })

-- the row of a message; none where the message is not for an orderer
abbrev pub message_row : Shape → ℕ → List Payload → Orderer → Message → Option Change
message_row shape i list o (Least shard lengths) = Some (on_least shape o shard.0 lengths.length)
message_row shape i list o (Prepare ballot slot) = Some (on_prepare shape i list o ballot.0 slot.0)
message_row shape i list o (Promised ballot slot who votes) = Some (on_promised shape o ballot.0 slot.0 who votes)
message_row shape i list o (Lower ballot promise) = Some (on_lower o ballot.0)
message_row shape i list o (Accept ballot slot value) = Some (on_accept shape i list o ballot.0 slot.0 value)
message_row shape i list o (Accepted ballot slot who) = Some (on_accepted shape i o ballot.0 slot.0 who)
message_row shape i list o (Decide slot value) = Some (quiet (learned o slot.0 value))
message_row shape i list o (Want slot node) = Some (on_want o slot.0 node.0)
message_row shape i list o _ = None

-- the row of a call; none where the call is not for an orderer
abbrev pub call_row : Shape → Orderer → Call → Option Change
call_row shape o (Request client value) = Some (on_request shape o value)
call_row shape o (Settled client value from) = Some (on_settled o value from)
call_row shape o _ = None

-- the row of an input at a running orderer
abbrev pub row : Shape → ℕ → List Payload → Orderer → Input → Option Change
row shape i list o (Deliver place index (Some message)) = message_row shape i list o message
row shape i list o (Deliver place index None) = None
row shape i list o (ACall call) = call_row shape o call
row shape i list o Tick = Some (on_tick shape i o)
row shape i list o Lead = Some (on_lead shape i list o)
row shape i list o Stop = None
row shape i list o Restart = None

-- the messages and calls for an orderer
abbrev pub is_message : Message → Bool
is_message (Copy segment offset entry) = false
is_message (CopyAck peer held) = false
is_message (Report shard replica lengths) = false
is_message _ = true

abbrev pub is_call : Call → Bool
is_call (Request client value) = true
is_call (Settled client value from) = true
is_call _ = false

abbrev pub names : Names
names = record { message = is_message; call = is_call; lead = true }

-- the role of orderer i
abbrev pub orderer_role : Shape → ℕ → RoleOf (List Payload) Payload (List Value) Orderer
orderer_role shape i = record {
  names = names;
  has_disks = true;
  stored = λ list payload. list ++ payload ∷ [];
  fresh = fresh shape;
  known = λ o. o.known;
  row = row shape i;
}

-- what an event makes of orderer i
unfoldable pub outcome : Shape → ℕ → Node → Input → Mark → Option Outcome
outcome shape i node input mark = made_by (orderer_role shape i) node input mark
