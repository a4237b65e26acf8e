-- What an orderer puts into its list has numbers in range, so each of its payloads has a spelling.
use Rattle.std.proofs.Common.{◌≡◌, ℕ, ◌+◌, ◌-◌, ◌*◌, ◌/◌, ◌%◌, ◌^◌, ◌≤◌, Bool, true, false, cond, ◌==◌, nat_le, nat_lt, List, [], length, Option, Some, None, refl, arith, leb-false}
use Rattle.std.proofs.lemmas.Bool.{cond_both}
use Rattle.std.proofs.Math.Nat.{mul-le-mul_right}
use Rattle.reply_frame.specs.declared.replies.Reply.{Nothing as Silence}
use Rattle.history_frame.specs.declared.inputs.Call.{Call}
use Rattle.history_frame.specs.declared.inputs.Call.TheVariants.{Submit, Ask, Read, Request, Settled}
use Rattle.history_frame.specs.declared.inputs.Input.{Input}
use Rattle.history_frame.specs.declared.inputs.Input.TheVariants.{Deliver, Call as ACall, Tick, Lead, Stop, Restart}
use Rattle.log_base.specs.ClusterShape.{Shape}
use Rattle.message_frame.specs.declared.messages.Message.{Message}
use Rattle.message_frame.specs.declared.messages.Message.TheVariants.{Copy, CopyAck, Report, Least, Prepare, Promised, Lower, Accept, Accepted, Decide, Want}
use Rattle.message_frame.specs.declared.messages.Vote.{Vote}
use Rattle.message_frame.specs.Spelling.{IsBallot}
use Rattle.record_frame.specs.declared.values.Value.{Value}
use Rattle.record_frame.specs.Values.{IsValue}
use Rattle.paxos_model.specs.Acceptor.{Refused, Granted, prepare, TooLow, Taken, accept}
use Rattle.paxos_model.specs.Leader.{Leader, Pending, awaits_promise, ballot_above, leader_from, with_acceptance, with_promise}
use Rattle.paxos_model.specs.Majority.{most}
use Rattle.paxos_model.specs.Payloads.{IsPayload}
use Rattle.paxos_model.specs.Votes.{Payload, Promise, Voted, has_vote, promised, reports, vote_of, votes}
use Rattle.node_model.specs.Fits.{HasRange}
use Rattle.node_model.specs.Messages.{prepare_message}
use Rattle.node_model.specs.Nodes.{to_orderers}
use Rattle.node_model.specs.OrdererNode.{Change, Orderer}
use Rattle.node_model.specs.OrdererRow.{accept_answer, accepted_for, accepted_to, call_row, counted, decided_by, finalises_unknown, go_on, learned, message_row, on_accept, on_accepted, on_lead, on_least, on_lower, on_prepare, on_promised, on_request, on_settled, on_tick, on_want, one_tick, prepare_answer, promised_to, quiet, request_to, row, tick_leader, tick_pending, told, with_leader}
use Rattle.node_model.proofs.Turning.{ForSome}

-- what a row puts, if anything, is in range
abbrev pub PutsRange : Change → Type 0
PutsRange change = ForSome IsPayload change.put

module _ (config : Shape) (i : ℕ) (list : List Payload) (o : Orderer) where
  lead_range : 1 ≤ config.orderers → PutsRange (on_lead config i list o)
  unfolding on_lead
  lead_range some = at (nat_le (2 ^ 56) (ballot_above config.orderers i (promised list))) refl
    where
      at : (t : Bool) → nat_le (2 ^ 56) (ballot_above config.orderers i (promised list)) ≡ t
          → PutsRange (cond t (quiet o) (record {
            put = Some (Promise (ballot_above config.orderers i (promised list)));
            after = with_leader o (Some (leader_from (ballot_above config.orderers i (promised list)) (length o.known)));
            outputs = to_orderers config (prepare_message (ballot_above config.orderers i (promised list)) (length o.known));
            reply = Silence;
          }))
      at true e = tt
      at false e =
          let rounds = (promised list - i) / config.orderers + 1 in
          let least : 1 * config.orderers ≤ rounds * config.orderers = mul-le-mul_right config.orderers (omega arith) in
          (omega arith, leb-false (2 ^ 56) (ballot_above config.orderers i (promised list)) e)

  prepare_range : (ballot slot : ℕ) → IsBallot ballot → PutsRange (on_prepare config i list o ballot slot)
  unfolding on_prepare prepare
  prepare_range ballot slot b =
      cond_both (nat_lt ballot (promised list)) (Refused (promised list)) (cond (ballot == promised list) (Granted None reported) (Granted (Some (Promise ballot)) reported))
      (λ a. PutsRange (prepare_answer config i o ballot slot a))
      (λ e. tt)
      (λ e. cond_both (ballot == promised list) (Granted None reported) (Granted (Some (Promise ballot)) reported) (λ a. PutsRange (prepare_answer config i o ballot slot a)) (λ f. tt) (λ f. b))
    where
      reported : List Vote
      reported = reports ballot slot 64 (votes list)

  accept_range : (ballot slot : ℕ) (value : Value) → IsBallot ballot → slot ≤ 16383 → IsValue value → PutsRange (on_accept config i list o ballot slot value)
  unfolding on_accept accept
  accept_range ballot slot value b s v =
      cond_both (nat_lt ballot (promised list)) (TooLow (promised list)) (cond (has_vote (votes list) ballot slot) (Taken None) (Taken (Some (Voted (vote_of ballot slot value)))))
      (λ a. PutsRange (accept_answer config i o ballot slot a))
      (λ e. tt)
      (λ e. cond_both (has_vote (votes list) ballot slot) (Taken None) (Taken (Some (Voted (vote_of ballot slot value)))) (λ a. PutsRange (accept_answer config i o ballot slot a)) (λ f. tt) (λ f. (b, s, v)))

  promised_range : (leader : Option Leader) (ballot slot who : ℕ) (vs : List Vote) → PutsRange (promised_to config o leader ballot slot who vs)
  promised_range None ballot slot who vs = tt
  promised_range (Some leader) ballot slot who vs =
      cond_both (awaits_promise leader ballot slot) (go_on config o (with_promise leader who vs) []) (quiet o) PutsRange (λ e. tt) (λ e. tt)

  on_promised_range : (ballot slot who : ℕ) (vs : List Vote) → PutsRange (on_promised config o ballot slot who vs)
  unfolding on_promised
  on_promised_range ballot slot who vs = promised_range o.leader ballot slot who vs

  on_lower_range : (ballot : ℕ) → PutsRange (on_lower o ballot)
  unfolding on_lower
  on_lower_range ballot = tt

  decided_range : (leader : Option Leader) (now : Orderer) (slot : ℕ) (value : Value) → PutsRange (decided_by config i now leader slot value)
  decided_range None now slot value = tt
  decided_range (Some leader) now slot value = tt

  accepted_for_range : (leader : Leader) (pending : Option Pending) (slot who : ℕ) → PutsRange (accepted_for config i o leader pending slot who)
  accepted_for_range leader None slot who = tt
  accepted_for_range leader (Some pending) slot who =
      cond_both (pending.slot == slot) (counted config i o leader (with_acceptance pending who)) (quiet o) PutsRange
      (λ e. cond_both (most config.orderers (with_acceptance pending who).accepted) (decided_by config i (learned o pending.slot pending.value) (learned o pending.slot pending.value).leader pending.slot pending.value)
      (quiet (with_leader o (Some (record leader { pending = Some (with_acceptance pending who) })))) PutsRange
      (λ f. decided_range (learned o pending.slot pending.value).leader (learned o pending.slot pending.value) pending.slot pending.value) (λ f. tt))
      (λ e. tt)

  accepted_range : (leader : Option Leader) (ballot slot who : ℕ) → PutsRange (accepted_to config i o leader ballot slot who)
  accepted_range None ballot slot who = tt
  accepted_range (Some leader) ballot slot who =
      cond_both (leader.ballot == ballot) (accepted_for config i o leader leader.pending slot who) (quiet o) PutsRange
      (λ e. accepted_for_range leader leader.pending slot who) (λ e. tt)

  on_accepted_range : (ballot slot who : ℕ) → PutsRange (on_accepted config i o ballot slot who)
  unfolding on_accepted
  on_accepted_range ballot slot who = accepted_range o.leader ballot slot who

  want_range : (slot node : ℕ) → PutsRange (on_want o slot node)
  unfolding on_want
  want_range slot node = tt

  least_range : (shard : ℕ) (given : List ℕ) → PutsRange (on_least config o shard given)
  unfolding on_least
  least_range shard given = tt

  tick_pending_range : (now : Orderer) (leader : Leader) (pending : Option Pending) → PutsRange (tick_pending config now leader pending)
  tick_pending_range now leader None = tt
  tick_pending_range now leader (Some pending) = tt

  tick_leader_range : (now : Orderer) (leader : Option Leader) (asked : ℕ) → PutsRange (tick_leader config i now leader asked)
  tick_leader_range now None asked = tt
  tick_leader_range now (Some leader) asked =
      cond_both (most config.orderers leader.answered) (tick_pending config now leader leader.pending) (told now (to_orderers config (prepare_message leader.ballot leader.window))) PutsRange
      (λ e. tick_pending_range now leader leader.pending) (λ e. tt)

  tick_range : PutsRange (on_tick config i o)
  unfolding on_tick
  tick_range = tick_leader_range (one_tick o) o.leader (o.ticks % config.orderers)

  request_range : (leader : Option Leader) (value : Value) → PutsRange (request_to config o leader value)
  request_range None value = tt
  request_range (Some leader) value = cond_both (finalises_unknown config o.known value) _ _ PutsRange (λ e. tt) (λ e. tt)

  on_request_range : (value : Value) → PutsRange (on_request config o value)
  unfolding on_request
  on_request_range value = request_range o.leader value

  settled_range : (value : Value) (from : ℕ) → PutsRange (on_settled o value from)
  unfolding on_settled
  settled_range value from = tt

  message_range : (place index : ℕ) (message : Message) → HasRange config (Deliver place index (Some message)) → ForSome PutsRange (message_row config i list o message)
  message_range place index (Copy segment offset entry) h = tt
  message_range place index (CopyAck peer held) h = tt
  message_range place index (Report shard replica lengths) h = tt
  message_range place index (Least shard lengths) h = least_range shard.0 lengths.length
  message_range place index (Prepare ballot slot) h = prepare_range ballot.0 slot.0 h.0.0
  message_range place index (Promised ballot slot who vs) h = on_promised_range ballot.0 slot.0 who vs
  message_range place index (Lower ballot promise) h = on_lower_range ballot.0
  message_range place index (Accept ballot slot value) h = accept_range ballot.0 slot.0 value h.0.0 h.0.1 h.0.2
  message_range place index (Accepted ballot slot who) h = on_accepted_range ballot.0 slot.0 who
  message_range place index (Decide slot value) h = tt
  message_range place index (Want slot node) h = want_range slot.0 node.0

  call_range : (call : Call) → ForSome PutsRange (call_row config o call)
  call_range (Submit client number bytes) = tt
  call_range (Ask client number) = tt
  call_range (Read client position) = tt
  call_range (Request client value) = on_request_range value
  call_range (Settled client value from) = settled_range value from

  pub row_range : 1 ≤ config.orderers → (input : Input) → HasRange config input → ForSome PutsRange (row config i list o input)
  row_range some (Deliver place index None) h = tt
  row_range some (Deliver place index (Some message)) h = message_range place index message h
  row_range some (ACall call) h = call_range call
  row_range some Tick h = tick_range
  row_range some Lead h = lead_range some
  row_range some Stop h = tt
  row_range some Restart h = tt
