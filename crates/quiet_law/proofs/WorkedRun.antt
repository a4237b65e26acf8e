-- The worked run is legal and quiet, and driven by its items, by computation.
use Rattle.std.proofs.Common.{◌≡◌, ◌<◌, ◌≤◌, ◌/◌, ◌^◌, ℕ, zero, suc, List, [], ◌∷◌, length, slice_get, slice_index, replicate, Option, Some, None, refl, subst, arith}
use Rattle.std.specs.List.{AllByRecursion}
use Rattle.log_base.specs.ClusterShape.{InRange}
use Rattle.record_frame.specs.declared.entries.Entry.{Entry}
use Rattle.record_frame.specs.Entries.{IsEntry, entry_of}
use Rattle.record_frame.specs.Values.{IsLengths}
use Rattle.reply_frame.specs.declared.replies.Reply.{At, Found, Nothing, Settled}
use Rattle.message_frame.specs.declared.messages.Message.{Message}
use Rattle.message_frame.specs.declared.messages.Message.TheVariants.{Report, Least, Prepare, Promised, Want}
use Rattle.message_frame.specs.Spelling.{IsBallot, IsMessage}
use Rattle.history_frame.specs.declared.events.Event.{Event}
use Rattle.history_frame.specs.declared.events.Happened.{Happened}
use Rattle.log_model.specs.Asking.{ask}
use Rattle.log_model.specs.Learning.{known_after, values_after}
use Rattle.log_model.specs.Pairs.{held}
use Rattle.log_model.specs.Reading.{read}
use Rattle.log_model.specs.Storage.{report_of}
use Rattle.log_model.specs.Submitting.{submit}
use Rattle.node_table.specs.Numbering.{role_at}
use Rattle.paxos_model.specs.Acceptor.{prepare, accept}
use Rattle.paxos_model.specs.Leader.{advance, merge, no_votes}
use Rattle.paxos_model.specs.Learner.{cut_wish, learn, left_wishes, nothing_heard, raise}
use Rattle.paxos_model.specs.Majority.{is_majority, no_marks}
use Rattle.paxos_model.specs.Votes.{reports}
use Rattle.node_model.specs.Fits.{IsInput}
use Rattle.node_model.specs.GathererRow.{on_report, on_tick as gatherer_tick, outcome as gatherer_outcome}
use Rattle.node_model.specs.Histories.{IsDelivered, IsSent}
use Rattle.node_model.specs.Legal.{AgreesWith, AreNext, IsLegal, IsNext, submitted}
use Rattle.node_model.specs.NodeState.{IsRow, NodeOutcome, NodeState, node_after, node_at_first, node_outcome}
use Rattle.node_model.specs.Nodes.{letter, to_learners, to_orderers}
use Rattle.node_model.specs.OrdererRow.{learned, on_accept, on_accepted, on_lead, on_least, on_lower, on_prepare, on_promised, on_request, on_settled, on_tick as orderer_tick, on_want, outcome as orderer_outcome}
use Rattle.node_model.specs.StorageRow.{on_ask, on_decide, on_read, on_submit, on_tick as storage_tick, outcome as storage_outcome}
use Rattle.command_frame.specs.Items.{IsItem}
use Rattle.plain_log.specs.Log.{log_of}
use Rattle.schedule_model.specs.Driven.{IsDriven, replies_of}
use Rattle.quiet_model.specs.Opening.{empty_disks}
use Rattle.quiet_law.specs.Quiet.{IsQuietRun}
use Rattle.quiet_law.specs.Worked.{entries, entry, one_of_each, restarted, worked_items, worked_run}

-- ---- rows

-- what is made, where something is
abbrev made_in : Option NodeOutcome → NodeOutcome
made_in (Some made) = made
made_in None = record { state = node_at_first one_of_each empty_disks 0; outputs = []; reply = Nothing }

abbrev outcome_of : ℕ → NodeState → Happened → Option NodeOutcome
outcome_of node state happened = node_outcome one_of_each node state happened.input happened.mark

row_of : {node : ℕ} {state : NodeState} {happened : Happened} → outcome_of node state happened ≡ Some (made_in (outcome_of node state happened))
    → happened.outputs ≡ (made_in (outcome_of node state happened)).outputs → happened.reply ≡ (made_in (outcome_of node state happened)).reply
    → IsRow one_of_each node state happened
row_of {node} {state} {happened} rule outputs reply = record { made = made_in (outcome_of node state happened); rule = rule; outputs = outputs; reply = reply }

-- the event that is found
abbrev event_in : Option Event → Event
event_in (Some event) = event
event_in None = restarted 0

-- a letter that was sent
sent_of : {before : List Event} {node place index : ℕ} {message : Message} → slice_get before place ≡ Some (event_in (slice_get before place))
    → slice_get (event_in (slice_get before place)).happened.outputs index ≡ Some (letter node message) → IsSent before node place index message
sent_of {before} {node} {place} at output = record { event = event_in (slice_get before place); at = at; output = output }

-- ---- submissions

-- an event that submits nothing agrees with all before it
none_submitted : (event : Event) (before : List Event) → submitted event.happened.input ≡ None → AllByRecursion (AgreesWith event) before
none_submitted event [] none = tt
none_submitted event (earlier ∷ before) none = ((λ one other here there. absurd (cc)), none_submitted event before none)

-- no event submits anything
abbrev NoneSubmit : List Event → Type 0
NoneSubmit [] = Unit {0}
NoneSubmit (event ∷ events) = (submitted event.happened.input ≡ None) × NoneSubmit events

first_submitted : (event : Event) (before : List Event) → NoneSubmit before → AllByRecursion (AgreesWith event) before
first_submitted event [] none = tt
first_submitted event (earlier ∷ before) none = ((λ one other here there. absurd (let no = none.0 in cc)), first_submitted event before none.1)

-- ---- what comes next

next_of : {before : List Event} {event : Event} → event.place ≡ length before → event.node.0 < 3
    → IsInput one_of_each (role_at one_of_each event.node.0) event.happened.input
    → IsRow one_of_each event.node.0 (node_after one_of_each empty_disks before event.node.0) event.happened
    → IsDelivered before event.node.0 event.happened.input → submitted event.happened.input ≡ None
    → IsNext one_of_each 1 empty_disks before event
next_of {before} {event} place node allowed row delivered none = record {
  place = place;
  node = node;
  allowed = allowed;
  row = row;
  delivered = delivered;
  of_run = λ entry e. absurd (cc);
  one_node = none_submitted event before none;
}

-- the first submission
submit_of : {before : List Event} {event : Event} {entry : Entry} → event.place ≡ length before → event.node.0 < 3
    → IsInput one_of_each (role_at one_of_each event.node.0) event.happened.input
    → IsRow one_of_each event.node.0 (node_after one_of_each empty_disks before event.node.0) event.happened
    → IsDelivered before event.node.0 event.happened.input → submitted event.happened.input ≡ Some entry → entry.number.0 / 2 ^ 32 ≡ 1 → NoneSubmit before
    → IsNext one_of_each 1 empty_disks before event
submit_of {before} {event} {entry} place node allowed row delivered some of_run none = record {
  place = place;
  node = node;
  allowed = allowed;
  row = row;
  delivered = delivered;
  of_run = λ other e. let same : entry ≡ other = cc in subst (λ (one : Entry). one.number.0 / 2 ^ 32 ≡ 1) same of_run;
  one_node = first_submitted event before none;
}

-- ---- what is said is in range

zeros : (count k : ℕ) → slice_index (replicate count 0) k ≡ 0
zeros zero k = refl
zeros (suc count) zero = refl
zeros (suc count) (suc k) = zeros count k

small_length : (count k : ℕ) → count ≤ 16384 → k < 1 → slice_index (count ∷ replicate 31 0) k ≤ 16384
small_length count zero few below = few
small_length count (suc k) few below = absurd (omega arith)

rest_length : (count k : ℕ) → 1 ≤ k → slice_index (count ∷ replicate 31 0) k ≡ 0
rest_length count zero some = absurd (omega arith)
rest_length count (suc k) some = zeros 31 k

lengths_fit : (limit count : ℕ) → 1 ≤ limit → count ≤ 16384 → IsLengths limit (entries count)
lengths_fit limit count some few = record {
  some = omega arith;
  count = some;
  cells = refl;
  small = λ k below. small_length count k few below;
  rest = λ k past. rest_length count k past;
}

ballot_fits : IsBallot 1
ballot_fits = (omega arith, omega arith)

report_fits : (count : ℕ) → count ≤ 16384 → IsMessage (Report (record { 0 = 0 }) (record { 0 = 0 }) (entries count))
report_fits count few = (omega arith, omega arith, lengths_fit 5 count (omega arith) few)

least_fits : (count : ℕ) → count ≤ 16384 → IsMessage (Least (record { 0 = 0 }) (entries count))
least_fits count few = (omega arith, lengths_fit 5 count (omega arith) few)

want_fits : (known : ℕ) → known ≤ 16384 → IsMessage (Want (record { 0 = known }) (record { 0 = 0 }))
want_fits known few = (few, omega arith)

prepare_fits : IsMessage (Prepare (record { 0 = 1 }) (record { 0 = 0 }))
prepare_fits = (ballot_fits, omega arith)

promised_fits : IsMessage (Promised (record { 0 = 1 }) (record { 0 = 0 }) 0 [])
promised_fits = (ballot_fits, omega arith, omega arith, record { few = omega arith; each = tt; rise = tt })

one_byte : (i : ℕ) → slice_index (97 ∷ []) i < 256
one_byte zero = omega arith
one_byte (suc i) = omega arith

entry_fits : IsEntry (entry_of (record { 0 = 0 }) (record { 0 = 4294967296 }) (97 ∷ []))
entry_fits = record { client = omega arith; number = omega arith; size = omega arith; bytes = one_byte }

-- ---- the run

followed : AreNext one_of_each 1 empty_disks [] worked_run
unfolding storage_outcome gatherer_outcome orderer_outcome on_report gatherer_tick learned on_lead on_prepare on_promised on_lower on_accept on_accepted on_want orderer_tick on_request on_settled on_least on_submit on_ask on_read on_decide storage_tick to_orderers to_learners ask known_after values_after held read report_of submit prepare accept advance merge no_votes cut_wish learn left_wishes nothing_heard raise is_majority no_marks reports
followed = (
  next_of refl (omega arith) (record { named = refl; range = tt }) (row_of refl refl refl) (tt) refl,
  (
    next_of refl (omega arith) (record { named = refl; range = tt }) (row_of refl refl refl) (tt) refl,
    (
      next_of refl (omega arith) (record { named = refl; range = tt }) (row_of refl refl refl) (tt) refl,
      (
        next_of refl (omega arith) (record { named = refl; range = tt }) (row_of refl refl refl) (tt) refl,
        (
          next_of refl (omega arith) (record { named = refl; range = (prepare_fits, tt) }) (row_of refl refl refl) (sent_of refl refl) refl,
          (
            next_of refl (omega arith) (record { named = refl; range = (promised_fits, (omega arith, tt)) }) (row_of refl refl refl) (sent_of refl refl) refl,
            (
              next_of refl (omega arith) (record { named = refl; range = (tt, omega arith, omega arith) }) (row_of refl refl refl) (tt) refl,
              (
                next_of refl (omega arith) (record { named = refl; range = tt }) (row_of refl refl refl) (tt) refl,
                (
                  next_of refl (omega arith) (record { named = refl; range = (report_fits 0 (omega arith), (omega arith, omega arith, refl)) }) (row_of refl refl refl) (sent_of refl refl) refl,
                  (
                    next_of refl (omega arith) (record { named = refl; range = (want_fits 0 (omega arith), omega arith) }) (row_of refl refl refl) (sent_of refl refl) refl,
                    (
                      next_of refl (omega arith) (record { named = refl; range = tt }) (row_of refl refl refl) (tt) refl,
                      (
                        next_of refl (omega arith) (record { named = refl; range = (least_fits 0 (omega arith), (omega arith, refl)) }) (row_of refl refl refl) (sent_of refl refl) refl,
                        (
                          next_of refl (omega arith) (record { named = refl; range = tt }) (row_of refl refl refl) (tt) refl,
                          (
                            next_of refl (omega arith) (record { named = refl; range = ((ballot_fits, omega arith, omega arith), omega arith) }) (row_of refl refl refl) (sent_of refl refl) refl,
                            (
                              next_of refl (omega arith) (record { named = refl; range = ((ballot_fits, omega arith, omega arith), omega arith) }) (row_of refl refl refl) (sent_of refl refl) refl,
                              (
                                next_of refl (omega arith) (record { named = refl; range = ((omega arith, omega arith), omega arith) }) (row_of refl refl refl) (sent_of refl refl) refl,
                                (
                                  next_of refl (omega arith) (record { named = refl; range = tt }) (row_of refl refl refl) (tt) refl,
                                  (
                                    next_of refl (omega arith) (record { named = refl; range = (report_fits 0 (omega arith), (omega arith, omega arith, refl)) }) (row_of refl refl refl) (sent_of refl refl) refl,
                                    (
                                      next_of refl (omega arith) (record { named = refl; range = (want_fits 1 (omega arith), omega arith) }) (row_of refl refl refl) (sent_of refl refl) refl,
                                      (
                                        next_of refl (omega arith) (record { named = refl; range = omega arith }) (row_of refl refl refl) (tt) refl,
                                        (
                                          submit_of refl (omega arith) (record { named = refl; range = entry_fits }) (row_of refl refl refl) (tt) refl refl (refl, (refl, (refl, (refl, (refl, (refl, (refl, (refl, (refl, (refl, (refl, (refl, (refl, (refl, (refl, (refl, (refl, (refl, (refl, (refl, tt)))))))))))))))))))),
                                          (
                                            next_of refl (omega arith) (record { named = refl; range = tt }) (row_of refl refl refl) (tt) refl,
                                            (
                                              next_of refl (omega arith) (record { named = refl; range = (report_fits 1 (omega arith), (omega arith, omega arith, refl)) }) (row_of refl refl refl) (sent_of refl refl) refl,
                                              (
                                                next_of refl (omega arith) (record { named = refl; range = (want_fits 1 (omega arith), omega arith) }) (row_of refl refl refl) (sent_of refl refl) refl,
                                                (
                                                  next_of refl (omega arith) (record { named = refl; range = tt }) (row_of refl refl refl) (tt) refl,
                                                  (
                                                    next_of refl (omega arith) (record { named = refl; range = (least_fits 1 (omega arith), (omega arith, refl)) }) (row_of refl refl refl) (sent_of refl refl) refl,
                                                    (
                                                      next_of refl (omega arith) (record { named = refl; range = tt }) (row_of refl refl refl) (tt) refl,
                                                      (
                                                        next_of refl (omega arith) (record { named = refl; range = ((ballot_fits, omega arith, lengths_fit 32 1 (omega arith) (omega arith)), refl) }) (row_of refl refl refl) (sent_of refl refl) refl,
                                                        (
                                                          next_of refl (omega arith) (record { named = refl; range = ((ballot_fits, omega arith, omega arith), omega arith) }) (row_of refl refl refl) (sent_of refl refl) refl,
                                                          (
                                                            next_of refl (omega arith) (record { named = refl; range = ((omega arith, lengths_fit 32 1 (omega arith) (omega arith)), refl) }) (row_of refl refl refl) (sent_of refl refl) refl,
                                                            (
                                                              next_of refl (omega arith) (record { named = refl; range = tt }) (row_of refl refl refl) (tt) refl,
                                                              (
                                                                next_of refl (omega arith) (record { named = refl; range = (report_fits 1 (omega arith), (omega arith, omega arith, refl)) }) (row_of refl refl refl) (sent_of refl refl) refl,
                                                                (
                                                                  next_of refl (omega arith) (record { named = refl; range = (want_fits 2 (omega arith), omega arith) }) (row_of refl refl refl) (sent_of refl refl) refl,
                                                                  (
                                                                    next_of refl (omega arith) (record { named = refl; range = tt }) (row_of refl refl refl) (tt) refl,
                                                                    (
                                                                      next_of refl (omega arith) (record { named = refl; range = tt }) (row_of refl refl refl) (tt) refl,
                                                                      tt,
                                                                    ),
                                                                  ),
                                                                ),
                                                              ),
                                                            ),
                                                          ),
                                                        ),
                                                      ),
                                                    ),
                                                  ),
                                                ),
                                              ),
                                            ),
                                          ),
                                        ),
                                      ),
                                    ),
                                  ),
                                ),
                              ),
                            ),
                          ),
                        ),
                      ),
                    ),
                  ),
                ),
              ),
            ),
          ),
        ),
      ),
    ),
  ),
)

in_range : InRange one_of_each
in_range = record {
  some_replica = omega arith;
  replicas = omega arith;
  some_shard = omega arith;
  shards = omega arith;
  segments = omega arith;
  odd = refl;
  orderers = omega arith;
  some_gatherer = omega arith;
  gatherers = omega arith;
}

worked_is_legal : IsLegal one_of_each 1 empty_disks worked_run
worked_is_legal = record { config_in_range = in_range; sound = λ disk offset payload at. absurd (cc); follow = followed }

worked_is_driven : IsDriven one_of_each 1 worked_items worked_run
worked_is_driven = record {
  followed = (refl, (refl, (refl, (refl, (refl, (refl, (refl, (refl, (refl, (refl, (refl, (refl, (refl, (refl, (refl, (refl, (refl, (refl, (refl, (refl, (refl, (refl, (refl, (refl, (refl, (refl, (refl, (refl, (refl, (refl, (refl, (refl, (refl, (refl, (refl, tt)))))))))))))))))))))))))))))))))));
  over = refl;
}

-- the items are the cluster's
each_fits : AllByRecursion (IsItem one_of_each) worked_items
each_fits = (
  (omega arith, omega arith),
  ((omega arith, omega arith, omega arith, omega arith, one_byte), ((omega arith, omega arith, omega arith, omega arith), tt)),
)

pub worked_is_quiet : IsQuietRun one_of_each 1 worked_items worked_run
worked_is_quiet = record {
  each = each_fits;
  no_faults = (tt, (tt, (tt, tt)));
  legal = worked_is_legal;
  driven = worked_is_driven;
  quiet = (refl, (refl, (refl, (refl, (refl, (refl, (refl, (refl, (refl, (refl, (refl, (refl, (refl, (refl, (refl, (refl, (refl, (refl, (refl, (refl, (refl, (refl, (refl, (refl, (refl, (refl, (refl, (refl, (refl, (refl, (refl, (refl, (refl, (refl, (refl, tt)))))))))))))))))))))))))))))))))));
}

pub worked_replies : replies_of one_of_each 1 worked_items worked_run ≡ Settled (record { 0 = 0 }) ∷ At (record { 0 = 0 }) ∷ Found (record { 0 = 0 }) entry ∷ []
worked_replies = refl

pub worked_log : log_of one_of_each 1 worked_items ≡ Settled (record { 0 = 0 }) ∷ At (record { 0 = 0 }) ∷ Found (record { 0 = 0 }) entry ∷ []
worked_log = refl
