-- A list of events that the machines of a cluster may have is a legal history, where what is submitted agrees.
use Rattle.std.proofs.Common.{◌≡◌, ◌<◌, ℕ, zero, suc, ◌+◌, Bool, true, false, cond, List, [], ◌∷◌, ◌++◌, length, take, slice_get, Some, None, nat_eq, refl, sym, ap, ◌∙◌, subst, append_assoc, append-nil, arith}
use Rattle.std.proofs.lemmas.Bool.{false≢true}
use Rattle.std.proofs.lemmas.List.{length-map, map-append, take_at}
use Rattle.std.proofs.lemmas.Option.{none-some, same_Some, slice_get_within}
use Rattle.agreement_law.specs.Elements.{In}
use Rattle.agreement_law.proofs.Elements.{got_in, in_left, in_right}
use Rattle.history_frame.specs.declared.events.Event.{Event}
use Rattle.history_frame.specs.declared.events.Happened.{Happened}
use Rattle.history_frame.specs.declared.events.Sent.{Sent}
use Rattle.history_frame.specs.declared.inputs.Input.{Input}
use Rattle.history_frame.specs.declared.inputs.Input.TheVariants.{Deliver, Call as ACall, Tick, Lead, Stop, Restart}
use Rattle.log_base.specs.ClusterShape.{InRange, Shape}
use Rattle.log_base.proofs.Legal.{at_longer}
use Rattle.log_base.specs.Machines.{of_node}
use Rattle.log_base.specs.Machines.{Event as NodeEvent, IsDelivered as IsHandedOn, IsLegal as AreRows, IsNext as IsNextRow, IsOutput, state_after as machine_after}
use Rattle.message_frame.specs.declared.messages.Message.{Message}
use Rattle.message_frame.specs.Reading.{message_of}
use Rattle.message_frame.specs.Spelling.{IsMessage, message_spelling}
use Rattle.message_frame.proofs.MessageLaws.{all_again}
use Rattle.node_table.specs.Numbering.{nodes_of, role_at}
use Rattle.record_frame.proofs.FieldLaws.{ok_is}
use Rattle.node_model.specs.Fits.{IsInput}
use Rattle.node_model.specs.Histories.{IsDelivered, events_at, sent_in}
use Rattle.node_model.specs.Legal.{AgreesWith, AreNext, IsLegal, IsNext, IsOfRun}
use Rattle.node_model.specs.Machine.{ClusterNode, delivery, node_meanings, posted}
use Rattle.node_model.specs.Nodes.{letter}
use Rattle.node_model.specs.NodeState.{KeptLists, NodeState, node_after, node_at_first, state_after, states_after}
use Rattle.node_model.specs.Sound.{IsSound}
use Rattle.node_model.proofs.Delivering.{delivers}
use Rattle.node_model.proofs.Following.{grown}
use Rattle.safety_law.proofs.Corollaries.{letters_are_spelled}
use Rattle.safety_law.proofs.Start.{made_from}
use Rattle.tied_cells.specs.History.{Entry, event_of, events}
use Rattle.cluster.specs.Clusters.{AreFirst, first_node}
use Rattle.cluster.specs.History.{event_at, history_from}
use Rattle.cluster.proofs.Places.{all_history, history_get, history_push, length_history}
use Rattle.cluster.proofs.Submits.{Agree, AllAgree}

one_spelling : (m other : Message) → IsMessage m → IsMessage other → message_spelling m ≡ message_spelling other → m ≡ other
one_spelling m other a b e = ok_is m other (sym (all_again m a) ∙ ap message_of e ∙ all_again other b)

-- an output of an event is among the letters that were sent
sent_among : (before : List Event) (place : ℕ) (event : Event) (sent : Sent) → slice_get before place ≡ Some event → In sent event.happened.outputs → In sent (sent_in before)
sent_among [] place event sent e i = absurd (none-some event e)
sent_among (first ∷ before) zero event sent e i =
    in_left sent first.happened.outputs (sent_in before) (subst (λ (x : Event). In sent x.happened.outputs) (sym (same_Some first event e)) i)
sent_among (first ∷ before) (suc place) event sent e i = in_right sent first.happened.outputs (sent_in before) (sent_among before place event sent e i)

at_end : {A : Type 0} (xs : List A) (y : A) (ys : List A) → slice_get (xs ++ y ∷ ys) (length xs) ≡ Some y
at_end [] y ys = refl
at_end (x ∷ xs) y ys = at_end xs y ys

-- a node stands after the events of the history as after those of the log
after_is : (config : Shape) (n : ℕ) (state : NodeState) (place : ℕ) (log : List (Entry Happened))
    → machine_after node_meanings (record { config = config; number = n; state = state }) (of_node n (events log))
    ≡ record { config = config; number = n; state = states_after config n state (events_at n (history_from place log)) }
after_is config n state place [] = refl
after_is config n state place (entry ∷ log) =
    step (nat_eq entry.event.node n) (after_is config n (state_after config n state entry.event.happened) (suc place) log) (after_is config n state (suc place) log)
  where
    step : (b : Bool)
        → machine_after node_meanings (record { config = config; number = n; state = state_after config n state entry.event.happened }) (of_node n (events log))
        ≡ record { config = config; number = n; state = states_after config n (state_after config n state entry.event.happened) (events_at n (history_from (suc place) log)) }
        → machine_after node_meanings (record { config = config; number = n; state = state }) (of_node n (events log))
        ≡ record { config = config; number = n; state = states_after config n state (events_at n (history_from (suc place) log)) }
        → machine_after node_meanings (record { config = config; number = n; state = state }) (cond b (entry.event.happened ∷ of_node n (events log)) (of_node n (events log)))
        ≡ record { config = config; number = n; state = states_after config n state (cond b (event_at place entry ∷ events_at n (history_from (suc place) log)) (events_at n (history_from (suc place) log))) }
    step true here there = here
    step false here there = there

-- entries that agree are events that do
agrees : (entry earlier : Entry Happened) (place q : ℕ) → Agree entry earlier → AgreesWith (event_at place entry) (event_at q earlier)
agrees entry earlier place q h one other e f clients numbers = let both = h one other e f clients numbers in (λ i. record { 0 = both.0 i }, both.1)

module _ (config : Shape) (run : ℕ) (kept : KeptLists) (range : InRange config) (sound : IsSound config run kept) (starts : List ClusterNode) (first : AreFirst config kept starts) where
  -- a node of the list is one of the cluster at first
  start_is : (n : ℕ) (start : ClusterNode) → slice_get starts n ≡ Some start → (n < nodes_of config) × (first_node config kept n ≡ start)
  start_is n start there =
      let within : n < nodes_of config = let low = slice_get_within starts n start there in let all = first.all in omega arith in
      (within, same_Some (first_node config kept n) start (sym (first.each n within) ∙ there))

  pub node_is : (log : List (Entry Happened)) (n : ℕ) (start : ClusterNode) → slice_get starts n ≡ Some start
      → machine_after node_meanings start (of_node n (events log)) ≡ record { config = config; number = n; state = node_after config kept (history_from 0 log) n }
  node_is log n start there =
      ap (λ (s : ClusterNode). machine_after node_meanings s (of_node n (events log))) (sym (start_is n start there).1)
      ∙ after_is config n (node_at_first config kept n) 0 log

  -- a letter that is handed on was sent
  handed_on : (log : List (Entry Happened)) → IsLegal config run kept (history_from 0 log) → (n : ℕ) (input : Input) → IsInput config (role_at config n) input
      → IsHandedOn node_meanings (events log) n (delivery input) → IsDelivered (history_from 0 log) n input
  handed_on log legal n (Deliver place index None) is d = absurd (false≢true is.named)
  handed_on log legal n (Deliver place index (Some message)) is d =
      let out : IsOutput node_meanings (events log) n (place, (index, message_spelling message)) =
      subst (IsHandedOn node_meanings (events log) n) (delivers place index message is.range.0) d in
      let from = made_from event_of log place out.0 out.1 in
      let one = made_from posted out.0.happened.outputs index (n, message_spelling message) out.2 in
      let at : place ≡ place + 0 = omega arith in
      let there = history_get 0 log place place from.0 at from.1 in
      let output : slice_get from.0.event.happened.outputs index ≡ Some one.0 = ap (λ (e : NodeEvent Happened). slice_get e.happened.outputs index) from.2 ∙ one.1 in
      let spelled = letters_are_spelled config run kept (history_from 0 log) legal one.0.to.0 one.0.message
      (sent_among (history_from 0 log) place (event_at place from.0) one.0 there (got_in from.0.event.happened.outputs index one.0 output)) in
      let to : one.0.to.0 ≡ n = ap (λ (x : ℕ × List ℕ). x.0) one.2 in
      let same = one_spelling one.0.message message spelled.0 is.range.0 (ap (λ (x : ℕ × List ℕ). x.1) one.2) in
      record { event = event_at place from.0; at = there; output = output ∙ (λ i. Some (letter (to i) (same i))) }
  handed_on log legal n (ACall call) is d = tt
  handed_on log legal n Tick is d = tt
  handed_on log legal n Lead is d = tt
  handed_on log legal n Stop is d = tt
  handed_on log legal n Restart is d = tt

  as_legal : (log : List (Entry Happened)) → AreNext config run kept [] (history_from 0 log) → IsLegal config run kept (history_from 0 log)
  as_legal log follow = record { config_in_range = range; sound = sound; follow = follow }

  -- what may come next at a machine may come next in the history
  next_is : (log : List (Entry Happened)) (entry : Entry Happened) → AreNext config run kept [] (history_from 0 log) → IsNextRow node_meanings starts (events log) entry.event
      → IsOfRun run entry.event.happened.input → ((k : ℕ) (earlier : Entry Happened) → slice_get log k ≡ Some earlier → (q : ℕ) → AgreesWith (event_at (length log) entry) (event_at q earlier))
      → IsNext config run kept (history_from 0 log) (event_at (length log) entry)
  next_is log entry follow next of_run agrees =
      let n = entry.event.node in
      let now = node_is log n next.0 next.1 in
      let fits = subst (λ (s : ClusterNode). node_meanings.fits s entry.event.happened.input) now next.2.fits in
      record {
        place = sym (length_history 0 log);
        node = (start_is n next.0 next.1).0;
        allowed = fits.allowed;
        row = subst (λ (s : ClusterNode). node_meanings.is_row s entry.event.happened) now next.2.row;
        delivered = handed_on log (as_legal log follow) n entry.event.happened.input fits.allowed next.2.delivered;
        of_run = of_run;
        one_node = all_history (AgreesWith (event_at (length log) entry)) 0 log agrees;
      }

  follows : (log more : List (Entry Happened)) → AreNext config run kept [] (history_from 0 log) → AreRows node_meanings starts (events (log ++ more)) → AllAgree run (log ++ more)
      → AreNext config run kept [] (history_from 0 (log ++ more))
  follows log [] follow rows agree = subst (λ (all : List (Entry Happened)). AreNext config run kept [] (history_from 0 all)) (sym (append-nil log)) follow
  follows log (entry ∷ more) follow rows agree =
      subst (λ (all : List (Entry Happened)). AreNext config run kept [] (history_from 0 all)) joined
      (follows (log ++ entry ∷ []) more longer (subst (λ (all : List (Entry Happened)). AreRows node_meanings starts (events all)) (sym joined) rows)
      (subst (AllAgree run) (sym joined) agree))
    where
      joined : (log ++ entry ∷ []) ++ more ≡ log ++ entry ∷ more
      joined = append_assoc log (entry ∷ []) more

      here : slice_get (log ++ entry ∷ more) (length log) ≡ Some entry
      here = at_end log entry more

      row : IsNextRow node_meanings starts (events log) entry.event
      row =
          let all : events (log ++ entry ∷ more) ≡ events log ++ entry.event ∷ events more = map-append event_of log (entry ∷ more) in
          let size : length (events log) ≡ length log = length-map log event_of in
          subst (λ (front : List (NodeEvent Happened)). IsNextRow node_meanings starts front entry.event)
          (ap (take (length log)) all ∙ take_at (events log) (entry.event ∷ events more) (length log) size)
          (rows (length log) entry.event (ap (λ (l : List (NodeEvent Happened)). slice_get l (length log)) all
          ∙ (ap (λ (k : ℕ). slice_get (events log ++ entry.event ∷ events more) k) (sym size) ∙ at_end (events log) entry.event (events more))))

      earlier : (k : ℕ) (before : Entry Happened) → slice_get log k ≡ Some before → slice_get (log ++ entry ∷ more) k ≡ Some before
      earlier k before there = (at_longer log (entry ∷ more) k before there).0

      longer : AreNext config run kept [] (history_from 0 (log ++ entry ∷ []))
      longer =
          let at : length log ≡ length log + 0 = omega arith in
          subst (AreNext config run kept []) (sym (history_push 0 log (length log) entry at))
          (grown config run kept [] (history_from 0 log) (event_at (length log) entry) follow
          (next_is log entry follow row (agree.of_run (length log) entry here)
          (λ k before there q. agrees entry before (length log) q (agree.agree (length log) k entry before here (earlier k before there)))))

  pub lawful : (log : List (Entry Happened)) → AreRows node_meanings starts (events log) → AllAgree run log → IsLegal config run kept (history_from 0 log)
  lawful log rows agree = as_legal log (follows [] log tt rows agree)
