-- A run as it is played: the events that are left follow the schedule to its end, each is a row of the rules, and no disk fails.
use Rattle.std.proofs.Common.{◌≡◌, ◌+◌, ℕ, suc, true, false, List, [], ◌∷◌, ◌++◌, map, length, Option, Some, None, refl, sym, ap, subst, arith, append_assoc, ◌∙◌}
use Rattle.std.specs.List.{AllByRecursion}
use Rattle.std.proofs.lemmas.Bool.{cond-true, ne_eqb}
use Rattle.std.proofs.lemmas.List.{map-append}
use Rattle.log_base.specs.ClusterShape.{Shape}
use Rattle.reply_frame.specs.declared.replies.Reply.{Reply}
use Rattle.history_frame.specs.declared.events.Event.{Event}
use Rattle.history_frame.specs.declared.events.Sent.{Sent}
use Rattle.history_frame.specs.declared.inputs.Input.{Input}
use Rattle.history_frame.specs.declared.inputs.Mark.{Mark}
use Rattle.node_model.specs.Legal.{AreNext, IsNext}
use Rattle.node_model.specs.NodeState.{NodeOutcome, node_after, state_or}
use Rattle.node_model.proofs.Following.{node_here, node_there}
use Rattle.schedule_model.specs.declared.duties.Duty.{Duty}
use Rattle.schedule_model.specs.declared.turns.Turn.{Turn}
use Rattle.schedule_model.specs.Driven.{Follow, after_event, after_events, turn_of}
use Rattle.schedule_model.specs.Scheduling.{Scheduled, Step, Waiting, due, first_step, handed, is_done, letters_from, next_turn, noted, ready, rest_in, step, turn_in}
use Rattle.schedule_model.proofs.Along.{some_is}
use Rattle.schedule_model.proofs.Ready.{passed-stops, ready-due, ready-passed}
use Rattle.quiet_model.specs.Moments.{Moment, Takes}
use Rattle.quiet_model.specs.Opening.{empty_disks}
use Rattle.quiet_law.specs.Quiet.{IsQuiet, quiet_mark}

-- the letters that wait, without their places
abbrev pub letters_in : List Waiting → List Sent
letters_in queue = map (λ (waiting : Waiting). waiting.sent) queue

-- the moment after events over empty disks, with these letters under way
abbrev pub moment_of : Shape → List Event → List Waiting → Moment
moment_of config before queue = record { nodes = node_after config empty_disks before; queue = letters_in queue }

pub record Plays (config : Shape) (run : ℕ) (whole before events : List Event) (s : Scheduled) : Type 0 where
  pub parts : before ++ events ≡ whole
  pub follow : Follow s events
  pub over : next_turn (after_events s events) ≡ None
  pub next : AreNext config run empty_disks before events
  pub quiet : AllByRecursion IsQuiet events

-- the replies in the end
abbrev pub finally : Scheduled → List Event → List Reply
finally s events = (ready (after_events s events)).replies

-- ---- what comes next depends on what is ready alone

module _ (s t : Scheduled) (e : ready s ≡ ready t) where
  same_turn : next_turn s ≡ next_turn t
  same_turn = ap (λ (r : Scheduled). turn_in (first_step r r.duties)) e

  same_after : (event : Event) → after_event s event ≡ after_event t event
  same_after event = ap (λ (r : Scheduled). noted (handed (rest_in r (first_step r r.duties))) event.happened.outputs event.happened.reply) e

  same_follow : (events : List Event) → Follow s events → Follow t events
  same_follow [] h = tt
  same_follow (event ∷ events) h = (sym same_turn ∙ h.0, subst (λ (x : Scheduled). Follow x events) (same_after event) h.1)

  same_over : (events : List Event) → next_turn (after_events s events) ≡ None → next_turn (after_events t events) ≡ None
  same_over [] h = sym same_turn ∙ h
  same_over (event ∷ events) h = subst (λ (x : Scheduled). next_turn (after_events x events) ≡ None) (same_after event) h

  pub same_end : (events : List Event) → finally t events ≡ finally s events
  same_end [] = ap (λ (r : Scheduled). r.replies) (sym e)
  same_end (event ∷ events) = ap (λ (x : Scheduled). finally x events) (sym (same_after event))

  pub same_plays : (config : Shape) (run : ℕ) (whole before events : List Event) → Plays config run whole before events s → Plays config run whole before events t
  same_plays config run whole before events h = record {
    parts = h.parts;
    follow = same_follow events h.follow;
    over = same_over events h.over;
    next = h.next;
    quiet = h.quiet;
  }

-- a duty that is done is passed over
pub passes : (s : Scheduled) (duty : Duty) (duties : List Duty) → is_done s.queue duty ≡ true
    → ready (record s { duties = duty ∷ duties }) ≡ ready (record s { duties = duties })
passes s duty duties done =
    sym (ready-passed (record s { duties = duty ∷ duties }))
    ∙ ap (λ (left : List Duty). ready (record s { duties = left })) (cond-true (is_done s.queue duty) (due s.queue duties) (duty ∷ duties) done)
    ∙ ready-passed (record s { duties = duties })

-- one that is not is next
pub is_ready : (s : Scheduled) (duty : Duty) (duties : List Duty) → is_done s.queue duty ≡ false
    → ready (record s { duties = duty ∷ duties }) ≡ record s { duties = duty ∷ duties }
is_ready s duty duties undone =
    ready-due (record s { duties = duty ∷ duties }) (passed-stops (record s { duties = duty ∷ duties }) undone)
    (ne_eqb (length (duty ∷ duties)) 0 (λ none. absurd (omega arith)))

-- ---- one event

pub record Stepped (config : Shape) (run : ℕ) (whole before events : List Event) (s : Scheduled) (node : ℕ) (input : Input) (rest : Scheduled) : Type 0 where
  pub event : Event
  pub later : List Event
  pub fewer : length events ≡ suc (length later)
  pub at : event.node.0 ≡ node
  pub takes : event.happened.input ≡ input
  pub mark : event.happened.mark ≡ quiet_mark input
  pub next : IsNext config run empty_disks before event
  pub plays : Plays config run whole (before ++ event ∷ []) later (noted (handed rest) event.happened.outputs event.happened.reply)
  pub ends : finally (noted (handed rest) event.happened.outputs event.happened.reply) later ≡ finally s events

pub stepped : (config : Shape) (run : ℕ) (whole before events : List Event) (s : Scheduled) (node : ℕ) (input : Input) (rest : Scheduled)
    → ready s ≡ s → first_step s s.duties ≡ Some (step node input rest) → Plays config run whole before events s
    → Stepped config run whole before events s node input rest
stepped config run whole before [] s node input rest is first h =
    let turn : next_turn s ≡ Some (record { node = record { 0 = node }; input = input }) =
    ap (λ (r : Scheduled). turn_in (first_step r r.duties)) is ∙ ap turn_in first in
    let none : next_turn s ≡ None = h.over in
    absurd (let wrong = sym turn ∙ none in cc)
stepped config run whole before (event ∷ later) s node input rest is first h =
    let turn : next_turn s ≡ Some (record { node = record { 0 = node }; input = input }) =
    ap (λ (r : Scheduled). turn_in (first_step r r.duties)) is ∙ ap turn_in first in
    let same : turn_of event ≡ record { node = record { 0 = node }; input = input } = some_is (sym h.follow.0 ∙ turn) in
    let input_is : event.happened.input ≡ input = ap (λ (t : Turn). t.input) same in
    let after : after_event s event ≡ noted (handed rest) event.happened.outputs event.happened.reply =
    ap (λ (r : Scheduled). noted (handed (rest_in r (first_step r r.duties))) event.happened.outputs event.happened.reply) is
    ∙ ap (λ (found : Option Step). noted (handed (rest_in s found)) event.happened.outputs event.happened.reply) first in
    record {
      event = event;
      later = later;
      fewer = refl;
      at = ap (λ (t : Turn). t.node.0) same;
      takes = input_is;
      mark = h.quiet.0 ∙ ap quiet_mark input_is;
      next = h.next.0;
      plays = record {
        parts = append_assoc before (event ∷ []) later ∙ h.parts;
        follow = subst (λ (x : Scheduled). Follow x later) after h.follow.1;
        over = subst (λ (x : Scheduled). next_turn (after_events x later) ≡ None) after h.over;
        next = h.next.1;
        quiet = h.quiet.1;
      };
      ends = ap (λ (x : Scheduled). finally x later) (sym after);
    }

-- the letters of an event, as they wait, are its outputs
letters_out : (place index : ℕ) (outputs : List Sent) → letters_in (letters_from place index outputs) ≡ outputs
letters_out place index [] = refl
letters_out place index (sent ∷ outputs) = ap (λ (rest : List Sent). sent ∷ rest) (letters_out place (index + 1) outputs)

-- The node of the event takes it.
took : (config : Shape) (run : ℕ) (before : List Event) (event : Event) (queue : List Waiting) (place : ℕ) → IsNext config run empty_disks before event
    → Takes config (moment_of config before queue) event.node.0 event.happened.input event.happened.mark event.happened.reply
    (moment_of config (before ++ event ∷ []) (queue ++ letters_from place 0 event.happened.outputs))
took config run before event queue place next = record {
  made = next.row.made;
  rule = next.row.rule;
  reply = next.row.reply;
  state =
      node_here config empty_disks before event
      ∙ ap (λ (made : Option NodeOutcome). state_or (node_after config empty_disks before event.node.0) made) next.row.rule;
  others = λ other apart. node_there config empty_disks before event other (λ e. apart (sym e));
  posted =
      map-append (λ (waiting : Waiting). waiting.sent) queue (letters_from place 0 event.happened.outputs)
      ∙ ap (λ (outputs : List Sent). letters_in queue ++ outputs) (letters_out place 0 event.happened.outputs ∙ next.row.outputs);
}

pub takes_as : (config : Shape) (run : ℕ) (whole before events : List Event) (s : Scheduled) (node : ℕ) (input : Input) (rest : Scheduled) (queue : List Waiting) (place : ℕ)
    → (stepped : Stepped config run whole before events s node input rest)
    → Takes config (moment_of config before queue) node input (quiet_mark input) stepped.event.happened.reply
    (moment_of config (before ++ stepped.event ∷ []) (queue ++ letters_from place 0 stepped.event.happened.outputs))
takes_as config run whole before events s node input rest queue place h =
    let event = h.event in
    let after = moment_of config (before ++ event ∷ []) (queue ++ letters_from place 0 event.happened.outputs) in
    let now = moment_of config before queue in
    subst (λ (n : ℕ). Takes config now n input (quiet_mark input) event.happened.reply after) h.at
    (subst (λ (i : Input). Takes config now event.node.0 i (quiet_mark input) event.happened.reply after) h.takes
    (subst (λ (m : Mark). Takes config now event.node.0 event.happened.input m event.happened.reply after) h.mark
    (took config run before event queue place h.next)))
