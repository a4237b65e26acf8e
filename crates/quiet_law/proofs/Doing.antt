-- Duties of a run that is played: signals are taken in turn, letters are delivered, and a call is answered.
use Rattle.std.proofs.Common.{◌≡◌, ◌+◌, ◌-◌, ◌≤◌, ℕ, zero, suc, List, [], ◌∷◌, ◌++◌, length, Option, Some, None, refl, sym, ap, subst, arith, ◌∙◌}
use Rattle.std.proofs.lemmas.Bool.{ne_eqb}
use Rattle.log_base.specs.ClusterShape.{Shape}
use Rattle.log_base.specs.declared.numbers.NodeId.{NodeId}
use Rattle.command_frame.specs.declared.items.Item.{Item}
use Rattle.reply_frame.specs.declared.replies.Reply.{Reply}
use Rattle.subscriber.specs.Following.{Following}
use Rattle.history_frame.specs.declared.events.Event.{Event}
use Rattle.history_frame.specs.declared.inputs.Call.{Call}
use Rattle.history_frame.specs.declared.inputs.Input.{Input}
use Rattle.history_frame.specs.declared.inputs.Input.TheVariants.{Deliver, Call as ACall}
use Rattle.schedule_model.specs.declared.duties.Awaited.{Awaited}
use Rattle.schedule_model.specs.declared.duties.Awaited.TheVariants.{Held, Again}
use Rattle.schedule_model.specs.declared.duties.Duty.{Duty}
use Rattle.schedule_model.specs.declared.duties.Duty.TheVariants.{Give, DeliverAll, DeliverOne, MakeCall}
use Rattle.schedule_model.specs.declared.duties.Signal.{Signal}
use Rattle.schedule_model.specs.declared.duties.Signal.TheVariants.{Restart, Lead, Tick, Stop}
use Rattle.schedule_model.specs.Courses.{course_of}
use Rattle.schedule_model.specs.Duties.{give, signal_input}
use Rattle.schedule_model.specs.Scheduling.{Scheduled, Waiting, letters_from, ready, taken}
use Rattle.quiet_model.specs.Moments.{AreDelivered, Moment, TakeInTurn}
use Rattle.quiet_law.specs.Going.{DoneThen}
use Rattle.quiet_law.specs.Quiet.{quiet_mark}
use Rattle.quiet_law.proofs.Playing.{Plays, finally, is_ready, letters_in, moment_of, passes, same_end, same_plays, stepped, takes_as}

-- a schedule at which no answer is awaited, nothing is held, and no failure is planned
abbrev pub spot : Shape → ℕ → List Item → List ℕ → List (Option NodeId) → List (List ℕ) → Following → List Reply → List Duty → List Waiting → ℕ → Scheduled
spot config run items draws primaries records stream replies duties queue place = record {
  config = config;
  run = run;
  items = items;
  duties = duties;
  queue = queue;
  awaited = None;
  place = place;
  draws = draws;
  primaries = primaries;
  records = records;
  stream = stream;
  hold = None;
  plans = [];
  replies = replies;
}

-- an answer that is not that of a held item
abbrev pub IsPlainAnswer : Awaited → Type 0
IsPlainAnswer (Held asked) = ⊥
IsPlainAnswer (Again item) = ⊥
IsPlainAnswer awaited = Unit {0}

-- duties up to a call, which is the last of them, and of which none is a restart
abbrev pub EndsInCall : List Duty → Type 0
EndsInCall [] = ⊥
EndsInCall (Give Tick first count ∷ duties) = EndsInCall duties
EndsInCall (Give Lead first count ∷ duties) = ⊥
EndsInCall (Give Restart first count ∷ duties) = ⊥
EndsInCall (Give Stop first count ∷ duties) = ⊥
EndsInCall (DeliverAll ∷ duties) = EndsInCall duties
EndsInCall (DeliverOne letter afterwards ∷ duties) = ⊥
EndsInCall (MakeCall node call awaited ∷ duties) = IsPlainAnswer awaited × (duties ≡ [])

module _ (config : Shape) (run : ℕ) (whole : List Event) (items : List Item) (draws : List ℕ) (primaries : List (Option NodeId)) (records : List (List ℕ)) (stream : Following) (replies : List Reply) where
  abbrev here : List Duty → List Waiting → ℕ → Scheduled
  here duties queue place = spot config run items draws primaries records stream replies duties queue place

  -- what is left once something was reached: the duties that are due, and the events
  pub record Left (duties : List Duty) (Reached : Moment → Type 0) (most : ℕ) (ends : List Reply) : Type 0 where
    pub queue : List Waiting
    pub place : ℕ
    pub before : List Event
    pub events : List Event
    pub plays : Plays config run whole before events (here duties queue place)
    pub ending : finally (here duties queue place) events ≡ ends
    pub few : length events ≤ most
    pub reached : Reached (moment_of config before queue)

  pub left_map : (duties : List Duty) (P Q : Moment → Type 0) (most more : ℕ) (ends : List Reply) → most ≤ more → ((moment : Moment) → P moment → Q moment)
      → Left duties P most ends → Left duties Q more ends
  left_map duties P Q most more ends least goes h = record {
    queue = h.queue;
    place = h.place;
    before = h.before;
    events = h.events;
    plays = h.plays;
    ending = h.ending;
    few = let few = h.few in omega arith;
    reached = goes (moment_of config h.before h.queue) h.reached;
  }

  -- a duty that is done
  passed_on : (duty : Duty) (duties : List Duty) (queue : List Waiting) (place : ℕ) (before events : List Event) (P : Moment → Type 0)
      → ready (here (duty ∷ duties) queue place) ≡ ready (here duties queue place)
      → Plays config run whole before events (here (duty ∷ duties) queue place) → P (moment_of config before queue)
      → Left duties P (length events) (finally (here (duty ∷ duties) queue place) events)
  passed_on duty duties queue place before events P e plays reached = record {
    queue = queue;
    place = place;
    before = before;
    events = events;
    plays = same_plays (here (duty ∷ duties) queue place) (here duties queue place) e config run whole before events plays;
    ending = same_end (here (duty ∷ duties) queue place) (here duties queue place) e events;
    few = omega arith;
    reached = reached;
  }

  -- ---- signals

  pub gives : (signal : Signal) (count first : ℕ) (duties : List Duty) (queue : List Waiting) (place : ℕ) (before events : List Event)
      → Plays config run whole before events (here (give signal first count ∷ duties) queue place)
      → Left duties (TakeInTurn config (signal_input signal) (quiet_mark (signal_input signal)) first count (moment_of config before queue)) (length events)
      (finally (here (give signal first count ∷ duties) queue place) events)
  gives signal zero first duties queue place before events plays =
      passed_on (give signal first 0) duties queue place before events (TakeInTurn config (signal_input signal) (quiet_mark (signal_input signal)) first 0 (moment_of config before queue))
      (passes (here [] queue place) (give signal first 0) duties refl) plays refl
  gives signal (suc count) first duties queue place before events plays =
      let input = signal_input signal in
      let s = here (give signal first (suc count) ∷ duties) queue place in
      let rest = here (give signal (first + 1) (suc count - 1) ∷ duties) queue place in
      let one = stepped config run whole before events s first input rest
      (is_ready (here [] queue place) (give signal first (suc count)) duties (ne_eqb (suc count) 0 (λ e. absurd (omega arith)))) refl plays in
      let outs = letters_from place 0 one.event.happened.outputs in
      let next = first + 1 in
      let fewer : suc count - 1 ≡ count = omega arith in
      let more : first + 1 ≡ suc first = omega arith in
      let now : Scheduled = here (give signal (suc first) count ∷ duties) (queue ++ outs) (place + 1) in
      let as_now : here (give signal (first + 1) (suc count - 1) ∷ duties) (queue ++ outs) (place + 1) ≡ now =
      ap (λ (n : ℕ). here (give signal (first + 1) n ∷ duties) (queue ++ outs) (place + 1)) fewer
      ∙ ap (λ (n : ℕ). here (give signal n count ∷ duties) (queue ++ outs) (place + 1)) more in
      let again = gives signal count (suc first) duties (queue ++ outs) (place + 1) (before ++ one.event ∷ []) one.later
      (subst (Plays config run whole (before ++ one.event ∷ []) one.later) as_now one.plays) in
      let takes = takes_as config run whole before events s first input rest queue place one in
      let least = one.fewer in
      subst (Left duties (TakeInTurn config input (quiet_mark input) first (suc count) (moment_of config before queue)) (length events))
      (ap (λ (x : Scheduled). finally x one.later) (sym as_now) ∙ one.ends)
      (left_map duties (TakeInTurn config input (quiet_mark input) (suc first) count (moment_of config (before ++ one.event ∷ []) (queue ++ outs)))
      (TakeInTurn config input (quiet_mark input) first (suc count) (moment_of config before queue)) (length one.later) (length events)
      (finally now one.later) (omega arith)
      (λ moment turns. (one.event.happened.reply, moment_of config (before ++ one.event ∷ []) (queue ++ outs), takes, turns)) again)

  -- ---- letters

  pub delivers : (most : ℕ) (duties : List Duty) (queue : List Waiting) (place : ℕ) (before events : List Event) → length events ≤ most
      → Plays config run whole before events (here (DeliverAll ∷ duties) queue place)
      → Left duties (AreDelivered config (moment_of config before queue)) (length events) (finally (here (DeliverAll ∷ duties) queue place) events)
  delivers most duties [] place before events few plays =
      passed_on DeliverAll duties [] place before events (AreDelivered config (moment_of config before []))
      (passes (here [] [] place) DeliverAll duties refl) plays (record { count = 0; deliveries = refl; none_left = refl })
  delivers zero duties (letter ∷ queue) place before events few plays =
      let s = here (DeliverAll ∷ duties) (letter ∷ queue) place in
      let one = stepped config run whole before events s letter.sent.to.0 (Deliver letter.place letter.index (Some letter.sent.message)) (here (DeliverAll ∷ duties) queue place)
      (is_ready (here [] (letter ∷ queue) place) DeliverAll duties (ne_eqb (length (letter ∷ queue)) 0 (λ e. absurd (omega arith)))) refl plays in
      absurd (let least = one.fewer in omega arith)
  delivers (suc most) duties (letter ∷ queue) place before events few plays =
      let s = here (DeliverAll ∷ duties) (letter ∷ queue) place in
      let input : Input = Deliver letter.place letter.index (Some letter.sent.message) in
      let rest = here (DeliverAll ∷ duties) queue place in
      let one = stepped config run whole before events s letter.sent.to.0 input rest
      (is_ready (here [] (letter ∷ queue) place) DeliverAll duties (ne_eqb (length (letter ∷ queue)) 0 (λ e. absurd (omega arith)))) refl plays in
      let outs = letters_from place 0 one.event.happened.outputs in
      let least = one.fewer in
      let again = delivers most duties (queue ++ outs) (place + 1) (before ++ one.event ∷ []) one.later (omega arith) one.plays in
      let takes = takes_as config run whole before events s letter.sent.to.0 input rest queue place one in
      let next = moment_of config (before ++ one.event ∷ []) (queue ++ outs) in
      subst (Left duties (AreDelivered config (moment_of config before (letter ∷ queue))) (length events)) one.ends
      (left_map duties (AreDelivered config next) (AreDelivered config (moment_of config before (letter ∷ queue))) (length one.later) (length events)
      (finally (here (DeliverAll ∷ duties) (queue ++ outs) (place + 1)) one.later) (omega arith)
      (λ moment done. record {
        count = suc done.count;
        deliveries = (
          next,
          record {
            sent = letter.sent;
            rest = letters_in queue;
            first = refl;
            place = letter.place;
            index = letter.index;
            reply = one.event.happened.reply;
            taken = takes;
          },
          done.deliveries,
        );
        none_left = done.none_left;
      }) again)

  -- ---- a call

  -- these duties are done up to a call of this kind, with this answer, at this moment
  abbrev pub IsCall : Awaited → Reply → Moment → Awaited → Reply → Moment → Type 0
  IsCall awaited reply next a r m = (a ≡ awaited) × (r ≡ reply) × (m ≡ next)

  pub record Called (duties : List Duty) (moment : Moment) (most : ℕ) (ends : List Reply) : Type 0 where
    pub awaited : Awaited
    pub reply : Reply
    pub queue : List Waiting
    pub place : ℕ
    pub before : List Event
    pub events : List Event
    pub done : DoneThen config duties (IsCall awaited reply (moment_of config before queue)) moment
    pub plays : Plays config run whole before events (taken (here [] queue place) (course_of config awaited reply))
    pub ending : finally (taken (here [] queue place) (course_of config awaited reply)) events ≡ ends
    pub few : suc (length events) ≤ most
    pub plain : IsPlainAnswer awaited

  -- what was done before comes first
  called_then : (duty : Duty) (duties : List Duty) (from to : Moment) (most more : ℕ) (ends : List Reply) → most ≤ more
      → ((K : Awaited → Reply → Moment → Type 0) → DoneThen config duties K to → DoneThen config (duty ∷ duties) K from)
      → Called duties to most ends → Called (duty ∷ duties) from more ends
  called_then duty duties from to most more ends least goes h = record {
    awaited = h.awaited;
    reply = h.reply;
    queue = h.queue;
    place = h.place;
    before = h.before;
    events = h.events;
    done = goes (IsCall h.awaited h.reply (moment_of config h.before h.queue)) h.done;
    plays = h.plays;
    ending = h.ending;
    few = let few = h.few in omega arith;
    plain = h.plain;
  }

  makes_call : (node : NodeId) (call : Call) (awaited : Awaited) → IsPlainAnswer awaited → (queue : List Waiting) (place : ℕ) (before events : List Event)
      → Plays config run whole before events (here (MakeCall node call awaited ∷ []) queue place)
      → Called (MakeCall node call awaited ∷ []) (moment_of config before queue) (length events) (finally (here (MakeCall node call awaited ∷ []) queue place) events)
  makes_call node call awaited plain queue place before events plays =
      let s = here (MakeCall node call awaited ∷ []) queue place in
      let rest : Scheduled = record s { duties = []; awaited = Some awaited } in
      let one = stepped config run whole before events s node.0 (ACall call) rest (is_ready (here [] queue place) (MakeCall node call awaited) [] refl) refl plays in
      let outs = letters_from place 0 one.event.happened.outputs in
      let least = one.fewer in
      record {
        awaited = awaited;
        reply = one.event.happened.reply;
        queue = queue ++ outs;
        place = place + 1;
        before = before ++ one.event ∷ [];
        events = one.later;
        done = (
          one.event.happened.reply,
          moment_of config (before ++ one.event ∷ []) (queue ++ outs),
          takes_as config run whole before events s node.0 (ACall call) rest queue place one,
          (refl, refl, refl),
        );
        plays = one.plays;
        ending = one.ends;
        few = omega arith;
        plain = plain;
      }

  pub calls : (duties : List Duty) → EndsInCall duties → (queue : List Waiting) (place : ℕ) (before events : List Event)
      → Plays config run whole before events (here duties queue place)
      → Called duties (moment_of config before queue) (length events) (finally (here duties queue place) events)
  calls [] is queue place before events plays = absurd is
  calls (Give Restart first count ∷ duties) is queue place before events plays = absurd is
  calls (Give Lead first count ∷ duties) is queue place before events plays = absurd is
  calls (Give Stop first count ∷ duties) is queue place before events plays = absurd is
  calls (DeliverOne letter afterwards ∷ duties) is queue place before events plays = absurd is
  calls (Give Tick first count ∷ duties) is queue place before events plays =
      let left = gives Tick count first.0 duties queue place before events plays in
      let more = calls duties is left.queue left.place left.before left.events left.plays in
      let few = left.few in
      called_then (Give Tick first count) duties (moment_of config before queue) (moment_of config left.before left.queue) (length left.events) (length events)
      (finally (here (Give Tick first count ∷ duties) queue place) events) (omega arith)
      (λ K done. (moment_of config left.before left.queue, left.reached, done))
      (subst (Called duties (moment_of config left.before left.queue) (length left.events)) left.ending more)
  calls (DeliverAll ∷ duties) is queue place before events plays =
      let left = delivers (length events) duties queue place before events (omega arith) plays in
      let more = calls duties is left.queue left.place left.before left.events left.plays in
      let few = left.few in
      called_then DeliverAll duties (moment_of config before queue) (moment_of config left.before left.queue) (length left.events) (length events)
      (finally (here (DeliverAll ∷ duties) queue place) events) (omega arith)
      (λ K done. (moment_of config left.before left.queue, left.reached, done))
      (subst (Called duties (moment_of config left.before left.queue) (length left.events)) left.ending more)
  calls (MakeCall node call awaited ∷ duties) is queue place before events plays =
      subst
      (λ (rest : List Duty). Plays config run whole before events (here (MakeCall node call awaited ∷ rest) queue place)
      → Called (MakeCall node call awaited ∷ rest) (moment_of config before queue) (length events) (finally (here (MakeCall node call awaited ∷ rest) queue place) events))
      (sym is.1) (makes_call node call awaited is.0 queue place before events) plays
