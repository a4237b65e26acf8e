-- A run begins with a start of each node, and no node is started again.
use Rattle.std.proofs.Common.{◌≡◌, ◌⊎◌, ◌<◌, ◌≤◌, ◌+◌, ◌-◌, ℕ, zero, suc, true, false, ◌==◌, List, [], ◌∷◌, ◌++◌, length, Option, Some, None, slice_get, refl, ap, sym, subst, inl, inr, ⊎_elim, length-append, arith, ◌∙◌}
use Rattle.std.specs.List.{AllByRecursion}
use Rattle.std.proofs.lemmas.Grind.{common_steps}
use Rattle.log_base.specs.ClusterShape.{Shape}
use Rattle.command_frame.specs.declared.items.Item.{Item}
use Rattle.reply_frame.specs.declared.replies.Reply.{Reply}
use Rattle.history_frame.specs.declared.events.Event.{Event}
use Rattle.history_frame.specs.declared.events.Sent.{Sent}
use Rattle.history_frame.specs.declared.inputs.Input.{Input}
use Rattle.history_frame.specs.declared.inputs.Input.TheVariants.{Deliver, Call as ACall, Tick as TickInput, Lead as LeadInput, Stop as StopInput, Restart as RestartInput}
use Rattle.node_table.specs.Numbering.{nodes_of, orderer_node}
use Rattle.schedule_model.specs.declared.courses.Course.{Course}
use Rattle.schedule_model.specs.declared.courses.Course.TheVariants.{Replies, GoesOn, Takes, Completes, Ends, Answers, PutsOff, Replaces}
use Rattle.schedule_model.specs.declared.duties.Awaited.{Awaited}
use Rattle.schedule_model.specs.declared.duties.Afterwards.{Afterwards}
use Rattle.schedule_model.specs.declared.duties.Duty.{Duty}
use Rattle.schedule_model.specs.declared.duties.Duty.TheVariants.{Give, DeliverAll, DeliverOne, MakeCall}
use Rattle.schedule_model.specs.declared.duties.Signal.TheVariants.{Restart, Lead, Tick, Stop}
use Rattle.schedule_model.specs.declared.turns.Turn.{Turn}
use Rattle.schedule_model.specs.Courses.{asked}
use Rattle.schedule_model.specs.Driven.{IsFollowed, after_event, after_events, next_turn_after, turn_of}
use Rattle.schedule_model.specs.Duties.{give}
use Rattle.schedule_model.specs.Noting.{course_or_none, duties_with}
use Rattle.schedule_model.specs.Scheduling.{Scheduled, Waiting, at_first, begins, begun, delivery, delivery_of, entered, first_step, given, handed, is_first_done, next_turn, noted, ready, rest_in, scene_of, taken, turn_in}
use Rattle.schedule_model.specs.Starts.{IsNoRestart, IsStartOf}
use Rattle.schedule_model.proofs.Along.{followed-along, ready-keeps, some_is}
use Rattle.schedule_model.proofs.Counted.{ready-undone}
use Rattle.schedule_model.proofs.Kept.{each-append, each-due, noted-parts}
use Rattle.schedule_model.proofs.Ready.{begun-items, passed-stops, ready-due}
use Rattle.schedule_model.proofs.NoStarts.{AreNoStarts, IsNoStart, IsNoStartCourse, answer-starts, beginning-starts}

-- an input that starts no node
abbrev pub IsNoStartInput : Input → Type 0
IsNoStartInput (Deliver place index message) = Unit {0}
IsNoStartInput (ACall call) = Unit {0}
IsNoStartInput TickInput = Unit {0}
IsNoStartInput LeadInput = Unit {0}
IsNoStartInput StopInput = Unit {0}
IsNoStartInput RestartInput = ⊥

-- ---- after the opening nothing starts a node

noted-starts : (s : Scheduled) (outputs : List Sent) (reply : Reply) → AreNoStarts s.duties → AreNoStarts (noted s outputs reply).duties
noted-starts s outputs reply h =
    subst (λ (x : Scheduled). AreNoStarts x.duties) (sym (noted-parts s outputs reply)) (answer-starts s.config s.hold s.awaited reply s.duties h)

taken-starts : (s : Scheduled) (course : Course) → IsNoStartCourse course → AreNoStarts s.duties → AreNoStarts (taken s course).duties
taken-starts s (Replies reply) starts h = h
taken-starts s (GoesOn duties) starts h = each-append IsNoStart duties s.duties starts h
taken-starts s (Takes position entry next) starts h = (starts, h)
taken-starts s (Completes position entry) starts h = h
taken-starts s (Ends last) starts h = h
taken-starts s (Answers reply duties) starts h = each-append IsNoStart duties s.duties starts h
taken-starts s (PutsOff reply asked) starts h = h
taken-starts s (Replaces item reply) starts h = h

-- no item that is left starts a node, and nothing that is due does
pub record StartsNone (s : Scheduled) : Type 0 where
  pub items : AllByRecursion IsNoRestart s.items
  pub duties : AreNoStarts s.duties

begun-starts : (s : Scheduled) (item : Item) (items : List Item) → s.items ≡ item ∷ items → StartsNone s → StartsNone (begun s item items)
begun-starts s item items left h =
    let all = subst (AllByRecursion IsNoRestart) left h.items in
    record {
      items = subst (AllByRecursion IsNoRestart) (sym (begun-items s item items)) all.1;
      duties = taken-starts (entered s item items) (begins s item)
          (beginning-starts s.config s.run s.draws s.primaries (scene_of s) item all.0) h.duties;
    }

ready-starts : (s : Scheduled) → StartsNone s → StartsNone (ready s)
ready-starts s h =
    ready-keeps StartsNone (λ x p. record { items = p.items; duties = each-due IsNoStart x.queue x.duties p.duties })
    (λ x item items left idle p. begun-starts x item items left p) s h

-- what the items are that are left once a turn is given
delivery-left : (s : Scheduled) (queue : List Waiting) → (rest_in s (delivery s queue)).items ≡ s.items
delivery-left s [] = refl
delivery-left s (letter ∷ queue) = refl

picked-left : (s : Scheduled) (duties : List Duty) (number : ℕ) (afterwards : Afterwards) (letter : Option Waiting)
    → (rest_in s (delivery_of s duties number afterwards letter)).items ≡ s.items
picked-left s duties number afterwards None = refl
picked-left s duties number afterwards (Some letter) = refl

first-left : (s : Scheduled) (duties : List Duty) → (rest_in s (first_step s duties)).items ≡ s.items
first-left s [] = refl
first-left s (Give signal first count ∷ duties) = refl
first-left s (DeliverAll ∷ duties) = delivery-left s s.queue
first-left s (DeliverOne letter afterwards ∷ duties) = picked-left s duties letter afterwards (slice_get s.queue letter)
first-left s (MakeCall node call awaited ∷ duties) = refl

delivery-rest : (s : Scheduled) (queue : List Waiting) → AreNoStarts s.duties → AreNoStarts (rest_in s (delivery s queue)).duties
delivery-rest s [] h = h
delivery-rest s (letter ∷ queue) h = h

picked-rest : (s : Scheduled) (duties : List Duty) (number : ℕ) (afterwards : Afterwards) (letter : Option Waiting) → AreNoStarts duties → AreNoStarts s.duties
    → AreNoStarts (rest_in s (delivery_of s duties number afterwards letter)).duties
picked-rest s duties number afterwards None h all = all
picked-rest s duties number afterwards (Some letter) h all = h

none_of_none : (count : ℕ) → count ≡ 0 → count - 1 ≡ 0
none_of_none count e = omega arith

first-rest : (s : Scheduled) (duties : List Duty) → s.duties ≡ duties → AreNoStarts duties → AreNoStarts (rest_in s (first_step s duties)).duties
first-rest s [] e h = subst AreNoStarts (sym e) h
first-rest s (Give Restart first count ∷ duties) e h = (none_of_none count h.0, h.1)
first-rest s (Give Lead first count ∷ duties) e h = (tt, h.1)
first-rest s (Give Tick first count ∷ duties) e h = (tt, h.1)
first-rest s (Give Stop first count ∷ duties) e h = (tt, h.1)
first-rest s (DeliverAll ∷ duties) e h = delivery-rest s s.queue (subst AreNoStarts (sym e) h)
first-rest s (DeliverOne letter afterwards ∷ duties) e h =
    picked-rest s duties letter afterwards (slice_get s.queue letter) h.1 (subst AreNoStarts (sym e) h)
first-rest s (MakeCall node call awaited ∷ duties) e h = h.1

event-starts : (s : Scheduled) (event : Event) → StartsNone s → StartsNone (after_event s event)
event-starts s event h =
    let now = ready-starts s h in
    record {
      items = subst (λ (x : Scheduled). AllByRecursion IsNoRestart x.items) (sym (noted-parts (given s) event.happened.outputs event.happened.reply))
          (subst (AllByRecursion IsNoRestart) (sym (first-left (ready s) (ready s).duties)) now.items);
      duties = noted-starts (given s) event.happened.outputs event.happened.reply (first-rest (ready s) (ready s).duties refl now.duties);
    }

-- the turn that comes then starts no node
delivery-none : (s : Scheduled) (queue : List Waiting) (turn : Turn) → turn_in (delivery s queue) ≡ Some turn → IsNoStartInput turn.input
delivery-none s [] turn e = absurd (cc)
delivery-none s (letter ∷ queue) turn e = subst (λ (t : Turn). IsNoStartInput t.input) (some_is e) tt

picked-none : (s : Scheduled) (duties : List Duty) (number : ℕ) (afterwards : Afterwards) (letter : Option Waiting) (turn : Turn)
    → turn_in (delivery_of s duties number afterwards letter) ≡ Some turn → IsNoStartInput turn.input
picked-none s duties number afterwards None turn e = absurd (cc)
picked-none s duties number afterwards (Some letter) turn e = subst (λ (t : Turn). IsNoStartInput t.input) (some_is e) tt

first-none : (s : Scheduled) (duties : List Duty) (turn : Turn) → is_first_done s.queue duties ≡ false → AreNoStarts duties
    → turn_in (first_step s duties) ≡ Some turn → IsNoStartInput turn.input
first-none s [] turn undone h e = absurd (cc)
first-none s (Give Restart first count ∷ duties) turn undone h e =
    let done : (count == 0) ≡ true = ap (λ (n : ℕ). n == 0) h.0 in absurd (cc)
first-none s (Give Lead first count ∷ duties) turn undone h e = subst (λ (t : Turn). IsNoStartInput t.input) (some_is e) tt
first-none s (Give Tick first count ∷ duties) turn undone h e = subst (λ (t : Turn). IsNoStartInput t.input) (some_is e) tt
first-none s (Give Stop first count ∷ duties) turn undone h e = subst (λ (t : Turn). IsNoStartInput t.input) (some_is e) tt
first-none s (DeliverAll ∷ duties) turn undone h e = delivery-none s s.queue turn e
first-none s (DeliverOne letter afterwards ∷ duties) turn undone h e = picked-none s duties letter afterwards (slice_get s.queue letter) turn e
first-none s (MakeCall node call awaited ∷ duties) turn undone h e = subst (λ (t : Turn). IsNoStartInput t.input) (some_is e) tt

next-none : (s : Scheduled) (turn : Turn) → StartsNone s → next_turn s ≡ Some turn → IsNoStartInput turn.input
next-none s turn h e = first-none (ready s) (ready s).duties turn (ready-undone s) (ready-starts s h).duties e

no_restart : (input : Input) → IsNoStartInput input → input ≡ RestartInput → ⊥
no_restart input h e = subst IsNoStartInput e h

-- ---- the opening

-- While nodes are still to be started, they are due in order, behind those that were; the others were.
pub record IsOpening (config : Shape) (count : ℕ) (s : Scheduled) : Type 0 where
  pub left : ℕ
  pub all : count + suc left ≡ nodes_of config
  pub others : List Duty
  pub due_first : s.duties ≡ give Restart count (suc left) ∷ others
  pub none_else : AreNoStarts others
  pub quiet : s.awaited ≡ None

-- once they are started none is started again, where this is so of the items
pub record IsOpened (Given : Type 0) (config : Shape) (count : ℕ) (s : Scheduled) : Type 0 where
  pub all : nodes_of config ≤ count
  pub none_more : Given → AreNoStarts s.duties

-- as far as the events go, each of the first of them starts its node, and no other one does
pub record AreStarts (Given : Type 0) (config : Shape) (events : List Event) : Type 0 where
  pub first : (number : ℕ) (event : Event) → number < nodes_of config → slice_get events number ≡ Some event → IsStartOf number event
  pub later : Given → (number : ℕ) (event : Event) → nodes_of config ≤ number → slice_get events number ≡ Some event → event.happened.input ≡ RestartInput → ⊥

pub record Starts (Given : Type 0) (config : Shape) (before : List Event) (s : Scheduled) : Type 0 where
  pub are : AreStarts Given config before
  pub stage : IsOpening config (length before) s ⊎ IsOpened Given config (length before) s
  pub left : Given → AllByRecursion IsNoRestart s.items

-- the elements of a list with one more
got_push : (events : List Event) (last : Event) (number : ℕ) (event : Event) → slice_get (events ++ last ∷ []) number ≡ Some event
    → (slice_get events number ≡ Some event) ⊎ ((number ≡ length events) × (last ≡ event))
got_push [] last zero event h = inr (refl, cc)
got_push [] last (suc number) event h = absurd (cc)
got_push (first ∷ rest) last zero event h = inl h
got_push (first ∷ rest) last (suc number) event h =
    ⊎_elim (λ before. inl before) (λ at_end. inr (ap suc at_end.0, at_end.1)) (got_push rest last number event h)

first_push : (Given : Type 0) (config : Shape) (before : List Event) (last : Event) → AreStarts Given config before → length before < nodes_of config → IsStartOf (length before) last
    → AreStarts Given config (before ++ last ∷ [])
first_push Given config before last are low start = record {
  first = λ number event within at. ⊎_elim
      (λ old. are.first number event within old)
      (λ new. subst (λ (x : ℕ × Event). IsStartOf x.0 x.1) (λ i. (sym new.0 i, new.1 i)) start)
      (got_push before last number event at);
  later = λ given number event past at. ⊎_elim
      (λ old. are.later given number event past old)
      (λ new. let same = new.0 in absurd (omega (arith, same, past, low)))
      (got_push before last number event at);
}

later_push : (Given : Type 0) (config : Shape) (before : List Event) (last : Event) → AreStarts Given config before → nodes_of config ≤ length before → (Given → last.happened.input ≡ RestartInput → ⊥)
    → AreStarts Given config (before ++ last ∷ [])
later_push Given config before last are high none = record {
  first = λ number event within at. ⊎_elim
      (λ old. are.first number event within old)
      (λ new. let same = new.0 in absurd (omega (arith, same, within, high)))
      (got_push before last number event at);
  later = λ given number event past at. ⊎_elim
      (λ old. are.later given number event past old)
      (λ new is. none given (ap (λ (e : Event). e.happened.input) new.1 ∙ is))
      (got_push before last number event at);
}

length_push : (before : List Event) (last : Event) → length (before ++ last ∷ []) ≡ length before + 1
length_push before last = length-append before (last ∷ [])

-- the turn that starts a node
abbrev pub start_of : ℕ → Turn
start_of number = record { node = record { 0 = number }; input = RestartInput }

some_left : (n : ℕ) → (suc n == 0) ≡ false
some_left n = grind (arith, common_steps)

-- a start is due: it comes next
module _ (Given : Type 0) (config : Shape) (count : ℕ) (s : Scheduled) (opens : IsOpening config count s) where
  undone : is_first_done s.queue s.duties ≡ false
  undone = ap (is_first_done s.queue) opens.due_first ∙ some_left opens.left

  is_ready : ready s ≡ s
  is_ready = ready-due s (passed-stops s undone) (ap (λ (duties : List Duty). length duties == 0) opens.due_first ∙ some_left (length opens.others))

  start_next : next_turn s ≡ Some (start_of count)
  start_next =
      ap (λ (x : Scheduled). turn_in (first_step x x.duties)) is_ready
      ∙ ap (λ (duties : List Duty). turn_in (first_step s duties)) opens.due_first

  -- once it is given, the next one is due
  given_is : given s ≡ record s { duties = give Restart (count + 1) (suc opens.left - 1) ∷ opens.others; plans = [] }
  given_is =
      ap (λ (x : Scheduled). handed (rest_in x (first_step x x.duties))) is_ready
      ∙ ap (λ (duties : List Duty). handed (rest_in s (first_step s duties))) opens.due_first

  left_after : (event : Event) → (after_event s event).items ≡ s.items
  left_after event =
      ap (λ (x : Scheduled). x.items) (noted-parts (given s) event.happened.outputs event.happened.reply) ∙ ap (λ (x : Scheduled). x.items) given_is

  one_less : suc opens.left - 1 ≡ opens.left
  one_less = omega arith

  after_duties : (event : Event) → (after_event s event).duties ≡ give Restart (count + 1) opens.left ∷ opens.others
  after_duties event =
      ap (λ (x : Scheduled). x.duties) (noted-parts (given s) event.happened.outputs event.happened.reply)
      ∙ ap (λ (x : Scheduled). duties_with (course_or_none x.config x.hold x.awaited event.happened.reply) x.duties) given_is
      ∙ ap (λ (a : Option Awaited). duties_with (course_or_none s.config s.hold a event.happened.reply) (give Restart (count + 1) (suc opens.left - 1) ∷ opens.others)) opens.quiet
      ∙ ap (λ (n : ℕ). give Restart (count + 1) n ∷ opens.others) one_less

  after_quiet : (event : Event) → (after_event s event).awaited ≡ None
  after_quiet event = ap (λ (x : Scheduled). x.awaited) (noted-parts (given s) event.happened.outputs event.happened.reply)

  -- then another node is to be started, or none
  goes_on : (event : Event) → IsOpening config (count + 1) (after_event s event) ⊎ IsOpened Given config (count + 1) (after_event s event)
  goes_on event = by opens.left refl
    where
      by : (n : ℕ) → n ≡ opens.left → IsOpening config (count + 1) (after_event s event) ⊎ IsOpened Given config (count + 1) (after_event s event)
      by zero e = inr (record {
        all = let all = opens.all in omega (arith, all, e);
        none_more = λ given. subst AreNoStarts (sym (after_duties event)) (sym e, opens.none_else);
      })
      by (suc n) e = inl (record {
        left = n;
        all = let all = opens.all in omega (arith, all, e);
        others = opens.others;
        due_first = after_duties event ∙ ap (λ (m : ℕ). give Restart (count + 1) m ∷ opens.others) (sym e);
        none_else = opens.none_else;
        quiet = after_quiet event;
      })

is_start : (count : ℕ) (event : Event) → Some (start_of count) ≡ Some (turn_of event) → IsStartOf count event
is_start count event e = record {
  node = sym (ap (λ (t : Turn). t.node.0) (some_is e));
  input = sym (ap (λ (t : Turn). t.input) (some_is e));
}

event-goes : (Given : Type 0) (config : Shape) (before : List Event) (s : Scheduled) (event : Event) → Starts Given config before s
    → next_turn s ≡ Some (turn_of event) → Starts Given config (before ++ event ∷ []) (after_event s event)
event-goes Given config before s event h next = ⊎_elim
    (λ opens. record {
      are = first_push Given config before event h.are (let all = opens.all in omega (arith, all))
          (is_start (length before) event (sym (start_next Given config (length before) s opens) ∙ next));
      stage = subst (λ (n : ℕ). IsOpening config n (after_event s event) ⊎ IsOpened Given config n (after_event s event)) (sym (length_push before event))
          (goes_on Given config (length before) s opens event);
      left = λ given. subst (AllByRecursion IsNoRestart) (sym (left_after Given config (length before) s opens event)) (h.left given);
    })
    (λ opened. record {
      are = later_push Given config before event h.are opened.all
          (λ given. no_restart event.happened.input
          (next-none s (turn_of event) (record { items = h.left given; duties = opened.none_more given }) next));
      stage = inr (record {
        all = let all = opened.all in omega (arith, all, length_push before event);
        none_more = λ given. (event-starts s event (record { items = h.left given; duties = opened.none_more given })).duties;
      });
      left = λ given. (event-starts s event (record { items = h.left given; duties = opened.none_more given })).items;
    })
    h.stage

-- ---- a run

module _ (config : Shape) (run : ℕ) (items : List Item) where
  -- the items of the run start no node
  abbrev Given : Type 0
  Given = AllByRecursion IsNoRestart items

  at_start : Starts Given config [] (at_first config run items)
  at_start = record {
    are = record { first = λ number event within at. absurd (cc); later = λ given number event past at is. absurd (cc) };
    stage = by (nodes_of config) refl;
    left = λ given. given;
  }
    where
      by : (n : ℕ) → n ≡ nodes_of config → IsOpening config 0 (at_first config run items) ⊎ IsOpened Given config 0 (at_first config run items)
      by zero e = inr (record { all = omega (arith, e); none_more = λ given. (sym e, (tt, (tt, tt))) })
      by (suc n) e = inl (record {
        left = n;
        all = omega (arith, e);
        others = give Lead (orderer_node config 0) 1 ∷ DeliverAll ∷ [];
        due_first = ap (λ (m : ℕ). give Restart 0 m ∷ give Lead (orderer_node config 0) 1 ∷ DeliverAll ∷ []) (sym e);
        none_else = (tt, (tt, tt));
        quiet = refl;
      })

  all_starts : (events : List Event) → IsFollowed config run items events → Starts Given config events (after_events (at_first config run items) events)
  all_starts events follow = followed-along (Starts Given config) (event-goes Given config) [] (at_first config run items) events at_start follow

  pub first_starts : (events : List Event) (number : ℕ) (event : Event) → IsFollowed config run items events → number < nodes_of config
      → slice_get events number ≡ Some event → IsStartOf number event
  first_starts events number event follow within at = (all_starts events follow).are.first number event within at

  pub no_later_start : (events : List Event) (number : ℕ) (event : Event) → AllByRecursion IsNoRestart items → IsFollowed config run items events
      → nodes_of config ≤ number → slice_get events number ≡ Some event → event.happened.input ≡ RestartInput → ⊥
  no_later_start events number event given follow past at = (all_starts events follow).are.later given number event past at

  pub all_started : (events : List Event) → IsFollowed config run items events → next_turn_after config run items events ≡ None → nodes_of config ≤ length events
  all_started events follow over = ⊎_elim
      (λ opens. let comes = start_next Given config (length events) (after_events (at_first config run items) events) opens in absurd (cc))
      (λ opened. opened.all)
      (all_starts events follow).stage
