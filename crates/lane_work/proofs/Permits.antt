-- What is due next may be called.
use Rattle.std.proofs.Common.{◌≡◌, ℕ, ◌<◌, ◌+◌, Bool, true, false, cond, nat_lt, List, [], ◌∷◌, ◌++◌, Some, None, refl, sym, ap, ◌∙◌, subst, ⊎_elim, append_assoc}
use Rattle.std.proofs.lemmas.List.{append-nil}
use Rattle.std.specs.List.{AllByRecursion}
use Rattle.std.proofs.lemmas.Option.{none-some, same_Some}
use borrow.Author.Tests.{ltb-true}
use Rattle.cluster.specs.Submitting.{MaySubmit, SubmitsLike}
use Rattle.cluster.proofs.Submits.{submits_none}
use Rattle.history_frame.specs.declared.events.Happened.{Happened}
use Rattle.history_frame.specs.declared.inputs.Call.{Call}
use Rattle.history_frame.specs.declared.inputs.Call.TheVariants.{Submit, Ask as AskCall, Read as ReadCall, Request, Settled}
use Rattle.history_frame.specs.declared.inputs.Input.{Input}
use Rattle.history_frame.specs.declared.inputs.Input.TheVariants.{Deliver, Call as ACall, Tick, Lead, Stop, Restart}
use Rattle.log_base.proofs.Legal.{at_push}
use Rattle.log_base.specs.ClusterShape.{Shape}
use Rattle.log_base.specs.Draws.{number_of_draw}
use Rattle.log_base.specs.declared.numbers.NodeId.{NodeId}
use Rattle.node_model.specs.Legal.{submitted}
use Rattle.node_table.specs.Numbering.{nodes_of}
use Rattle.record_frame.specs.declared.entries.Entry.{Entry}
use Rattle.reply_frame.specs.declared.replies.Reply.{Reply}
use Rattle.schedule_model.specs.Courses.{course_of}
use Rattle.schedule_model.specs.declared.courses.Course.{Course}
use Rattle.schedule_model.specs.declared.courses.Course.TheVariants.{Replies, GoesOn, Takes, Completes, Ends, Answers, PutsOff, Replaces}
use Rattle.schedule_model.specs.declared.duties.Duty.{Duty}
use Rattle.schedule_model.specs.declared.duties.Duty.TheVariants.{Give, DeliverAll, DeliverOne, MakeCall}
use Rattle.schedule_model.proofs.Permitted.{IsPermitted}
use Rattle.schedule_model.proofs.LinesPermitted.{IsCoursePermitted}
use Rattle.schedule_model.proofs.AnswersPermitted.{course-permitted}
use Rattle.schedule_model.proofs.LastAppends.{IsNoSubmission, IsPlain}
use Rattle.schedule_model.proofs.Submitting.{IsPlainCourse, course-plain}
use Rattle.subscriber.specs.Following.{Following}
use Rattle.tied_cells.specs.declared.board.Own.{Own}
use Rattle.lane_work.specs.declared.stages.Asking.{Asking}
use Rattle.lane_work.specs.declared.stages.Due.{Due}
use Rattle.lane_work.specs.declared.stages.Stage.{Stage}
use Rattle.lane_work.specs.declared.stages.Stage.TheVariants.{Asks, Turns, Replied}
use Rattle.lane_work.specs.Keeping.{AreDrawn, MayAsk, MayGo, StandsWith}
use Rattle.lane_work.specs.Stages.{AreDue, IsDue, IsTurned, after_event, asks, due_of, gone}

-- a turn submits nothing
pub turned_none : (input : Input) → IsTurned input → submitted input ≡ None
turned_none (Deliver place index message) h = refl
turned_none (ACall call) h = absurd h
turned_none Tick h = refl
turned_none Lead h = absurd h
turned_none Stop h = absurd h
turned_none Restart h = refl

call_none : (call : Call) → IsNoSubmission call → submitted (ACall call) ≡ None
call_none (Submit client number bytes) h = absurd h
call_none (AskCall client number) h = refl
call_none (ReadCall client position) h = refl
call_none (Request client value) h = refl
call_none (Settled client value from) h = refl

-- what holds of each call of the cluster that submits nothing holds of the next call
module _ (config : Shape) (is : Due → Type 0)
    (others : (due : Due) → IsPermitted config (MakeCall due.node due.call due.awaited) → submitted (ACall due.call) ≡ None → is due) where
  pub asks_stands : (taken : Following) (again : ℕ) (duties : List Duty) → AllByRecursion (IsPermitted config) duties → AllByRecursion IsPlain duties
      → StandsWith config is (asks taken again (due_of duties))
  asks_stands taken again [] permitted plain = tt
  asks_stands taken again (Give signal first count ∷ duties) permitted plain = asks_stands taken again duties permitted.1 plain.1
  asks_stands taken again (DeliverAll ∷ duties) permitted plain = asks_stands taken again duties permitted.1 plain.1
  asks_stands taken again (DeliverOne letter afterwards ∷ duties) permitted plain = asks_stands taken again duties permitted.1 plain.1
  asks_stands taken again (MakeCall node call awaited ∷ duties) permitted plain =
      others (record { node = node; call = call; awaited = awaited }) permitted.0 (call_none call plain.0)

  replied_stands : (asking : Asking) (reply : Reply) (again : Bool) → 0 < nodes_of config → is asking.due
      → StandsWith config is (cond again (Turns (record { 0 = 0 }) (record asking { again = asking.again + 1 })) (Replied reply))
  replied_stands asking reply true some h = (some, h)
  replied_stands asking reply false some h = tt

  gone_stands : (asking : Asking) (course : Course) → 0 < nodes_of config → IsCoursePermitted config course → IsPlainCourse course → is asking.due
      → StandsWith config is (gone asking course)
  gone_stands asking (Replies reply) some permitted plain h = replied_stands asking reply _ some h
  gone_stands asking (GoesOn duties) some permitted plain h = asks_stands asking.taken asking.again duties permitted plain
  gone_stands asking (Takes position entry next) some permitted plain h = asks_stands _ asking.again (next ∷ []) (permitted, tt) (plain, tt)
  gone_stands asking (Completes position entry) some permitted plain h = tt
  gone_stands asking (Ends last) some permitted plain h = tt
  gone_stands asking (Answers reply duties) some permitted plain h = replied_stands asking reply _ some h
  gone_stands asking (PutsOff reply asked) some permitted plain h = replied_stands asking reply _ some h
  gone_stands asking (Replaces item reply) some permitted plain h = replied_stands asking reply _ some h

  turned_stands : (node : NodeId) (asking : Asking) (more : Bool) → nat_lt (node.0 + 1) (nodes_of config) ≡ more → is asking.due
      → StandsWith config is (cond more (Turns (record { 0 = node.0 + 1 }) asking) (Asks asking))
  turned_stands node asking true e h = (ltb-true (node.0 + 1) (nodes_of config) e, h)
  turned_stands node asking false e h = h

  -- the call that is due is one of the cluster's
  pub event_stands : (stage : Stage) (event : Own Happened) → 0 < nodes_of config → ((due : Due) → is due → IsPermitted config (MakeCall due.node due.call due.awaited))
      → StandsWith config is stage → StandsWith config is (after_event config stage event)
  event_stands (Asks asking) event some of h =
      let reply = event.happened.reply in
      gone_stands asking (course_of config asking.due.awaited reply) some (course-permitted config asking.due.awaited reply (of asking.due h).1)
      (course-plain config asking.due.awaited reply) h
  event_stands (Turns next asking) event some of h = turned_stands next asking (nat_lt (next.0 + 1) (nodes_of config)) refl h.1
  event_stands (Replied reply) event some of h = tt

-- ---- one event more

-- the same call may be made again, and another one after a turn
may_again : (run number node : ℕ) (own : List (Own Happened)) (input : Input) (event : Own Happened) → MaySubmit run number node own input
    → SubmitsLike node input event → MaySubmit run number node (own ++ event ∷ []) input
may_again run number node own input event may last = record {
  of_pass = may.of_pass;
  like = λ k other there. ⊎_elim
      (λ old. may.like k other old.0)
      (λ new. subst (SubmitsLike node input) new.0 last)
      (at_push own event k other there);
}

like_none : (node : ℕ) (input : Input) (event : Own Happened) → submitted event.happened.input ≡ None → SubmitsLike node input event
like_none node input event none one other e f clients numbers = absurd (none-some other (sym none ∙ f))

like_same : (node : ℕ) (input : Input) (event : Own Happened) → event.node ≡ node → event.happened.input ≡ input → SubmitsLike node input event
like_same node input event here is one other e f clients numbers =
    (sym here, ap (λ (r : Entry). r.bytes) (same_Some one other (sym e ∙ (ap submitted (sym is) ∙ f))))

-- with one event more the calls of the stage may still be made
ask_more : (config : Shape) (run number : ℕ) (own : List (Own Happened)) (event : Own Happened) (due : Due) → SubmitsLike due.node.0 (ACall due.call) event
    → MayAsk config run number own due → MayAsk config run number (own ++ event ∷ []) due
ask_more config run number own event due like h = record {
  permitted = h.permitted;
  may = may_again run number due.node.0 own (ACall due.call) event h.may like;
}

go_more : (config : Shape) (run number : ℕ) (own : List (Own Happened)) (stage : Stage) (event : Own Happened) → IsDue stage event
    → MayGo config run number own stage → MayGo config run number (own ++ event ∷ []) stage
go_more config run number own (Asks asking) event due h =
    ask_more config run number own event asking.due (like_same asking.due.node.0 (ACall asking.due.call) event due.0 due.1) h
go_more config run number own (Turns next asking) event due h =
    (h.0, ask_more config run number own event asking.due (like_none asking.due.node.0 (ACall asking.due.call) event (turned_none event.happened.input due.1)) h.1)
go_more config run number own (Replied reply) event due h = tt

-- the pass may go on after an event that was due
pub may_go_on : (config : Shape) (run number : ℕ) (own : List (Own Happened)) (stage : Stage) (event : Own Happened) → 0 < nodes_of config → IsDue stage event
    → MayGo config run number own stage → MayGo config run number (own ++ event ∷ []) (after_event config stage event)
may_go_on config run number own stage event some due h =
    let more = own ++ event ∷ [] in
    event_stands config (λ (d : Due). MayAsk config run number more d)
    (λ d permitted none. record { permitted = permitted; may = submits_none run number d.node.0 more (ACall d.call) none })
    stage event some (λ d is. is.permitted) (go_more config run number own stage event due h)

-- ---- draws

-- what a call submits was drawn before
pub record IsDrawnCall (config : Shape) (run draws : ℕ) (due : Due) : Type 0 where
  pub permitted : IsPermitted config (MakeCall due.node due.call due.awaited)
  pub drawn : (entry : Entry) → submitted (ACall due.call) ≡ Some entry → entry.number.0 < number_of_draw run draws

due_drawn : (config : Shape) (run draws : ℕ) (stage : Stage) (event : Own Happened) → IsDue stage event
    → StandsWith config (λ (d : Due). IsDrawnCall config run draws d) stage
    → (entry : Entry) → submitted event.happened.input ≡ Some entry → entry.number.0 < number_of_draw run draws
due_drawn config run draws (Asks asking) event due h entry e = h.drawn entry (ap submitted (sym due.1) ∙ e)
due_drawn config run draws (Turns next asking) event due h entry e = absurd (none-some entry (sym (turned_none event.happened.input due.1) ∙ e))
due_drawn config run draws (Replied reply) event due h entry e = absurd due

-- one event more
pub drawn_more : (run draws : ℕ) (own : List (Own Happened)) (event : Own Happened) → AreDrawn run draws own
    → ((entry : Entry) → submitted event.happened.input ≡ Some entry → entry.number.0 < number_of_draw run draws) → AreDrawn run draws (own ++ event ∷ [])
drawn_more run draws own event all last k other there = ⊎_elim
    (λ old. all k other old.0)
    (λ new. subst (λ (x : Own Happened). (entry : Entry) → submitted x.happened.input ≡ Some entry → entry.number.0 < number_of_draw run draws) new.0 last)
    (at_push own event k other there)

-- what an item submits was drawn when it began
pub events_drawn : (config : Shape) (run draws : ℕ) (own : List (Own Happened)) (stage : Stage) (events : List (Own Happened)) → 0 < nodes_of config
    → AreDue config stage events → StandsWith config (λ (d : Due). IsDrawnCall config run draws d) stage → AreDrawn run draws own → AreDrawn run draws (own ++ events)
events_drawn config run draws own stage [] some due h all = subst (AreDrawn run draws) (sym (append-nil own)) all
events_drawn config run draws own stage (event ∷ events) some due h all =
    let next = event_stands config (λ (d : Due). IsDrawnCall config run draws d)
    (λ d permitted none. record { permitted = permitted; drawn = λ entry e. absurd (none-some entry (sym none ∙ e)) })
    stage event some (λ d is. is.permitted) h in
    let more = drawn_more run draws own event all (due_drawn config run draws stage event due.0 h) in
    subst (AreDrawn run draws) (append_assoc own (event ∷ []) events)
    (events_drawn config run draws (own ++ event ∷ []) (after_event config stage event) events some due.1 next more)
