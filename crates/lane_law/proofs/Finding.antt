-- What is so of each entry that a read found, and of its position, is so of each entry in the streams of a lane.
use Rattle.std.proofs.Common.{◌≡◌, ◌+◌, ℕ, Bool, true, false, cond, nat_lt, ◌&&◌, List, [], ◌∷◌, ◌++◌, Option, Some, None, refl, sym, subst, arith}
use Rattle.std.specs.List.{AllByRecursion}
use Rattle.std.proofs.lemmas.Option.{none-some}
use Rattle.client_session.specs.Sessions.{Drawing}
use Rattle.client_session.specs.declared.pair.Pair.{Pair}
use Rattle.command_frame.specs.Streams.{unplaced}
use Rattle.command_frame.specs.declared.items.Item.{Item}
use Rattle.command_frame.specs.declared.items.Item.TheVariants.{Append, Read, Subscribe, Trim, Add, Finalise, Ask, Fault}
use Rattle.history_frame.specs.declared.events.Happened.{Happened}
use Rattle.history_frame.specs.declared.inputs.Input.TheVariants.{Call as ACall}
use Rattle.log_base.specs.ClusterShape.{Shape}
use Rattle.log_base.specs.declared.numbers.NodeId.{NodeId}
use Rattle.node_table.specs.Numbering.{nodes_of}
use Rattle.record_frame.specs.declared.entries.Entry.{Entry}
use Rattle.reply_frame.specs.declared.replies.Reply.{Reply, Stream'}
use Rattle.schedule_model.specs.Streams.{IsSingle}
use Rattle.schedule_model.specs.declared.courses.Course.{Course}
use Rattle.schedule_model.specs.declared.courses.Course.TheVariants.{Replies, GoesOn, Takes, Completes, Ends, Answers, PutsOff, Replaces}
use Rattle.schedule_model.specs.declared.duties.Duty.{Duty}
use Rattle.schedule_model.specs.declared.duties.Duty.TheVariants.{Give, DeliverAll, DeliverOne, MakeCall}
use Rattle.stream_law.specs.Streams.{EachInStream}
use Rattle.stream_law.proofs.Takings.{IsAwaitedBy, IsDutyWith, IsGood, IsGoodAnswer, in-good}
use Rattle.subscriber.specs.Following.{Following, after_offer}
use Rattle.tied_cells.specs.declared.account.Account.{Account}
use Rattle.tied_cells.specs.declared.board.Own.{Own}
use Rattle.lane_work.specs.Items.{ItemsGo}
use Rattle.lane_work.specs.Stages.{AreDue, IsDue, IsReplyAt, after_event, after_events, after_item, asks, asks_last, begun, due_of, gone, is_pending}
use Rattle.lane_work.specs.declared.stages.Asking.{Asking}
use Rattle.lane_work.specs.declared.stages.Stage.{Stage}
use Rattle.lane_work.specs.declared.stages.Stage.TheVariants.{Asks, Turns, Replied}
use Rattle.lane_law.proofs.Own.{all-back, all-front}

module _ (P : ℕ → Entry → Type 0) where
  -- the answer that is awaited is one to the call that is due
  abbrev IsAsked : Asking → Type 0
  IsAsked asking = IsAwaitedBy P asking.taken (ACall asking.due.call) asking.due.awaited

  abbrev IsStage : Stage → Type 0
  IsStage (Asks asking) = IsAsked asking
  IsStage (Turns next asking) = IsAsked asking
  IsStage (Replied reply) = EachInStream P reply

  -- an event has one answer, and what a read found
  abbrev pub IsAnswer : Own Happened → Type 0
  IsAnswer event = IsSingle event.happened.reply × IsGoodAnswer P event.happened.input event.happened.reply

  due-good : (taken : Following) (again : ℕ) (duties : List Duty) → AllByRecursion (IsDutyWith P taken) duties → IsStage (asks taken again (due_of duties))
  due-good taken again [] h = tt
  due-good taken again (Give signal first count ∷ duties) h = due-good taken again duties h.1
  due-good taken again (DeliverAll ∷ duties) h = due-good taken again duties h.1
  due-good taken again (DeliverOne letter afterwards ∷ duties) h = due-good taken again duties h.1
  due-good taken again (MakeCall node call awaited ∷ duties) h = h.0

  replied-good : (asking : Asking) (reply : Reply) (later : Bool) → IsAsked asking → EachInStream P reply
      → IsStage (cond later (Turns (record { 0 = 0 }) (record asking { again = asking.again + 1 })) (Replied reply))
  replied-good asking reply true asked good = asked
  replied-good asking reply false asked good = good

  gone-good : (asking : Asking) (course : Course) → IsAsked asking → IsGood P asking.taken course → IsStage (gone asking course)
  gone-good asking (Replies reply) asked good = replied-good asking reply (is_pending reply && nat_lt asking.again 256) asked good
  gone-good asking (GoesOn duties) asked good = due-good asking.taken asking.again duties good
  gone-good asking (Takes position entry next) asked good = due-good (after_offer asking.taken position.0 entry) asking.again (next ∷ []) (good, tt)
  gone-good asking (Completes position entry) asked good = good
  gone-good asking (Ends last) asked good = good
  gone-good asking (Answers reply duties) asked good = replied-good asking reply (is_pending reply && nat_lt asking.again 256) asked good.0
  gone-good asking (PutsOff reply held) asked good = replied-good asking reply (is_pending reply && nat_lt asking.again 256) asked good
  gone-good asking (Replaces item reply) asked good = replied-good asking reply (is_pending reply && nat_lt asking.again 256) asked good

  turned-good : (next : NodeId) (asking : Asking) (more : Bool) → IsAsked asking → IsStage (cond more (Turns (record { 0 = next.0 + 1 }) asking) (Asks asking))
  turned-good next asking true asked = asked
  turned-good next asking false asked = asked

  event-good : (config : Shape) (stage : Stage) (event : Own Happened) → IsStage stage → IsDue stage event → IsAnswer event → IsStage (after_event config stage event)
  event-good config (Asks asking) event asked due answer =
      let given : IsGoodAnswer P (ACall asking.due.call) event.happened.reply = subst (λ (input : _). IsGoodAnswer P input event.happened.reply) due.1 answer.1 in
      gone-good asking _ asked (in-good P config asking.taken None (ACall asking.due.call) asking.due.awaited event.happened.reply answer.0 given asked)
  event-good config (Turns next asking) event asked due answer = turned-good next asking (nat_lt (next.0 + 1) (nodes_of config)) asked
  event-good config (Replied reply) event asked due answer = absurd due

  events-good : (config : Shape) (stage : Stage) (events : List (Own Happened)) → IsStage stage → AreDue config stage events → AllByRecursion IsAnswer events
      → IsStage (after_events config stage events)
  events-good config stage [] good due answers = good
  events-good config stage (event ∷ events) good due answers =
      events-good config (after_event config stage event) events (event-good config stage event good due.0 answers.0) due.1 answers.1

  -- ---- beginnings and ends

  last-good : (last : Option Pair) → IsStage (asks_last last)
  last-good None = tt
  last-good (Some pair) = tt

  nothing-yet : (from i : ℕ) (entry : Entry) → None ≡ Some entry → P (from + i) entry
  nothing-yet from i entry at = absurd (none-some entry at)

  begun-good : (config : Shape) (session : Drawing) (item : Item) → IsStage (begun config session item)
  begun-good config session (Append lane shard replica bytes) = tt
  begun-good config session (Read lane shard replica position) = tt
  begun-good config session (Subscribe lane shard replica from count) = (record { each = nothing-yet from.0; next = omega arith }, refl)
  begun-good config session (Trim lane position) = tt
  begun-good config session (Add lane shard) = tt
  begun-good config session (Finalise lane shard) = tt
  begun-good config session (Ask lane) = last-good session.last
  begun-good config session (Fault lane fault) = tt

  placed-good : (reply told : Reply) → unplaced reply ≡ told → EachInStream P told → EachInStream P reply
  placed-good (Stream' from entries at last) told is good = subst (EachInStream P) (sym is) good
  placed-good reply told is good = subst (EachInStream P) (sym is) good

  end-good : (account : Account) (later : List (Own Happened)) (stage : Stage) (reply : Reply) → IsReplyAt account later stage reply → IsStage stage → EachInStream P reply
  end-good account later (Asks asking) reply cut good = subst (EachInStream P) (sym cut.told) tt
  end-good account later (Turns next asking) reply cut good = subst (EachInStream P) (sym cut.told) tt
  end-good account later (Replied told) reply is good = placed-good reply told is good

  -- ---- items

  -- what is so of each entry that was found, and of the position that was read, is so of each entry of a lane's streams and its position
  pub streams-good : (config : Shape) (lane : ℕ) (account : Account) (session : Drawing) (items : List Item) (events : List (Own Happened)) (replies : List Reply)
      → ItemsGo config lane account session items events replies → AllByRecursion IsAnswer events → AllByRecursion (EachInStream P) replies
  streams-good config lane account session [] events replies goes answers = subst (AllByRecursion (EachInStream P)) (sym goes.1) tt
  streams-good config lane account session (item ∷ items) events replies goes answers =
      let each : AllByRecursion IsAnswer (goes.own ++ (goes.led ++ goes.later)) = subst (AllByRecursion IsAnswer) goes.events_are answers in
      let own = all-front IsAnswer goes.own (goes.led ++ goes.later) each in
      let later = all-back IsAnswer goes.led goes.later (all-back IsAnswer goes.own (goes.led ++ goes.later) each) in
      let stage = events-good config (begun config session item) goes.own (begun-good config session item) goes.each_due own in
      let first : EachInStream P goes.reply = end-good account (goes.led ++ goes.later) _ goes.reply goes.ends stage in
      let others = streams-good config lane account (after_item config session item) items goes.later goes.others goes.go_on later in
      subst (AllByRecursion (EachInStream P)) (sym goes.replies_are) (first, others)
