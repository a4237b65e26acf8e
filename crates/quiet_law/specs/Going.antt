-- How items go over moments: what an item's course says is due is done, one duty after another, up to its reply.
use Rattle.std.specs.Prelude.{◌≡◌, ℕ, zero, suc, List, [], ◌∷◌, Option}
use Rattle.log_base.specs.ClusterShape.{Shape}
use Rattle.log_base.specs.declared.numbers.NodeId.{NodeId}
use Rattle.command_frame.specs.declared.items.Item.{Item}
use Rattle.reply_frame.specs.declared.replies.Reply.{Reply, Nothing}
use Rattle.subscriber.specs.Following.{Following, after_offer}
use Rattle.history_frame.specs.declared.inputs.Input.TheVariants.{Call as ACall}
use Rattle.history_frame.specs.declared.inputs.Mark.TheVariants.{Done}
use Rattle.schedule_model.specs.declared.courses.Course.{Course}
use Rattle.schedule_model.specs.declared.courses.Course.TheVariants.{Replies, GoesOn, Takes as TakesEntry, Completes, Ends, Answers, PutsOff, Replaces}
use Rattle.schedule_model.specs.declared.duties.Awaited.{Awaited}
use Rattle.schedule_model.specs.declared.duties.Duty.{Duty}
use Rattle.schedule_model.specs.declared.duties.Duty.TheVariants.{Give, DeliverAll, DeliverOne, MakeCall}
use Rattle.schedule_model.specs.Courses.{Scene, beginning, course_of}
use Rattle.schedule_model.specs.Duties.{signal_input}
use Rattle.schedule_model.specs.Scheduling.{drawn, primaries_after, stream_before}
use Rattle.schedule_model.specs.Streams.{nothing_taken, stream_of}
use Rattle.quiet_model.specs.Moments.{AreDelivered, Moment, TakeInTurn, Takes}

-- Duties are done up to a call and its answer, no disk fails, and so it goes on. Letters are not picked out of the queue.
abbrev pub DoneThen : Shape → List Duty → (Awaited → Reply → Moment → Type 0) → Moment → Type 0
DoneThen config [] goes_on before = ⊥
DoneThen config (Give signal first count ∷ duties) goes_on before =
    (next : Moment) × TakeInTurn config (signal_input signal) Done first.0 count before next × DoneThen config duties goes_on next
DoneThen config (DeliverAll ∷ duties) goes_on before = (next : Moment) × AreDelivered config before next × DoneThen config duties goes_on next
DoneThen config (DeliverOne letter afterwards ∷ duties) goes_on before = ⊥
DoneThen config (MakeCall node call awaited ∷ duties) goes_on before =
    (reply : Reply) × (next : Moment) × Takes config before node.0 (ACall call) Done reply next × goes_on awaited reply next

-- A course goes from one moment to another, with so many calls at most, while a subscription under way has taken so much, and ends
-- with an answer. Courses of lines of the fault script, and of items that are held, do not go.
abbrev pub Goes : Shape → Following → ℕ → Course → Moment → Reply → Moment → Type 0
Goes config stream calls (Replies reply) before answer after = (answer ≡ reply) × (after ≡ before)
Goes config stream calls (Completes position entry) before answer after =
    (answer ≡ stream_of (after_offer stream position.0 entry) Nothing) × (after ≡ before)
Goes config stream calls (Ends last) before answer after = (answer ≡ stream_of stream last) × (after ≡ before)
Goes config stream calls (Answers reply duties) before answer after = ⊥
Goes config stream calls (PutsOff reply asked) before answer after = ⊥
Goes config stream calls (Replaces item reply) before answer after = ⊥
Goes config stream zero (GoesOn duties) before answer after = ⊥
Goes config stream zero (TakesEntry position entry duty) before answer after = ⊥
Goes config stream (suc calls) (GoesOn duties) before answer after =
    DoneThen config duties (λ awaited reply next. Goes config stream calls (course_of config awaited reply) next answer after) before
Goes config stream (suc calls) (TakesEntry position entry duty) before answer after =
    DoneThen config (duty ∷ [])
    (λ awaited reply next. Goes config (after_offer stream position.0 entry) calls (course_of config awaited reply) next answer after) before

-- the scene in which items begin that are no lines of the fault script: it tells them nothing
abbrev pub no_scene : Scene
no_scene = record { questions = []; waiting = 0; records = [] }

-- Items go, one after another: the lanes have drawn so many numbers, these are the primaries of their last appends, and no
-- subscription is under way.
abbrev pub AllGo : Shape → ℕ → List ℕ → List (Option NodeId) → List Item → Moment → List Reply → Moment → Type 0
AllGo config run draws primaries [] before answers after = (answers ≡ []) × (after ≡ before)
AllGo config run draws primaries (item ∷ items) before [] after = ⊥
AllGo config run draws primaries (item ∷ items) before (answer ∷ answers) after =
    (calls : ℕ) × (next : Moment) × Goes config (stream_before item nothing_taken) calls (beginning config run draws primaries no_scene item) before answer next
    × AllGo config run (drawn item draws) (primaries_after config item primaries) items next answers after
