-- What follows from an answer, part by part.
use Rattle.std.specs.Prelude.{ℕ, List, [], ◌∷◌, ◌++◌, slice_set, Option, Some, None}
use Rattle.log_base.specs.ClusterShape.{Shape}
use Rattle.reply_frame.specs.declared.replies.Reply.{Reply, Nothing}
use Rattle.subscriber.specs.Following.{Following, after_offer}
use Rattle.schedule_model.specs.declared.courses.Course.{Course}
use Rattle.schedule_model.specs.declared.courses.Course.TheVariants.{Replies, GoesOn, Takes, Completes, Ends, Answers, PutsOff, Replaces}
use Rattle.schedule_model.specs.declared.duties.Awaited.{Awaited}
use Rattle.schedule_model.specs.declared.duties.Duty.{Duty}
use Rattle.schedule_model.specs.declared.duties.PutOff.{PutOff}
use Rattle.schedule_model.specs.Courses.{course_in}
use Rattle.schedule_model.specs.Scheduling.{put_off_with}
use Rattle.schedule_model.specs.Streams.{nothing_taken, stream_of}

-- how the item goes on, if an answer was awaited
abbrev pub course_or_none : Shape → Option (List PutOff) → Option Awaited → Reply → Option Course
course_or_none config hold None reply = None
course_or_none config hold (Some awaited) reply = Some (course_in config hold awaited reply)

-- what is due then
abbrev pub duties_with : Option Course → List Duty → List Duty
duties_with None duties = duties
duties_with (Some (Replies reply)) duties = duties
duties_with (Some (GoesOn first)) duties = first ++ duties
duties_with (Some (Takes position entry next)) duties = next ∷ duties
duties_with (Some (Completes position entry)) duties = duties
duties_with (Some (Ends last)) duties = duties
duties_with (Some (Answers reply first)) duties = first ++ duties
duties_with (Some (PutsOff reply asked)) duties = duties
duties_with (Some (Replaces item reply)) duties = duties

-- what the subscription under way has taken then
abbrev pub stream_with : Option Course → Following → Following
stream_with None stream = stream
stream_with (Some (Replies reply)) stream = stream
stream_with (Some (GoesOn first)) stream = stream
stream_with (Some (Takes position entry next)) stream = after_offer stream position.0 entry
stream_with (Some (Completes position entry)) stream = nothing_taken
stream_with (Some (Ends last)) stream = nothing_taken
stream_with (Some (Answers reply first)) stream = stream
stream_with (Some (PutsOff reply asked)) stream = stream
stream_with (Some (Replaces item reply)) stream = stream

-- which questions are put off then, so many items being done
abbrev pub hold_with : Option Course → ℕ → Option (List PutOff) → Option (List PutOff)
hold_with None items hold = hold
hold_with (Some (Replies reply)) items hold = hold
hold_with (Some (GoesOn first)) items hold = hold
hold_with (Some (Takes position entry next)) items hold = hold
hold_with (Some (Completes position entry)) items hold = hold
hold_with (Some (Ends last)) items hold = hold
hold_with (Some (Answers reply first)) items hold = hold
hold_with (Some (PutsOff reply asked)) items hold = put_off_with hold items asked
hold_with (Some (Replaces item reply)) items hold = hold

-- the replies then
abbrev pub replies_with : Option Course → Following → List Reply → List Reply
replies_with None stream replies = replies
replies_with (Some (Replies reply)) stream replies = replies ++ reply ∷ []
replies_with (Some (GoesOn first)) stream replies = replies
replies_with (Some (Takes position entry next)) stream replies = replies
replies_with (Some (Completes position entry)) stream replies = replies ++ stream_of (after_offer stream position.0 entry) Nothing ∷ []
replies_with (Some (Ends last)) stream replies = replies ++ stream_of stream last ∷ []
replies_with (Some (Answers reply first)) stream replies = replies ++ reply ∷ []
replies_with (Some (PutsOff reply asked)) stream replies = replies ++ reply ∷ []
replies_with (Some (Replaces item reply)) stream replies = slice_set replies item reply
