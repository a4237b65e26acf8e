-- How a lane goes on with the pair that it drew last.
use Rattle.std.specs.Prelude.{ℕ, List, [], ◌∷◌, Option, Some, None}
use Rattle.client_session.specs.declared.pair.Pair.{Pair}
use Rattle.reply_frame.specs.declared.replies.Reply.{NothingKept}
use Rattle.schedule_model.specs.declared.courses.Course.{Course}
use Rattle.schedule_model.specs.declared.courses.Course.TheVariants.{Replies, GoesOn}
use Rattle.schedule_model.specs.Courses.{enquiry, submission}

-- how an item goes that asks where the append of this pair stands
abbrev pub asked_of : Option Pair → Course
asked_of None = Replies NothingKept
asked_of (Some pair) = GoesOn (enquiry pair.node pair.client pair.number ∷ [])

-- how a lane's last append is sent again, which drew this pair and has this record
abbrev pub sent_again : Option Pair → List ℕ → Course
sent_again None bytes = Replies NothingKept
sent_again (Some pair) bytes = GoesOn (submission pair.node pair.client pair.number bytes ∷ [])
