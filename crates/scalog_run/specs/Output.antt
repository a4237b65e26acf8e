-- What a run sends: the frames of its replies and its history, or the frame of a fault.
use Rattle.std.specs.Prelude.{◌≡◌, ◌⊎◌, ℕ, List, [], ◌∷◌, ◌++◌, map, take, Option, Some, None, Result, Ok, Err}
use Rattle.std.specs.Io.KnownBytes.{Appends}
use Rattle.command_frame.specs.declared.items.Item.{Item}
use Rattle.reply_frame.specs.declared.replies.Reply.{Reply}
use Rattle.reply_frame.specs.Frames.{frame}
use Rattle.reply_frame.specs.Replies.{reply_spelling}
use Rattle.lane_work.specs.Items.{lane_of}
use Rattle.log_base.specs.Outside.{Rose}
use Rattle.log_base.specs.Wide.{be4, be8}
use Rattle.scalog_run.specs.declared.fault.FaultFrame.{FaultFrame}
use Rattle.scalog_run.specs.declared.fault.RunFault.{RunFault}
use Rattle.scalog_run.specs.declared.fault.RunFault.TheVariants.{BadInput, Unread, Unopened, BadDisk, TooMany, Memory}

-- ---- the output

-- the frames of replies, each behind its lane
abbrev pub lane_frames : List ℕ → List Reply → List ℕ
lane_frames [] replies = []
lane_frames (lane ∷ lanes) [] = []
lane_frames (lane ∷ lanes) (reply ∷ replies) = reply_spelling lane reply ++ lane_frames lanes replies

-- the frames of the replies to items, in order of the items
abbrev pub reply_frames : List Item → List Reply → List ℕ
reply_frames items replies = lane_frames (map lane_of items) replies

-- ---- the frames of faults

abbrev pub fault_frame : ℕ → ℕ → ℕ → ℕ → FaultFrame
fault_frame status cause which at = record { status = status; cause = cause; which = which; at = at }

abbrev pub fault_spelling : FaultFrame → List ℕ
fault_spelling fault = frame 127 (fault.status ∷ fault.cause ∷ (be4 fault.which ++ be8 fault.at))

-- what the frame of a fault tells; want of memory has none
abbrev pub told_of : RunFault → Option FaultFrame
told_of (BadInput at) = Some (fault_frame 3 0 0 at)
told_of (Unread at) = Some (fault_frame 4 0 0 at)
told_of (Unopened disk) = Some (fault_frame 6 0 disk 0)
told_of (BadDisk disk at) = Some (fault_frame 6 1 disk at)
told_of (TooMany cause) = Some (fault_frame 7 cause 0 0)
told_of Memory = None

-- where the words are no command
abbrev pub bad_words : FaultFrame
bad_words = fault_frame 2 0 0 0

-- ---- sending

-- the bytes that an outcome is told by, and the status that it calls for
abbrev pub told_bytes : Option FaultFrame → List ℕ
told_bytes None = []
told_bytes (Some fault) = fault_spelling fault

abbrev pub told_status : Option FaultFrame → ℕ
told_status None = 9
told_status (Some fault) = fault.status

abbrev pub to_send : Result (List ℕ) RunFault → List ℕ
to_send (Ok output) = output
to_send (Err fault) = told_bytes (told_of fault)

abbrev pub status_of : Result (List ℕ) RunFault → ℕ
status_of (Ok output) = 0
status_of (Err fault) = told_status (told_of fault)

-- what a sink has taken, and its count of faults
pub record Sinking : Type 0 where
  pub taken : Option (List ℕ)
  pub faults : ℕ

abbrev pub sinking : Option (List ℕ) → ℕ → Sinking
sinking taken faults = record { taken = taken; faults = faults }

-- The sink failed, with a part of the bytes taken.
pub record IsBroken (bytes : List ℕ) (old new : Sinking) : Type 0 where
  pub part : ℕ
  pub sent : Appends old.taken new.taken (take part bytes)
  pub cause : Rose old.faults new.faults

-- all bytes were sent, and the status is the wanted one; or the sink failed, and it is 5
abbrev pub Sends : List ℕ → ℕ → Sinking → Sinking → ℕ → Type 0
Sends bytes wanted old new status =
    ((status ≡ wanted) × Appends old.taken new.taken bytes) ⊎ ((status ≡ 5) × IsBroken bytes old new)
