-- That numbers have the widths of their types, which every value of the program has.
use Rattle.std.specs.Prelude.{◌<◌, ◌^◌}
use Rattle.std.specs.List.{AllByRecursion}
use Rattle.log_base.specs.Wide.{IsBytes}
use Rattle.record_frame.specs.Entries.{IsEntry}
use Rattle.reply_frame.specs.declared.replies.Reply.{Reply, Nothing, Stored, At, Found, PendingAsk, PendingRead, PendingWish, Finalised, FinalisedAt, NotAdded, Stale, Full, Halted, Down, Missing, Trimmed, Elsewhere, Taken, NoSuchShard, NotLeading, Settled, Stream', NoLeader, NoLetter, NothingKept, Done, Spent}
use Rattle.history_frame.specs.declared.inputs.Call.{Call}
use Rattle.history_frame.specs.declared.inputs.Call.TheVariants.{Submit, Ask, Read, Request, Settled as ASettled}
use Rattle.history_frame.specs.declared.inputs.Input.{Input}
use Rattle.history_frame.specs.declared.inputs.Input.TheVariants.{Deliver, Call as ACall, Tick, Lead, Stop, Restart}
use Rattle.history_frame.specs.declared.events.Sent.{Sent}
use Rattle.history_frame.specs.declared.events.Happened.{Happened}
use Rattle.history_frame.specs.declared.events.Event.{Event}
use Rattle.history_frame.specs.declared.events.Kept.{Kept}

abbrev pub CallFits : Call → Type 0
CallFits (Submit client number bytes) = (client.0 < 2 ^ 16) × (number.0 < 2 ^ 64) × IsBytes bytes
CallFits (Ask client number) = (client.0 < 2 ^ 16) × (number.0 < 2 ^ 64)
CallFits (Read client position) = (client.0 < 2 ^ 16) × (position.0 < 2 ^ 64)
CallFits (Request client value) = client.0 < 2 ^ 16
CallFits (ASettled client value start) = (client.0 < 2 ^ 16) × (start < 2 ^ 32)

abbrev pub InputFits : Input → Type 0
InputFits (Deliver place index message) = (place < 2 ^ 32) × (index < 256)
InputFits (ACall call) = CallFits call
InputFits Tick = Unit {0}
InputFits Lead = Unit {0}
InputFits Stop = Unit {0}
InputFits Restart = Unit {0}

abbrev pub ReplyFits : Reply → Type 0
ReplyFits Nothing = Unit {0}
ReplyFits (Stored offset) = offset < 2 ^ 32
ReplyFits (At position) = position.0 < 2 ^ 64
ReplyFits (Found position entry) = (position.0 < 2 ^ 64) × IsEntry entry
ReplyFits (PendingAsk covered) = covered < 2 ^ 32
ReplyFits (PendingRead end) = end.0 < 2 ^ 64
ReplyFits (PendingWish known) = known < 2 ^ 32
ReplyFits Finalised = Unit {0}
ReplyFits (FinalisedAt frozen) = frozen < 2 ^ 32
ReplyFits NotAdded = Unit {0}
ReplyFits (Stale last) = last.0 < 2 ^ 64
ReplyFits Full = Unit {0}
ReplyFits Halted = Unit {0}
ReplyFits Down = Unit {0}
ReplyFits Missing = Unit {0}
ReplyFits (Trimmed mark) = mark.0 < 2 ^ 64
ReplyFits (Elsewhere shard) = shard.0 < 2 ^ 16
ReplyFits (Taken from) = from < 2 ^ 32
ReplyFits NoSuchShard = Unit {0}
ReplyFits NotLeading = Unit {0}
ReplyFits (Settled slot) = slot.0 < 2 ^ 32
ReplyFits (Stream' from entries at last) = (from.0 < 2 ^ 64) × AllByRecursion IsEntry entries × ReplyFits last
ReplyFits NoLeader = Unit {0}
ReplyFits (NoLetter waiting) = waiting < 2 ^ 32
ReplyFits NothingKept = Unit {0}
ReplyFits Done = Unit {0}
ReplyFits (Spent used) = used < 2 ^ 32

abbrev pub SentFits : Sent → Type 0
SentFits sent = sent.to.0 < 2 ^ 16

pub record HappenedFits (happened : Happened) : Type 0 where
  pub input : InputFits happened.input
  pub outputs : AllByRecursion SentFits happened.outputs
  pub reply : ReplyFits happened.reply

pub record EventFits (event : Event) : Type 0 where
  pub node : event.node.0 < 2 ^ 16
  pub happened : HappenedFits event.happened

pub record KeptFits (kept : Kept) : Type 0 where
  pub disk : kept.disk < 2 ^ 32
  pub payload : IsBytes kept.payload
