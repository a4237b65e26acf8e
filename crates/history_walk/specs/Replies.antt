-- Which replies are answers of nodes. The others are given to items alone.
use Rattle.reply_frame.specs.declared.replies.Reply.{Reply, Nothing, Stored, At, Found, PendingAsk, PendingRead, PendingWish, Finalised, FinalisedAt, NotAdded, Stale, Full, Halted, Down, Missing, Trimmed, Elsewhere, Taken, NoSuchShard, NotLeading, Settled, Stream', NoLeader, NoLetter, NothingKept, Done, Spent}

abbrev pub IsNodeReply : Reply → Type 0
IsNodeReply Nothing = Unit {0}
IsNodeReply (Stored offset) = Unit {0}
IsNodeReply (At position) = Unit {0}
IsNodeReply (Found position entry) = Unit {0}
IsNodeReply (PendingAsk covered) = Unit {0}
IsNodeReply (PendingRead end) = Unit {0}
IsNodeReply (PendingWish known) = Unit {0}
IsNodeReply Finalised = Unit {0}
IsNodeReply (FinalisedAt frozen) = Unit {0}
IsNodeReply NotAdded = Unit {0}
IsNodeReply (Stale last) = Unit {0}
IsNodeReply Full = Unit {0}
IsNodeReply Halted = Unit {0}
IsNodeReply Down = Unit {0}
IsNodeReply Missing = Unit {0}
IsNodeReply (Trimmed mark) = Unit {0}
IsNodeReply (Elsewhere shard) = Unit {0}
IsNodeReply (Taken from) = Unit {0}
IsNodeReply NoSuchShard = Unit {0}
IsNodeReply NotLeading = Unit {0}
IsNodeReply (Settled slot) = Unit {0}
IsNodeReply (Stream' from entries ptr last) = ⊥
IsNodeReply NoLeader = ⊥
IsNodeReply (NoLetter waiting) = ⊥
IsNodeReply NothingKept = ⊥
IsNodeReply Done = ⊥
IsNodeReply (Spent used) = ⊥
