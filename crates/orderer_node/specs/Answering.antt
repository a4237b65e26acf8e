-- The replies of an orderer.
use Rattle.reply_frame.specs.declared.replies.Reply.{Reply, Nothing, Down, Halted, NotLeading, NoSuchShard, Taken, Settled, PendingWish}

-- an answer that an orderer gives
abbrev pub IsOwn : Reply → Type 0
IsOwn Nothing = Unit {0}
IsOwn Down = Unit {0}
IsOwn Halted = Unit {0}
IsOwn NotLeading = Unit {0}
IsOwn NoSuchShard = Unit {0}
IsOwn (Taken start) = Unit {0}
IsOwn (Settled slot) = Unit {0}
IsOwn (PendingWish known) = Unit {0}
IsOwn _ = ⊥
