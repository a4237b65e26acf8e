-- How a reply is spelled, and which replies have a spelling.
use Rattle.std.specs.Prelude.{ℕ, ◌+◌, ◌≤◌, List, [], ◌∷◌, ◌++◌, length}
use Rattle.std.specs.List.{flat_map, AllByRecursion}
use Rattle.log_base.specs.Wide.{be2, be4, be8}
use Rattle.record_frame.specs.declared.entries.Entry.{Entry}
use Rattle.reply_frame.specs.declared.replies.Reply.{Reply, Nothing, Stored, At, Found, PendingAsk, PendingRead, PendingWish, Finalised, FinalisedAt, NotAdded, Stale, Full, Halted, Down, Missing, Trimmed, Elsewhere, Taken, NoSuchShard, NotLeading, Settled, Stream', NoLeader, NoLetter, NothingKept, Done, Spent}
use Rattle.reply_frame.specs.Frames.{frame}

-- an entry in a reply: the client, the number, the length of the record, and the record
abbrev pub entry_bytes : Entry → List ℕ
entry_bytes entry = be2 entry.client.0 ++ be8 entry.number.0 ++ be4 (length entry.bytes) ++ entry.bytes

-- the kind of a reply and its fields
abbrev pub reply_bytes : Reply → List ℕ
reply_bytes Nothing = 0 ∷ []
reply_bytes (Stored offset) = 1 ∷ be4 offset
reply_bytes (At position) = 2 ∷ be8 position.0
reply_bytes (Found position entry) = 3 ∷ be8 position.0 ++ entry_bytes entry
reply_bytes (PendingAsk covered) = 4 ∷ be4 covered
reply_bytes (PendingRead end) = 5 ∷ be8 end.0
reply_bytes (PendingWish known) = 6 ∷ be4 known
reply_bytes Finalised = 7 ∷ []
reply_bytes (FinalisedAt frozen) = 8 ∷ be4 frozen
reply_bytes NotAdded = 9 ∷ []
reply_bytes (Stale last) = 10 ∷ be8 last.0
reply_bytes Full = 11 ∷ []
reply_bytes Halted = 12 ∷ []
reply_bytes Down = 13 ∷ []
reply_bytes Missing = 14 ∷ []
reply_bytes (Trimmed mark) = 15 ∷ be8 mark.0
reply_bytes (Elsewhere shard) = 16 ∷ be2 shard.0
reply_bytes (Taken from) = 17 ∷ be4 from
reply_bytes NoSuchShard = 18 ∷ []
reply_bytes NotLeading = 19 ∷ []
reply_bytes (Settled slot) = 20 ∷ be4 slot.0
reply_bytes (Stream' from entries at last) = 21 ∷ be8 from.0 ++ be2 (length entries) ++ flat_map entry_bytes entries ++ reply_bytes last
reply_bytes NoLeader = 22 ∷ []
reply_bytes (NoLetter waiting) = 23 ∷ be4 waiting
reply_bytes NothingKept = 24 ∷ []
reply_bytes Done = 25 ∷ []
reply_bytes (Spent used) = 26 ∷ be4 used

-- the one spelling of a reply to a lane
abbrev pub reply_spelling : ℕ → Reply → List ℕ
reply_spelling lane reply = frame 64 (lane ∷ reply_bytes reply)

-- an entry whose record is not too long
abbrev pub IsShort : Entry → Type 0
IsShort entry = length entry.bytes ≤ 65535

-- the answers that a node gives, which a stream may end with
abbrev pub IsNodeAnswer : Reply → Type 0
IsNodeAnswer Nothing = Unit {0}
IsNodeAnswer (Stored offset) = Unit {0}
IsNodeAnswer (At position) = Unit {0}
IsNodeAnswer (Found position entry) = IsShort entry
IsNodeAnswer (PendingAsk covered) = Unit {0}
IsNodeAnswer (PendingRead end) = Unit {0}
IsNodeAnswer (PendingWish known) = Unit {0}
IsNodeAnswer Finalised = Unit {0}
IsNodeAnswer (FinalisedAt frozen) = Unit {0}
IsNodeAnswer NotAdded = Unit {0}
IsNodeAnswer (Stale last) = Unit {0}
IsNodeAnswer Full = Unit {0}
IsNodeAnswer Halted = Unit {0}
IsNodeAnswer Down = Unit {0}
IsNodeAnswer Missing = Unit {0}
IsNodeAnswer (Trimmed mark) = Unit {0}
IsNodeAnswer (Elsewhere shard) = Unit {0}
IsNodeAnswer (Taken from) = Unit {0}
IsNodeAnswer NoSuchShard = Unit {0}
IsNodeAnswer NotLeading = Unit {0}
IsNodeAnswer (Settled slot) = Unit {0}
IsNodeAnswer (Stream' from entries at last) = ⊥
IsNodeAnswer NoLeader = ⊥
IsNodeAnswer (NoLetter waiting) = ⊥
IsNodeAnswer NothingKept = ⊥
IsNodeAnswer Done = ⊥
IsNodeAnswer (Spent used) = ⊥

-- A reply's records are not too long, and a stream has at most 65,535 entries and ends with a node's answer.
abbrev pub IsReply : Reply → Type 0
IsReply (Found position entry) = IsShort entry
IsReply (Stream' from entries at last) = (length entries ≤ 65535) × AllByRecursion IsShort entries × IsNodeAnswer last
IsReply reply = Unit {0}

-- the reply fits a frame, which has at most 2,097,152 bytes behind its length
abbrev pub HasSpelling : Reply → Type 0
HasSpelling reply = IsReply reply × (length (reply_bytes reply) + 2 ≤ 2097152)
