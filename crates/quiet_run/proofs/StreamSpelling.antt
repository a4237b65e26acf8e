-- A stream of entries that were found has a spelling, and so has a reply wherever the last answer of its stream stands.
use Rattle.std.proofs.Common.{◌≤◌, List, [], ◌∷◌, ◌++◌, length, map, length-append, arith}
use Rattle.std.specs.List.{AllByRecursion, flat_map}
use Rattle.log_base.specs.Wide.{be2, be4, be8}
use Rattle.log_base.proofs.Wide.{length-be2, length-be8}
use Rattle.record_frame.specs.declared.entries.Entry.{Entry}
use Rattle.reply_frame.specs.declared.replies.Reply.{Reply, Nothing, Stored, At, Found, PendingAsk, PendingRead, PendingWish, Finalised, FinalisedAt, NotAdded, Stale, Full, Halted, Down, Missing, Trimmed, Elsewhere, Taken, NoSuchShard, NotLeading, Settled, Stream', NoLeader, NoLetter, NothingKept, Done, Spent}
use Rattle.reply_frame.specs.Replies.{HasSpelling, IsNodeAnswer, IsShort, entry_bytes, reply_bytes}
use Rattle.subscriber.specs.Following.{Following}
use Rattle.command_frame.specs.Streams.{unplaced}
use Rattle.schedule_model.specs.Streams.{stream_of}
use Rattle.schedule_model.proofs.Replying.{IsNotFound, IsStream, WasFound}

-- an answer that is no entry has nine bytes at most
short_answer : (reply : Reply) → IsNodeAnswer reply → IsNotFound reply → length (reply_bytes reply) ≤ 9
unfolding be2 be4 be8
short_answer Nothing is other = omega arith
short_answer (Stored offset) is other = omega arith
short_answer (At position) is other = omega arith
short_answer (PendingAsk covered) is other = omega arith
short_answer (PendingRead end) is other = omega arith
short_answer (PendingWish known) is other = omega arith
short_answer Finalised is other = omega arith
short_answer (FinalisedAt frozen) is other = omega arith
short_answer NotAdded is other = omega arith
short_answer (Stale last) is other = omega arith
short_answer Full is other = omega arith
short_answer Halted is other = omega arith
short_answer Down is other = omega arith
short_answer Missing is other = omega arith
short_answer (Trimmed mark) is other = omega arith
short_answer (Elsewhere shard) is other = omega arith
short_answer (Taken slot) is other = omega arith
short_answer NoSuchShard is other = omega arith
short_answer NotLeading is other = omega arith
short_answer (Settled slot) is other = omega arith
short_answer (Found position entry) is other = absurd other
short_answer (Stream' from entries at last) is other = absurd is
short_answer NoLeader is other = absurd is
short_answer (NoLetter waiting) is other = absurd is
short_answer NothingKept is other = absurd is
short_answer Done is other = absurd is
short_answer (Spent used) is other = absurd is

found_short : (entries : List Entry) → AllByRecursion (WasFound HasSpelling) entries → AllByRecursion IsShort entries
found_short [] h = tt
found_short (entry ∷ entries) h = (h.0.good.0, found_short entries h.1)

pub stream_spelled : (stream : Following) (last : Reply) → IsStream HasSpelling stream → HasSpelling last → IsNodeAnswer last → IsNotFound last
    → HasSpelling (stream_of stream last)
stream_spelled stream last h spelled answer other =
    let short = short_answer last answer other in
    let room = h.room in
    let entries = flat_map entry_bytes stream.delivered in (
      (h.few, found_short stream.delivered h.each, answer),
      omega (
        arith,
        length-be8 stream.from,
        length-be2 (length stream.delivered),
        length-append (be8 stream.from) (be2 (length stream.delivered)),
        length-append (be8 stream.from ++ be2 (length stream.delivered)) entries,
        length-append (be8 stream.from ++ be2 (length stream.delivered) ++ entries) (reply_bytes last),
      ),
    )

-- where the last answer stands changes no spelling
placed_spelled : (reply : Reply) → HasSpelling (unplaced reply) → HasSpelling reply
placed_spelled (Stream' from entries at last) h = h
placed_spelled reply h = h

pub all_placed_spelled : (replies : List Reply) → AllByRecursion HasSpelling (map unplaced replies) → AllByRecursion HasSpelling replies
all_placed_spelled [] h = tt
all_placed_spelled (reply ∷ replies) h = (placed_spelled reply h.0, all_placed_spelled replies h.1)
