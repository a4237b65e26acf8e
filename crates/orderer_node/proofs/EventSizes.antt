-- An event of an orderer fits its frame.
use Rattle.std.proofs.Common.{◌≡◌, ◌*◌, ◌≤◌, true, List, [], ◌∷◌, ◌++◌, length, arith, length-append}
use Rattle.std.specs.List.{AllByRecursion, flat_map}
use Rattle.std.proofs.lemmas.List.Concat.{flat_map-cons}
use Rattle.reply_frame.specs.declared.replies.Reply.{Reply, Nothing, Stored, At, Found, PendingAsk, PendingRead, PendingWish, Finalised, FinalisedAt, NotAdded, Stale, Full, Halted, Down, Missing, Trimmed, Elsewhere, Taken, NoSuchShard, NotLeading, Settled as SettledAt, Stream', NoLeader, NoLetter, NothingKept, Done, Spent}
use Rattle.reply_frame.specs.Replies.{reply_bytes}
use Rattle.history_frame.specs.declared.events.Happened.{Happened}
use Rattle.history_frame.specs.declared.events.Sent.{Sent}
use Rattle.history_frame.specs.declared.inputs.Call.{Call}
use Rattle.history_frame.specs.declared.inputs.Call.TheVariants.{Submit, Ask, Read, Request, Settled}
use Rattle.history_frame.specs.declared.inputs.Input.{Input}
use Rattle.history_frame.specs.declared.inputs.Input.TheVariants.{Deliver, Call as ACall, Tick, Lead, Stop, Restart}
use Rattle.history_frame.specs.Spelling.{call_spelling, event_size, input_spelling, mark_byte, sent_spelling}
use Rattle.log_base.specs.ClusterShape.{Shape}
use Rattle.log_base.specs.Wide.{be2, be4}
use Rattle.record_frame.specs.Values.{value_spelling}
use Rattle.message_frame.proofs.Sizes.{value_short}
use Rattle.node_model.specs.Fits.{HasRange, IsCallOf}
use Rattle.node_model.specs.Marks.{is_named}
use Rattle.node_model.specs.OrdererRow.{is_call, names}
use Rattle.orderer_node.specs.Announcing.{AreSmall, IsSmall}
use Rattle.orderer_node.specs.Answering.{IsOwn}

call_short : (config : Shape) (call : Call) → is_call call ≡ true → IsCallOf config call → length (call_spelling call) ≤ 140
unfolding be2 be4
call_short config (Submit client number bytes) named is = absurd cc
call_short config (Ask client number) named is = absurd cc
call_short config (Read client position) named is = absurd cc
call_short config (Request client value) named is = omega (arith, value_short value is.1)
call_short config (Settled client value start) named is = omega (arith, value_short value is, length-append (value_spelling value) (be4 start))

input_short : (config : Shape) (input : Input) → is_named names input ≡ true → HasRange config input → length (input_spelling input) ≤ 141
unfolding be4
input_short config (Deliver place index message) named is = omega arith
input_short config (ACall call) named is = let n = call_short config call named is in omega arith
input_short config Tick named is = omega arith
input_short config Lead named is = omega arith
input_short config Stop named is = omega arith
input_short config Restart named is = omega arith

sent_short : (sent : Sent) → IsSmall sent → length (sent_spelling sent) ≤ 9109
unfolding be2 be4
sent_short sent is = let n = is.short in omega arith

all_short : (sent : List Sent) → AllByRecursion IsSmall sent → length (flat_map sent_spelling sent) ≤ 9109 * length sent
all_short [] is = omega arith
all_short (one ∷ sent) is =
    rw flat_map-cons (omega (arith, length-append (sent_spelling one) (flat_map sent_spelling sent), sent_short one is.0, all_short sent is.1))

reply_short : (reply : Reply) → IsOwn reply → length (reply_bytes reply) ≤ 9
unfolding be4
reply_short Nothing is = omega arith
reply_short (Stored offset) is = absurd is
reply_short (At position) is = absurd is
reply_short (Found position entry) is = absurd is
reply_short (PendingAsk covered) is = absurd is
reply_short (PendingRead end) is = absurd is
reply_short (PendingWish known) is = omega arith
reply_short Finalised is = absurd is
reply_short (FinalisedAt frozen) is = absurd is
reply_short NotAdded is = absurd is
reply_short (Stale last) is = absurd is
reply_short Full is = absurd is
reply_short Halted is = omega arith
reply_short Down is = omega arith
reply_short Missing is = absurd is
reply_short (Trimmed mark) is = absurd is
reply_short (Elsewhere shard) is = absurd is
reply_short (Taken from) is = omega arith
reply_short NoSuchShard is = omega arith
reply_short NotLeading is = omega arith
reply_short (SettledAt slot) is = omega arith
reply_short (Stream' from entries at last) is = absurd is
reply_short NoLeader is = absurd is
reply_short (NoLetter waiting) is = absurd is
reply_short NothingKept is = absurd is
reply_short Done is = absurd is
reply_short (Spent used) is = absurd is

pub event_short : (config : Shape) (happened : Happened) → is_named names happened.input ≡ true → HasRange config happened.input → AreSmall 64 happened.outputs → IsOwn happened.reply
    → event_size happened ≤ 2097152
event_short config happened named range small own =
    let input = input_short config happened.input named range in
    let letters = all_short happened.outputs small.each in
    let reply = reply_short happened.reply own in
    let few = small.few in
    omega (
      arith,
      input,
      letters,
      reply,
      few,
      length-append (input_spelling happened.input) (mark_byte happened.mark ∷ (length happened.outputs ∷ (flat_map sent_spelling happened.outputs ++ reply_bytes happened.reply))),
      length-append (flat_map sent_spelling happened.outputs) (reply_bytes happened.reply),
    )
