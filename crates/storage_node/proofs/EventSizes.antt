-- The size of an event of a storage node.
use Rattle.std.proofs.Common.{◌≡◌, ◌*◌, ◌≤◌, true, List, [], ◌∷◌, ◌++◌, length, arith, length-append}
use Rattle.std.specs.List.{AllByRecursion, flat_map}
use Rattle.reply_frame.specs.Replies.{reply_bytes}
use Rattle.history_frame.specs.declared.events.Happened.{Happened}
use Rattle.history_frame.specs.declared.events.Sent.{Sent}
use Rattle.history_frame.specs.declared.inputs.Call.{Call}
use Rattle.history_frame.specs.declared.inputs.Call.TheVariants.{Submit, Ask, Read, Request, Settled}
use Rattle.history_frame.specs.declared.inputs.Input.{Input}
use Rattle.history_frame.specs.declared.inputs.Input.TheVariants.{Deliver, Call as ACall, Tick, Lead, Stop, Restart}
use Rattle.history_frame.specs.Spelling.{call_spelling, event_size, input_spelling, mark_byte, sent_spelling}
use Rattle.log_base.specs.ClusterShape.{Shape}
use Rattle.log_base.specs.Wide.{be2, be4, be8}
use Rattle.log_base.proofs.Wide.{length-be2, length-be4, length-be8}
use Rattle.message_frame.specs.Spelling.{message_spelling}
use Rattle.node_model.specs.Fits.{HasRange, IsCallOf}
use Rattle.node_model.specs.Marks.{is_named}
use Rattle.node_model.specs.StorageRow.{is_call, names}
use Rattle.record_frame.specs.Entries.{entry_of}
use Rattle.record_frame.proofs.EntryLaws.{length-entry_spelling}
use Rattle.storage_node.specs.Preparing.{IsLetter}
use Rattle.storage_node.specs.Turning.{IsSmall}

call-size : (config : Shape) (call : Call) → is_call call ≡ true → IsCallOf config call → length (call_spelling call) ≤ 65550
call-size config (Submit client number bytes) named range =
    let size = length-entry_spelling (entry_of client number bytes) in omega (arith, size, range.size)
call-size config (Ask client number) named range = omega (arith, length-append (be2 client.0) (be8 number.0), length-be2 client.0, length-be8 number.0)
call-size config (Read client position) named range = omega (arith, length-append (be2 client.0) (be8 position.0), length-be2 client.0, length-be8 position.0)
call-size config (Request client value) named range = absurd (cc)
call-size config (Settled client value start) named range = absurd (cc)

input-size : (config : Shape) (input : Input) → is_named names input ≡ true → HasRange config input → length (input_spelling input) ≤ 65551
input-size config (Deliver place index message) named range = omega (arith, length-append (be4 place) (index ∷ []), length-be4 place)
input-size config (ACall call) named range = let size = call-size config call named range in omega (arith, size)
input-size config Tick named range = omega arith
input-size config Lead named range = omega arith
input-size config Stop named range = omega arith
input-size config Restart named range = omega arith

letters-size : (sent : List Sent) → AllByRecursion IsLetter sent → length (flat_map sent_spelling sent) ≤ 65562 * length sent
letters-size [] letters = omega arith
letters-size (first ∷ sent) letters =
    let more = letters-size sent letters.1 in
    let size = letters.0.1 in
    let spelled = message_spelling first.message in
    omega (
      arith,
      more,
      size,
      length-append (sent_spelling first) (flat_map sent_spelling sent),
      length-append (be2 first.to.0) (be4 (length spelled) ++ spelled),
      length-append (be4 (length spelled)) spelled,
      length-be2 first.to.0,
      length-be4 (length spelled),
    )

pub event-fits : (config : Shape) (happened : Happened) → is_named names happened.input ≡ true → HasRange config happened.input → IsSmall happened.outputs happened.reply
    → event_size happened ≤ 2097152
event-fits config happened named range small =
    let input = input-size config happened.input named range in
    let letters = letters-size happened.outputs small.letters in
    let last = length-append (flat_map sent_spelling happened.outputs) (reply_bytes happened.reply) in
    let front = length-append (input_spelling happened.input)
    (mark_byte happened.mark ∷ (length happened.outputs ∷ (flat_map sent_spelling happened.outputs ++ reply_bytes happened.reply))) in
    omega (arith, input, letters, small.few, small.reply, last, front)
