-- An event of a gatherer fits its frame.
use Rattle.std.proofs.Common.{◌≡◌, ◌*◌, ◌≤◌, true, List, [], ◌∷◌, ◌++◌, length, ap, arith, length-append}
use Rattle.std.specs.List.{AllByRecursion, flat_map}
use Rattle.std.proofs.lemmas.List.Concat.{flat_map-cons}
use Rattle.reply_frame.specs.declared.replies.Reply.{Reply, Nothing}
use Rattle.reply_frame.specs.Replies.{reply_bytes}
use Rattle.history_frame.specs.declared.events.Happened.{Happened}
use Rattle.history_frame.specs.declared.events.Sent.{Sent}
use Rattle.history_frame.specs.declared.inputs.Input.{Input}
use Rattle.history_frame.specs.declared.inputs.Input.TheVariants.{Deliver, Call, Tick, Lead, Stop, Restart}
use Rattle.history_frame.specs.Spelling.{event_size, input_spelling, mark_byte, sent_spelling}
use Rattle.log_base.specs.Wide.{be2, be4}
use Rattle.node_model.specs.GathererRow.{names}
use Rattle.node_model.specs.Marks.{is_named}
use Rattle.gatherer_node.specs.Gatherer.{IsShort}

input_short : (input : Input) → is_named names input ≡ true → length (input_spelling input) ≤ 6
unfolding be4
input_short (Deliver place index message) named = omega arith
input_short (Call call) named = absurd cc
input_short Tick named = omega arith
input_short Lead named = omega arith
input_short Stop named = omega arith
input_short Restart named = omega arith

sent_short : (sent : Sent) → IsShort sent → length (sent_spelling sent) ≤ 30
unfolding be2 be4
sent_short sent is = omega (arith, is)

all_short : (sent : List Sent) → AllByRecursion IsShort sent → length (flat_map sent_spelling sent) ≤ 30 * length sent
all_short [] is = omega arith
all_short (one ∷ sent) is =
    rw flat_map-cons (omega (arith, length-append (sent_spelling one) (flat_map sent_spelling sent), sent_short one is.0, all_short sent is.1))

pub event_short : (happened : Happened) → is_named names happened.input ≡ true → length happened.outputs ≤ 56 → AllByRecursion IsShort happened.outputs
    → happened.reply ≡ Nothing → event_size happened ≤ 2097152
event_short happened named few each silent =
    let input = input_short happened.input named in
    let letters = all_short happened.outputs each in
    let reply = ap (λ (r : Reply). length (reply_bytes r)) silent in
    omega (
      arith,
      input,
      letters,
      reply,
      few,
      length-append (input_spelling happened.input) (mark_byte happened.mark ∷ (length happened.outputs ∷ (flat_map sent_spelling happened.outputs ++ reply_bytes happened.reply))),
      length-append (flat_map sent_spelling happened.outputs) (reply_bytes happened.reply),
    )
