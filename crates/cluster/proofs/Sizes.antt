-- How many bytes the parts of an event have.
use Rattle.std.proofs.Common.{◌≡◌, ◌≤◌, ◌<◌, ℕ, ◌+◌, List, [], ◌∷◌, ◌++◌, drop, length, map, length-append, refl, ap, ◌∙◌, arith}
use Rattle.std.proofs.lemmas.List.{at_drop_more}
use Rattle.std.specs.List.{flat_map}
use Rattle.log_base.specs.Outgoing.{letter_at}
use Rattle.log_base.specs.Wide.{be2, be4, be8}
use Rattle.counted_node.specs.Counted.{CountedState}
use Rattle.history_frame.specs.declared.events.Happened.{Happened}
use Rattle.history_frame.specs.declared.events.Sent.{Sent}
use Rattle.history_frame.specs.declared.inputs.Input.{Input}
use Rattle.history_frame.specs.declared.inputs.Input.TheVariants.{Deliver, Call as ACall, Tick, Lead, Stop, Restart}
use Rattle.history_frame.specs.declared.inputs.Mark.TheVariants.{Done}
use Rattle.history_frame.specs.Spelling.{IsHappened, IsInput, event_size, input_spelling, mark_byte, sent_spelling}
use Rattle.history_frame.proofs.Sizes.{call_short}
use Rattle.message_frame.specs.Spelling.{message_spelling}
use Rattle.node_model.specs.Machine.{posted}
use Rattle.record_frame.specs.declared.entries.Entry.{Entry}
use Rattle.reply_frame.specs.declared.replies.Reply.{Reply, Found, Nothing, Stream'}
use Rattle.reply_frame.specs.Replies.{IsReply, reply_bytes}
use Rattle.schedule_model.specs.Streams.{IsSingle}
use Rattle.schedule_model.proofs.Singles.{row_reply}
use Rattle.cluster.specs.Sizing.{letters_size}
use Rattle.cluster.specs.Stepping.{Acts}

pub input_short : (input : Input) → IsInput input → length (input_spelling input) ≤ 65551
unfolding be4
input_short (Deliver place index message) is = omega arith
input_short (ACall call) is = omega (arith, call_short call is)
input_short Tick is = omega arith
input_short Lead is = omega arith
input_short Stop is = omega arith
input_short Restart is = omega arith

-- letters are measured in the outbox
pub letters_are : (outputs : List Sent) → letters_size (map posted outputs) ≡ length (flat_map sent_spelling outputs)
unfolding be2 be4
letters_are [] = refl
letters_are (sent ∷ outputs) =
    let all = length-append (message_spelling sent.message) (flat_map sent_spelling outputs) in let rest = letters_are outputs in omega arith

-- the letters from a place on
pub letters_from : (letters : List (ℕ × List ℕ)) (i : ℕ) → i < length letters
    → letters_size (drop i letters) ≡ 6 + length (letter_at i letters).1 + letters_size (drop (i + 1) letters)
letters_from letters i below = at_drop_more letters_size letters i (0, []) below

pub found_size : (position : _) (entry : Entry) → length (reply_bytes (Found position entry)) ≡ 23 + length entry.bytes
unfolding be2 be4 be8
found_size position entry = omega arith

pub other_reply : (reply : Reply) → ((position : _) (entry : Entry) → reply ≡ Found position entry → ⊥) → IsSingle reply → IsReply reply
other_reply (Found position entry) other single = absurd (other position entry refl)
other_reply (Stream' from entries at last) other single = absurd single
other_reply _ other single = tt

-- the parts of an event together
pub event_parts : (happened : Happened)
    → event_size happened ≡ 9 + length (input_spelling happened.input) + (length (flat_map sent_spelling happened.outputs) + length (reply_bytes happened.reply))
event_parts happened =
    let behind = flat_map sent_spelling happened.outputs ++ reply_bytes happened.reply in
    let all = length-append (input_spelling happened.input) (mark_byte happened.mark ∷ (length happened.outputs ∷ behind)) in
    let last = length-append (flat_map sent_spelling happened.outputs) (reply_bytes happened.reply) in
    omega arith

-- an event with this input and no letters
abbrev pub alone : Input → Happened
alone input = record { input = input; mark = Done; outputs = []; reply = Nothing }

pub alone_size : (input : Input) → event_size (alone input) ≡ 10 + length (input_spelling input)
alone_size input = let parts = event_parts (alone input) in omega arith

pub alone_is : (input : Input) → IsInput input → IsHappened (alone input)
alone_is input is = record { input = is; few = omega arith; outputs = tt; reply = tt; size = omega (arith, alone_size input, input_short input is) }

-- the parts of what a node did, and that it answers with no stream
pub acts_single : (old new : CountedState) (input : Input) (happened : Happened) (letters : List (ℕ × List ℕ)) → Acts old new input happened letters → IsSingle happened.reply
acts_single old new input happened letters acts = row_reply old.node.config old.node.number old.node.state happened acts.row

pub acts_parts : (old new : CountedState) (input : Input) (happened : Happened) (letters : List (ℕ × List ℕ)) → Acts old new input happened letters
    → event_size happened ≡ 9 + length (input_spelling input) + (letters_size letters + length (reply_bytes happened.reply))
acts_parts old new input happened letters acts =
    let out : letters_size letters ≡ length (flat_map sent_spelling happened.outputs) = ap letters_size acts.letters_are ∙ letters_are happened.outputs in
    let front : length (input_spelling happened.input) ≡ length (input_spelling input) = ap (λ (x : Input). length (input_spelling x)) acts.input_is in
    let parts = event_parts happened in omega arith

pub acts_small : (old new : CountedState) (input : Input) (happened : Happened) (letters : List (ℕ × List ℕ)) → Acts old new input happened letters
    → 9 + length (input_spelling input) + (letters_size letters + length (reply_bytes happened.reply)) ≤ 2097152
acts_small old new input happened letters acts = let parts = acts_parts old new input happened letters acts in let size : event_size happened ≤ 2097152 = acts.size in omega arith
