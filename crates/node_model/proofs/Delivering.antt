-- A letter is delivered exactly where its bytes are the spelling of the message.
use Rattle.std.proofs.Common.{◌≡◌, ℕ, Bool, true, false, cond, Some, None, refl}
use Rattle.std.proofs.lemmas.Bool.{cond-true}
use Rattle.history_frame.specs.declared.inputs.Input.TheVariants.{Deliver}
use Rattle.log_base.specs.Machines.{Letter}
use Rattle.message_frame.specs.declared.messages.Message.{Message}
use Rattle.message_frame.specs.Spelling.{IsMessage, message_spelling}
use Rattle.node_model.specs.Machine.{delivery}
use Rattle.node_model.specs.Ranges.{is_message}
use Rattle.node_model.proofs.Ranges.{message_is, message_passes}

pub delivered_is : (place index : ℕ) (message : Message) (letter : Letter) → delivery (Deliver place index (Some message)) ≡ Some letter
    → IsMessage message × ((place, (index, message_spelling message)) ≡ letter)
delivered_is place index message letter e = at (is_message message) refl e
  where
    at : (t : Bool) → is_message message ≡ t → cond t (Some (place, (index, message_spelling message))) None ≡ Some letter
        → IsMessage message × ((place, (index, message_spelling message)) ≡ letter)
    at true is e = (message_is message is, cc)
    at false is e = absurd (cc)

pub delivers : (place index : ℕ) (message : Message) → IsMessage message
    → delivery (Deliver place index (Some message)) ≡ Some (place, (index, message_spelling message))
delivers place index message is = cond-true (is_message message) (Some (place, (index, message_spelling message))) None (message_passes message is)
