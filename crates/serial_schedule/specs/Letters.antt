-- What letters are made of.
use Rattle.std.specs.Prelude.{List, ℕ, Result, Ok, Err}
use Rattle.record_frame.specs.declared.refusals.Refusal.{Refusal}
use Rattle.message_frame.specs.declared.messages.Message.{Message}
use Rattle.message_frame.specs.declared.messages.Message.TheVariants.{Want}
use Rattle.message_frame.specs.Reading.{message_of}

-- the message that was read; another one stands for none
abbrev pub message_read : Result Message Refusal → Message
message_read (Ok message) = message
message_read (Err refusal) = Want (record { 0 = 0 }) (record { 0 = 0 })

-- the message that bytes spell
abbrev pub message_in : List ℕ → Message
message_in bytes = message_read (message_of bytes)

-- bytes spell a message
abbrev pub AreRead : Result Message Refusal → Type 0
AreRead (Ok message) = Unit {0}
AreRead (Err refusal) = ⊥
