-- The letters of one event, and the room for further ones.
use Rattle.std.specs.Prelude.{ℕ, ◌≤◌, List, length}
use Rattle.std.specs.List.{AllByRecursion}
use Rattle.history_frame.specs.declared.events.Sent.{Sent}
use Rattle.log_base.specs.Outgoing.{HasRooms}
use Rattle.message_frame.specs.declared.messages.Message.{Message}
use Rattle.message_frame.specs.Spelling.{message_spelling}

-- The letters sent so far, how many more there is room for, and how many bytes the longest of these may have.
pub record EventLetters : Type 0 where
  pub sent : List Sent
  pub room : ℕ
  pub longest : ℕ

-- a letter
abbrev pub letter : ℕ → Message → Sent
letter node message = record { to = record { 0 = node }; message = message }

-- how many bytes a message has
abbrev pub message_length : Message → ℕ
message_length message = length (message_spelling message)

-- a letter as it stands in an outbox
abbrev pub parcel : Sent → ℕ × List ℕ
parcel sent = (sent.to.0, message_spelling sent.message)

-- There is room for letters of so many bytes each, one after another, here and in the spare buffers of an outbox.
pub record HasSpace (letters : EventLetters) (rooms sizes : List ℕ) : Type 0 where
  pub many : length sizes ≤ letters.room
  pub each : AllByRecursion (λ size. size ≤ letters.longest) sizes
  pub spares : HasRooms sizes rooms
