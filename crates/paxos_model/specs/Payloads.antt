-- How a payload of an orderer's list is spelled, and which payload bytes spell.
use Rattle.std.specs.Prelude.{◌≡◌, ℕ, ◌≤◌, List, ◌∷◌, ◌++◌, map, length, ◌==◌, if◌then◌else◌, Option, Some, None, Result, Ok, Err}
use Rattle.log_base.specs.Wide.{be4, be8}
use Rattle.message_frame.specs.Reading.{ballot_at, slot_at}
use Rattle.message_frame.specs.Spelling.{IsBallot}
use Rattle.record_frame.specs.declared.refusals.Refusal.{Refusal}
use Rattle.record_frame.specs.declared.refusals.Refusal.TheVariants.{BadKind}
use Rattle.record_frame.specs.Fields.{◌>>=◌, u8_at}
use Rattle.record_frame.specs.Values.{IsValue, value_spelling, value_at}
use Rattle.paxos_model.specs.Votes.{Payload, Promise, Voted}

-- the numbers of a payload are in range
abbrev pub IsPayload : Payload → Type 0
IsPayload (Promise ballot) = IsBallot ballot
IsPayload (Voted vote) = IsBallot vote.ballot.0 × (vote.slot.0 ≤ 16383) × IsValue vote.value

-- the one spelling of a payload
abbrev pub payload_spelling : Payload → List ℕ
payload_spelling (Promise ballot) = 2 ∷ be8 ballot
payload_spelling (Voted vote) = 3 ∷ (be8 vote.ballot.0 ++ (be4 vote.slot.0 ++ value_spelling vote.value))

-- how long a spelling can be
abbrev pub payload_limit : ℕ
payload_limit = 143

-- the ballot of a promise at a place
unfoldable pub promise_at : List ℕ → ℕ → Result (Payload × ℕ) Refusal
promise_at bytes at = do
  ballot ← ballot_at bytes at
  Ok (Promise ballot.0.0, ballot.1)

-- the ballot, the slot and the value of a vote at a place
unfoldable pub voted_at : List ℕ → ℕ → Result (Payload × ℕ) Refusal
voted_at bytes at = do
  ballot ← ballot_at bytes at
  slot ← slot_at 0 16383 bytes ballot.1
  value ← value_at bytes slot.1
  Ok (Voted (record { slot = slot.0; ballot = ballot.0; value = value.0 }), value.1)

-- the fields of a payload of some kind
unfoldable pub payload_fields_at : ℕ → List ℕ → ℕ → Result (Payload × ℕ) Refusal
payload_fields_at kind bytes at =
    if kind == 2 then promise_at bytes at
    else if kind == 3 then voted_at bytes at
    else Err (BadKind kind)

-- the payload at a place
unfoldable pub payload_at : List ℕ → ℕ → Result (Payload × ℕ) Refusal
payload_at bytes at = do
  kind ← u8_at bytes at
  payload_fields_at kind.0 bytes kind.1

-- what was read, if it ends here
abbrev pub ends_at : ℕ → Result (Payload × ℕ) Refusal → Option Payload
ends_at end (Ok found) = if found.1 == end then Some found.0 else None
ends_at end (Err refusal) = None

-- the payload that all of the bytes spell
unfoldable pub payload_of : List ℕ → Option Payload
payload_of bytes = ends_at (length bytes) (payload_at bytes 0)

-- the payload that was read; bytes that spell none, which no acceptor puts, promise nothing
abbrev pub payload_found : Option Payload → Payload
payload_found None = Promise 0
payload_found (Some payload) = payload

unfoldable pub payload_in : List ℕ → Payload
payload_in bytes = payload_found (payload_of bytes)

-- the promises and votes that bytes of a list spell
abbrev pub payloads_in : List (List ℕ) → List Payload
payloads_in payloads = map payload_in payloads

-- the bytes are the spelling of a promise or a vote
pub record IsSpelled (bytes : List ℕ) : Type 0 where
  pub payload : IsPayload (payload_in bytes)
  pub spelling : bytes ≡ payload_spelling (payload_in bytes)
