-- The list of an acceptor, from the payloads of its journal.
use Rattle.std.specs.Prelude.{ℕ, suc, ◌≤◌, List, [], ◌∷◌, is_some, if◌then◌else◌, Option, Some, None, Result, Ok, Err, Bool, true, false}
use Rattle.record_frame.specs.declared.refusals.Refusal.{Refusal}
use Rattle.segment_journal.specs.Journalled.{Journalled, with_payload, with_flight}
use Rattle.paxos_model.specs.Payloads.{payload_spelling, payload_of, payloads_in}
use Rattle.paxos_model.specs.Votes.{Payload, Promise, Voted}
use Rattle.paxos_acceptor.specs.declared.payloads.Entry.{Entry}
use Rattle.paxos_acceptor.specs.declared.payloads.Entry.TheVariants.{Promise as PromiseOf, Vote as VoteOf}

-- a promise or a vote, as the code has it
abbrev pub payload_so : Entry → Payload
payload_so (PromiseOf ballot) = Promise ballot.0
payload_so (VoteOf vote) = Voted vote

-- what was read, and the place behind it
abbrev pub read_so : Result (Entry × ℕ) Refusal → Result (Payload × ℕ) Refusal
read_so (Ok found) = Ok (payload_so found.0, found.1)
read_so (Err refusal) = Err refusal

-- its slot is one of the log's
abbrev pub HasSlot : Entry → Type 0
HasSlot (PromiseOf ballot) = Unit {0}
HasSlot (VoteOf vote) = vote.slot.0 ≤ 16383

-- the promises and votes of a journal
abbrev pub list_of : Journalled → List Payload
list_of journal = payloads_in journal.payloads

-- the first of the payloads that is no promise or vote; the list begins with the offset `at`
abbrev pub bad_from : ℕ → List (List ℕ) → Option ℕ
bad_from at [] = None
bad_from at (payload ∷ rest) = if is_some (payload_of payload) then bad_from (suc at) rest else Some at

-- the offset of the first payload of a journal that is no promise or vote
abbrev pub bad_offset : Journalled → Option ℕ
bad_offset journal = bad_from journal.first journal.payloads

-- the journal after the put of a promise or vote, if there is one, which failed or not
abbrev pub after_put : Journalled → Option Payload → Bool → Journalled
after_put journal None failed = journal
after_put journal (Some payload) false = with_payload journal (payload_spelling payload)
after_put journal (Some payload) true = with_flight journal (payload_spelling payload)
