-- What an acceptor does with its durable list when it is asked for a promise or for a vote.
use Rattle.std.specs.Prelude.{ℕ, List, ◌==◌, nat_lt, if◌then◌else◌, Option, Some, None}
use Rattle.message_frame.specs.declared.messages.Vote.{Vote}
use Rattle.record_frame.specs.declared.values.Value.{Value}
use Rattle.paxos_model.specs.Votes.{Payload, Promise, Voted, vote_of, promised, votes, has_vote, window_size, reports}

-- the answer to Prepare: a refusal with the greater promise, or the promise with the votes of the window
pub data Promised : Type 0 where
  Refused : (promise : ℕ) → Promised
  Granted : (put : Option Payload) (reported : List Vote) → Promised

-- A ballot below the promise is refused. A greater one is promised, which is put unless it is promised already.
unfoldable pub prepare : List Payload → ℕ → ℕ → Promised
prepare list ballot slot =
    let reported = reports ballot slot window_size (votes list) in
    if nat_lt ballot (promised list) then Refused (promised list)
    else if ballot == promised list then Granted None reported
    else Granted (Some (Promise ballot)) reported

-- the answer to Accept: a refusal with the greater promise, or the acceptance
pub data Accepted : Type 0 where
  TooLow : (promise : ℕ) → Accepted
  Taken : (put : Option Payload) → Accepted

-- A ballot below the promise is refused. Else the vote is put, unless there is one of this ballot for the slot.
unfoldable pub accept : List Payload → ℕ → ℕ → Value → Accepted
accept list ballot slot value =
    if nat_lt ballot (promised list) then TooLow (promised list)
    else if has_vote (votes list) ballot slot then Taken None
    else Taken (Some (Voted (vote_of ballot slot value)))
