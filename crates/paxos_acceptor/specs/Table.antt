-- What an acceptor keeps of its list, so that its answers take no look through the list: the promise, and of each slot
-- the first vote of the greatest ballot and the first one of the greatest ballot below that. A ballot below the promise
-- is refused, so no more is asked for.
use Rattle.std.specs.Prelude.{◌≡◌, ℕ, ◌≤◌, List, Option, Some, None, slice_index_or}
use Rattle.message_frame.specs.declared.messages.Vote.{Vote}
use Rattle.paxos_model.specs.Leader.{is_of_slot}
use Rattle.paxos_model.specs.Votes.{Payload, promised, votes, greatest, counts}
use Rattle.paxos_acceptor.specs.declared.rows.Row.{Row}

abbrev pub no_row : Row
no_row = record { last = None; earlier = None }

abbrev pub row_at : List Row → ℕ → Row
row_at rows slot = slice_index_or rows slot no_row

-- the vote of the greatest ballot below that of a vote
abbrev pub before : Option Vote → ℕ → List Vote → Option Vote
before None slot votes = None
before (Some vote) slot votes = greatest (counts vote.ballot.0 slot) votes

-- the row says this of the slot's votes in a list
pub record IsRow (slot : ℕ) (row : Row) (votes : List Vote) : Type 0 where
  pub last : row.last ≡ greatest (is_of_slot slot) votes
  pub earlier : row.earlier ≡ before row.last slot votes

-- no vote, or one of at most this ballot
abbrev pub IsUpTo : ℕ → Option Vote → Type 0
IsUpTo ballot None = Unit {0}
IsUpTo ballot (Some vote) = vote.ballot.0 ≤ ballot

pub record Table : Type 0 where
  pub promise : ℕ
  pub rows : List Row

-- the table says this of a list
pub record Tables (table : Table) (list : List Payload) : Type 0 where
  pub promise : table.promise ≡ promised list
  pub rows : (slot : ℕ) → IsRow slot (row_at table.rows slot) (votes list)
