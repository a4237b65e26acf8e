-- What an orderer's durable list says: the promises that it made and the votes that it cast.
use Rattle.std.specs.Prelude.{ℕ, zero, suc, max, List, [], ◌∷◌, Bool, ◌==◌, ◌&&◌, nat_lt, if◌then◌else◌, Option, Some, None}
use Rattle.std.specs.List.{list_any}
use Rattle.message_frame.specs.declared.messages.Vote.{Vote}
use Rattle.record_frame.specs.declared.values.Value.{Value}

-- what an orderer puts into its list: that it takes no ballot below this one any more, or that it accepted a
-- value for a slot in a ballot
pub data Payload : Type 0 where
  Promise : (ballot : ℕ) → Payload
  Voted : (vote : Vote) → Payload

-- the vote of a value for a slot in a ballot
abbrev pub vote_of : ℕ → ℕ → Value → Vote
vote_of ballot slot value = record { slot = record { 0 = slot }; ballot = record { 0 = ballot }; value = value }

-- the greatest ballot in a list, 0 where there is none
abbrev pub promised : List Payload → ℕ
promised [] = 0
promised (Promise ballot ∷ list) = max ballot (promised list)
promised (Voted vote ∷ list) = max vote.ballot.0 (promised list)

-- the votes of a list, in their order
abbrev pub votes : List Payload → List Vote
votes [] = []
votes (Promise ballot ∷ list) = votes list
votes (Voted vote ∷ list) = vote ∷ votes list

-- whether it is a vote for this slot in this ballot
abbrev pub is_for : ℕ → ℕ → Vote → Bool
is_for ballot slot vote = (vote.ballot.0 == ballot) && (vote.slot.0 == slot)

abbrev pub has_vote : List Vote → ℕ → ℕ → Bool
has_vote votes ballot slot = list_any (is_for ballot slot) votes

-- of two votes, that of the greater ballot, and the old one where the ballots are equal
abbrev pub greater : Vote → Vote → Vote
greater old new = if nat_lt old.ballot.0 new.ballot.0 then new else old

abbrev pub keep : Option Vote → Option Vote → Option Vote
keep None new = new
keep (Some old) None = Some old
keep (Some old) (Some new) = Some (greater old new)

-- of the votes that pass a test the one of the greatest ballot, the first such
abbrev pub greatest : (Vote → Bool) → List Vote → Option Vote
greatest test [] = None
greatest test (vote ∷ votes) = keep (if test vote then Some vote else None) (greatest test votes)

-- how many slots a window has
abbrev pub window_size : ℕ
window_size = 64

-- whether a vote is for a slot, and of a ballot below one
abbrev pub counts : ℕ → ℕ → Vote → Bool
counts ballot slot vote = nat_lt vote.ballot.0 ballot && (vote.slot.0 == slot)

abbrev pub put_first : Option Vote → List Vote → List Vote
put_first None votes = votes
put_first (Some vote) votes = vote ∷ votes

-- for each of so many slots from one on, the vote of the greatest ballot below one
unfoldable pub reports : ℕ → ℕ → ℕ → List Vote → List Vote
reports ballot slot zero votes = []
reports ballot slot (suc count) votes = put_first (greatest (counts ballot slot) votes) (reports ballot (suc slot) count votes)
