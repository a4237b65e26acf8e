-- Which messages have a spelling, and the one spelling of each.
use Rattle.std.specs.Prelude.{ℕ, ◌+◌, ◌<◌, ◌≤◌, ◌^◌, List, [], ◌∷◌, ◌++◌, length}
use Rattle.std.specs.List.{flat_map, AllByRecursion}
use Rattle.log_base.specs.Wide.{be2, be4, be8}
use Rattle.record_frame.specs.Entries.{IsEntry, entry_spelling}
use Rattle.record_frame.specs.Values.{IsLengths, IsValue, lengths_spelling, value_spelling}
use Rattle.message_frame.specs.declared.messages.Message.{Message}
use Rattle.message_frame.specs.declared.messages.Message.TheVariants.{Copy, CopyAck, Report, Least, Prepare, Promised, Lower, Accept, Accepted, Decide, Want}
use Rattle.message_frame.specs.declared.messages.Vote.{Vote}

abbrev pub IsBallot : ℕ → Type 0
IsBallot ballot = (1 ≤ ballot) × (ballot < 2 ^ 56)

-- a vote of the window of 64 slots from one on
pub record IsVote (first : ℕ) (vote : Vote) : Type 0 where
  pub start : first ≤ vote.slot.0
  pub window : vote.slot.0 ≤ first + 63
  pub slot : vote.slot.0 ≤ 16383
  pub ballot : IsBallot vote.ballot.0
  pub value : IsValue vote.value

-- the value of a vote is in range
abbrev pub HasValue : Vote → Type 0
HasValue vote = IsValue vote.value

-- the slots of votes rise strictly, from this one on
abbrev pub Rise : ℕ → List Vote → Type 0
Rise least [] = Unit {0}
Rise least (vote ∷ votes) = (least ≤ vote.slot.0) × Rise (vote.slot.0 + 1) votes

-- at most 64 votes of the window from a slot on, whose slots rise strictly
pub record AreVotes (first : ℕ) (votes : List Vote) : Type 0 where
  pub few : length votes ≤ 64
  pub each : AllByRecursion (IsVote first) votes
  pub rise : Rise first votes

-- the numbers of a message are in range
abbrev pub IsMessage : Message → Type 0
IsMessage (Copy segment offset entry) = (segment.0 ≤ 4) × (offset ≤ 16383) × IsEntry entry
IsMessage (CopyAck peer size) = (peer.0 ≤ 4) × (size ≤ 16384)
IsMessage (Report shard replica lengths) = (shard.0 ≤ 7) × (replica.0 ≤ 4) × IsLengths 5 lengths
IsMessage (Least shard lengths) = (shard.0 ≤ 7) × IsLengths 5 lengths
IsMessage (Prepare ballot start) = IsBallot ballot.0 × (start.0 ≤ 16384)
IsMessage (Promised ballot start who votes) = IsBallot ballot.0 × (start.0 ≤ 16384) × (who ≤ 6) × AreVotes start.0 votes
IsMessage (Lower ballot promised) = IsBallot ballot.0 × IsBallot promised.0
IsMessage (Accept ballot slot value) = IsBallot ballot.0 × (slot.0 ≤ 16383) × IsValue value
IsMessage (Accepted ballot slot who) = IsBallot ballot.0 × (slot.0 ≤ 16383) × (who ≤ 6)
IsMessage (Decide slot value) = (slot.0 ≤ 16383) × IsValue value
IsMessage (Want start node) = (start.0 ≤ 16384) × (node.0 ≤ 42)

abbrev pub vote_spelling : Vote → List ℕ
vote_spelling vote = be4 vote.slot.0 ++ (be8 vote.ballot.0 ++ value_spelling vote.value)

-- a count, and that many votes
abbrev pub votes_spelling : List Vote → List ℕ
votes_spelling votes = length votes ∷ flat_map vote_spelling votes

-- the one spelling of a message
abbrev pub message_spelling : Message → List ℕ
message_spelling (Copy segment offset entry) = 1 ∷ (segment.0 ∷ (be4 offset ++ entry_spelling entry))
message_spelling (CopyAck peer size) = 2 ∷ (peer.0 ∷ be4 size)
message_spelling (Report shard replica lengths) = 3 ∷ (be2 shard.0 ++ (replica.0 ∷ lengths_spelling lengths))
message_spelling (Least shard lengths) = 4 ∷ (be2 shard.0 ++ lengths_spelling lengths)
message_spelling (Prepare ballot start) = 5 ∷ (be8 ballot.0 ++ be4 start.0)
message_spelling (Promised ballot start who votes) = 6 ∷ (be8 ballot.0 ++ (be4 start.0 ++ (who ∷ votes_spelling votes)))
message_spelling (Lower ballot promised) = 7 ∷ (be8 ballot.0 ++ be8 promised.0)
message_spelling (Accept ballot slot value) = 8 ∷ (be8 ballot.0 ++ (be4 slot.0 ++ value_spelling value))
message_spelling (Accepted ballot slot who) = 9 ∷ (be8 ballot.0 ++ (be4 slot.0 ++ (who ∷ [])))
message_spelling (Decide slot value) = 10 ∷ (be4 slot.0 ++ value_spelling value)
message_spelling (Want start node) = 11 ∷ (be4 start.0 ++ be2 node.0)
