-- What the orderers have chosen: a value is chosen for a slot where a majority of their durable lists have a vote
-- of it in one ballot. The decided list is that of the chosen values up to the first slot without one.
use Rattle.std.specs.Prelude.{◌≡◌, ℕ, zero, suc, max, List, [], ◌∷◌, ◌++◌, Bool, true, ◌==◌, ◌&&◌, if◌then◌else◌, Option, Some, None}
use Rattle.std.specs.List.{list_any}
use Rattle.message_frame.specs.declared.messages.Vote.{Vote}
use Rattle.record_frame.specs.declared.values.Value.{Value}
use Rattle.paxos_model.specs.Majority.{is_majority}
use Rattle.paxos_model.specs.Values.{same_value}
use Rattle.paxos_model.specs.Votes.{Payload, is_for, votes}

-- whether it is this vote
abbrev pub is_vote : ℕ → ℕ → Value → Vote → Bool
is_vote ballot slot value vote = is_for ballot slot vote && same_value vote.value value

-- whether orderer i has this vote
abbrev pub voted_for : (ℕ → List Payload) → ℕ → ℕ → Value → ℕ → Bool
voted_for lists ballot slot value i = list_any (is_vote ballot slot value) (votes (lists i))

abbrev pub is_chosen_in : ℕ → (ℕ → List Payload) → ℕ → ℕ → Value → Bool
is_chosen_in orderers lists ballot slot value = is_majority orderers (voted_for lists ballot slot value)

abbrev pub IsChosen : ℕ → (ℕ → List Payload) → ℕ → Value → Type 0
IsChosen orderers lists slot value = (ballot : ℕ) × (is_chosen_in orderers lists ballot slot value ≡ true)

-- all votes of so many orderers
abbrev pub all_votes : ℕ → (ℕ → List Payload) → List Vote
all_votes zero lists = []
all_votes (suc n) lists = all_votes n lists ++ votes (lists n)

-- the first of some votes that shows a chosen value of the slot
abbrev pub shows_chosen : ℕ → (ℕ → List Payload) → ℕ → Vote → Bool
shows_chosen orderers lists slot vote = (vote.slot.0 == slot) && is_chosen_in orderers lists vote.ballot.0 slot vote.value

abbrev pub first_chosen : ℕ → (ℕ → List Payload) → ℕ → List Vote → Option Value
first_chosen orderers lists slot [] = None
first_chosen orderers lists slot (vote ∷ votes) =
    if shows_chosen orderers lists slot vote then Some vote.value else first_chosen orderers lists slot votes

-- the chosen value of a slot
unfoldable pub chosen_value : ℕ → (ℕ → List Payload) → ℕ → Option Value
chosen_value orderers lists slot = first_chosen orderers lists slot (all_votes orderers lists)

-- the greatest slot with a vote
abbrev pub last_slot : List Vote → ℕ
last_slot [] = 0
last_slot (vote ∷ votes) = max vote.slot.0 (last_slot votes)

-- the chosen values of so many slots from one on, up to the first slot without one
abbrev pub chosen_or_end : Option Value → List Value → List Value
chosen_or_end None rest = []
chosen_or_end (Some value) rest = value ∷ rest

abbrev pub chosen_from : (ℕ → Option Value) → ℕ → ℕ → List Value
chosen_from chosen slot zero = []
chosen_from chosen slot (suc count) = chosen_or_end (chosen slot) (chosen_from chosen (suc slot) count)

unfoldable pub decided : ℕ → (ℕ → List Payload) → List Value
decided orderers lists = chosen_from (chosen_value orderers lists) 0 (suc (last_slot (all_votes orderers lists)))
