-- What a leader does: it collects promises for a window of slots, picks the value of a slot so that no vote of
-- a lower ballot is overruled, proposes it, and counts the acceptances.
use Rattle.std.specs.Prelude.{ℕ, suc, ◌+◌, ◌-◌, ◌*◌, ◌/◌, List, [], ◌∷◌, drop, Bool, true, false, ◌==◌, ◌&&◌, nat_le, if◌then◌else◌, Option, Some, None, is_some, slice_index_or, replicate}
use Rattle.std.specs.List.{list_any}
use Rattle.message_frame.specs.declared.messages.Vote.{Vote}
use Rattle.record_frame.specs.declared.values.Value.{Value}
use Rattle.record_frame.specs.declared.values.Value.TheVariants.{Noop}
use Rattle.paxos_model.specs.Majority.{marked, most, no_marks}
use Rattle.paxos_model.specs.Votes.{keep, greatest, window_size}

-- a proposal that waits for its majority
pub record Pending : Type 0 where
  pub slot : ℕ
  pub value : Value
  pub accepted : List Bool

-- a leader: its ballot, the first slot of its window, who has promised, the best reported vote of each slot of
-- the window, and the proposal that waits
pub record Leader : Type 0 where
  pub ballot : ℕ
  pub window : ℕ
  pub answered : List Bool
  pub best : List (Option Vote)
  pub pending : Option Pending

-- a window without reported votes
unfoldable pub no_votes : List (Option Vote)
no_votes = replicate window_size None

-- a leader with a window from a slot on, of which it has heard nothing
abbrev pub leader_from : ℕ → ℕ → Leader
leader_from ballot slot = record { ballot = ballot; window = slot; answered = no_marks; best = no_votes; pending = None }

-- The least ballot of an orderer above a number. Its ballots are i + n, i + 2 n and so on, of n orderers.
abbrev pub ballot_above : ℕ → ℕ → ℕ → ℕ
ballot_above orderers orderer number = ((number - orderer) / orderers + 1) * orderers + orderer

-- each slot of a window keeps the vote of the greater ballot, the old one where they are equal
abbrev pub is_of_slot : ℕ → Vote → Bool
is_of_slot slot vote = vote.slot.0 == slot

unfoldable pub merge : ℕ → List (Option Vote) → List Vote → List (Option Vote)
merge slot [] votes = []
merge slot (best ∷ rest) votes = keep best (greatest (is_of_slot slot) votes) ∷ merge (suc slot) rest votes

-- whether it leads with this ballot and this window
abbrev pub awaits_promise : Leader → ℕ → ℕ → Bool
awaits_promise leader ballot slot = (leader.ballot == ballot) && (leader.window == slot)

-- an orderer has promised, with these votes
abbrev pub with_promise : Leader → ℕ → List Vote → Leader
with_promise leader who votes = record leader { answered = marked leader.answered who; best = merge leader.window leader.best votes }

-- an orderer has accepted the proposal
abbrev pub with_acceptance : Pending → ℕ → Pending
with_acceptance pending who = record pending { accepted = marked pending.accepted who }

-- the value that a vote, or none, binds the leader to
abbrev pub bound_value : Option Vote → Bool → Option Value → Option Value
bound_value (Some vote) later wish = Some vote.value
bound_value None true wish = Some Noop
bound_value None false wish = wish

-- The value to propose in the slot at a place of the window: that of the best vote there, else Noop where a later
-- slot of the window has a vote, else the wish.
abbrev pub picked : List (Option Vote) → ℕ → Option Value → Option Value
picked best place wish = bound_value (slice_index_or best place None) (list_any is_some (drop (suc place) best)) wish

-- what a leader sends next
pub data Next : Type 0 where
  Propose : (slot : ℕ) (value : Value) → Next
  Window : (slot : ℕ) → Next
  Nothing : Next

pub record Advanced : Type 0 where
  pub leader : Leader
  pub next : Next

-- how many slots there are
abbrev pub slot_limit : ℕ
slot_limit = 16384

abbrev pub propose : Leader → ℕ → Option Value → Advanced
propose leader known None = record { leader = leader; next = Nothing }
propose leader known (Some value) = record {
  leader = record leader { pending = Some (record { slot = known; value = value; accepted = no_marks }) };
  next = Propose known value;
}

-- a leader with a majority of promises and no proposal: past its window it asks for a new one, else it proposes
abbrev pub next_of : Leader → ℕ → Option Value → Advanced
next_of leader known wish =
    if nat_le slot_limit known then record { leader = leader; next = Nothing }
    else if nat_le (leader.window + window_size) known
    then record { leader = leader_from leader.ballot known; next = Window known }
    else propose leader known (picked leader.best (known - leader.window) wish)

abbrev pub next_unless : Option Pending → Leader → ℕ → Option Value → Advanced
next_unless (Some pending) leader known wish = record { leader = leader; next = Nothing }
next_unless None leader known wish = next_of leader known wish

-- What a leader of so many orderers does next, where so many values are known and it would like a value: nothing
-- without a majority of promises or while a proposal waits.
unfoldable pub advance : ℕ → Leader → ℕ → Option Value → Advanced
advance orderers leader known wish =
    if most orderers leader.answered then next_unless leader.pending leader known wish
    else record { leader = leader; next = Nothing }

-- a pending proposal of the slot is dropped
abbrev pub drop_pending : Option Pending → ℕ → Option Pending
drop_pending None slot = None
drop_pending (Some pending) slot = if pending.slot == slot then None else Some pending

abbrev pub without_slot : Leader → ℕ → Leader
without_slot leader slot = record leader { pending = drop_pending leader.pending slot }
