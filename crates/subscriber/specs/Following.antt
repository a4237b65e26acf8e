-- What a subscriber has taken: the entries of the positions from one on, with none left out.
use Rattle.std.specs.Prelude.{◌≡◌, ℕ, ◌+◌, ◌≤◌, ◌^◌, ◌==◌, ◌⊎◌, if◌then◌else◌, List, [], ◌∷◌, ◌++◌, length}
use Rattle.record_frame.specs.declared.entries.Entry.{Entry}
use Rattle.subscriber.specs.declared.follower.Offered.{Offered}
use Rattle.subscriber.specs.declared.follower.Offered.TheVariants.{Taken, NotNext}

-- a subscriber: its first position, and the entries that it took from there on
pub record Following : Type 0 where
  pub from : ℕ
  pub delivered : List Entry

-- nothing is taken yet
abbrev pub following_from : ℕ → Following
following_from from = record { from = from; delivered = [] }

-- the position of the entry that is taken next
abbrev pub next_of : Following → ℕ
next_of following = following.from + length following.delivered

-- An entry that is offered is taken where its position is the next.
abbrev pub answer_to : Following → ℕ → Offered
answer_to following position =
    if position == next_of following then Taken else NotNext (record { 0 = next_of following })

-- An entry that is taken is delivered after those before it. Nothing else changes.
abbrev pub after_offer : Following → ℕ → Entry → Following
after_offer following position entry =
    if position == next_of following then record following { delivered = following.delivered ++ entry ∷ [] }
    else following

-- entries are offered with their positions, one after another
abbrev pub after_offers : Following → List (ℕ × Entry) → Following
after_offers following [] = following
after_offers following (offer ∷ offers) = after_offers (after_offer following offer.0 offer.1) offers

-- the fields of a subscriber: nothing is taken yet, or the next position is at most 2^31
pub record IsFollowing (from : ℕ) (delivered : List Entry) : Type 0 where
  pub within : (delivered ≡ []) ⊎ (from + length delivered ≤ 2 ^ 31)
