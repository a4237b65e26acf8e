-- The replies of lanes, put in the order of items.
use Rattle.std.specs.Prelude.{◌≡◌, ◌⊎◌, ℕ, ◌+◌, ◌<◌, ◌==◌, List, [], length, map, slice_get, slice_index_or, take, Some, Result, Ok}
use Rattle.std.specs.List.{filter}
use Rattle.log_base.specs.declared.outside.Memory.{Memory}
use Rattle.reply_frame.specs.declared.replies.Reply.{Reply}

-- how many of the first so many items are of a lane, by the lanes of all items
abbrev pub count_before : List ℕ → ℕ → ℕ → ℕ
count_before lanes lane k = length (filter (λ (other : ℕ). other == lane) (take k lanes))

-- Each item has the reply that its lane's items before it leave next.
pub record AreInOrder (lanes : List ℕ) (lists : List (List Reply)) (replies : List Reply) : Type 0 where
  pub each : length replies ≡ length lanes
  pub at : (k lane : ℕ) → slice_get lanes k ≡ Some lane → slice_get replies k ≡ slice_get (slice_index_or lists lane []) (count_before lanes lane k)

-- Each of these lanes has as many replies as items.
pub record AreAnswered (lanes : List ℕ) (lists : List (List Reply)) : Type 0 where
  pub within : (k lane : ℕ) → slice_get lanes k ≡ Some lane → lane < length lists
  pub as_many : (lane : ℕ) → lane < length lists → length (slice_index_or lists lane []) ≡ count_before lanes lane (length lanes)

-- There are so many lanes: from 0 to the greatest that is named, if one is.
pub record AreLanes (lanes : List ℕ) (count : ℕ) : Type 0 where
  pub within : (k lane : ℕ) → slice_get lanes k ≡ Some lane → lane < count
  pub least : (count ≡ 0) ⊎ ((k : ℕ) × (lane : ℕ) × (slice_get lanes k ≡ Some lane) × (count ≡ lane + 1))

-- Each of these lanes answered, and where it did so with replies it has as many as items.
pub record HaveReplies (lanes : List ℕ) (answers : List (Result (List Reply) Memory)) : Type 0 where
  pub within : (k lane : ℕ) → slice_get lanes k ≡ Some lane → lane < length answers
  pub as_many : (lane : ℕ) (list : List Reply) → slice_get answers lane ≡ Some (Ok list) → length list ≡ count_before lanes lane (length lanes)

-- Each lane answered with replies, each worker came to its end, and these are the replies in the order of items.
pub record AreGathered (lanes : List ℕ) (answers : List (Result (List Reply) Memory)) (turned : List (Result (Unit {0}) Memory)) (replies : List Reply) : Type 0 where
  pub lists : List (List Reply)
  pub answers_are : answers ≡ map (λ (list : List Reply). Ok list) lists
  pub turned_well : (k : ℕ) (answer : Result (Unit {0}) Memory) → slice_get turned k ≡ Some answer → answer ≡ Ok tt
  pub in_order : AreInOrder lanes lists replies
