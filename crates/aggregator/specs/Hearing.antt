-- What a gatherer heard from the replicas of its shards, and the least of it.
use Rattle.std.specs.Prelude.{ℕ, ◌+◌, ◌*◌, ◌≤◌, max, min, List, [], ◌∷◌, Option, Some, None, take, drop, slice_index_or, slice_set, replicate}
use Rattle.record_frame.specs.declared.values.Lengths.{Lengths}

-- The number of the gatherer, how many replicas a shard has and how many shards there are, and what was
-- heard from each replica: that of replica r of shard s stands at s times the replicas of a shard, plus r.
pub record Hearing : Type 0 where
  pub index : ℕ
  pub replicas : ℕ
  pub shards : ℕ
  pub cells : List (Option Lengths)

-- at first nothing was heard from anyone
abbrev pub fresh : ℕ → ℕ → ℕ → Hearing
fresh index replicas shards = record { index = index; replicas = replicas; shards = shards; cells = replicate 32 None }

-- at each place the greater number, where a number that is missing counts as 0
abbrev pub greater_of : List ℕ → List ℕ → List ℕ
greater_of [] ys = ys
greater_of (x ∷ xs) [] = x ∷ xs
greater_of (x ∷ xs) (y ∷ ys) = max x y ∷ greater_of xs ys

-- at each place the lesser number, where a number that is missing counts as 0
abbrev pub lesser_of : List ℕ → List ℕ → List ℕ
lesser_of [] ys = []
lesser_of (x ∷ xs) [] = []
lesser_of (x ∷ xs) (y ∷ ys) = min x y ∷ lesser_of xs ys

-- What was heard from a replica once it says some lengths: these, and where it said some before, the greater
-- of each.
abbrev pub heard_after : Option Lengths → Lengths → Lengths
heard_after None said = said
heard_after (Some before) said = record { count = before.count; length = greater_of before.length said.length }

-- what was heard once a replica of a shard says some lengths
abbrev pub after_note : Hearing → ℕ → ℕ → Lengths → Hearing
after_note hearing shard replica said =
    let at = shard * hearing.replicas + replica in
    record hearing { cells = slice_set hearing.cells at (Some (heard_after (slice_index_or hearing.cells at None) said)) }

-- the least of some lengths and of those that further replicas said, if each of them said some
abbrev pub least_with : Lengths → List (Option Lengths) → Option Lengths
least_with least [] = Some least
least_with least (None ∷ cells) = None
least_with least (Some next ∷ cells) = least_with (record { count = least.count; length = lesser_of least.length next.length }) cells

-- the least of what some replicas said, if there are any and each of them said something
abbrev pub least_of_all : List (Option Lengths) → Option Lengths
least_of_all [] = None
least_of_all (None ∷ cells) = None
least_of_all (Some first ∷ cells) = least_with first cells

-- the least of what the replicas of a shard said, if each of them said something
abbrev pub least_in : Hearing → ℕ → Option Lengths
least_in hearing shard = least_of_all (take hearing.replicas (drop (shard * hearing.replicas) hearing.cells))

-- the fields of the reports: one or more replicas, and a cell for each
pub record IsHearing (replicas shards : ℕ) : Type 0 where
  pub some : 1 ≤ replicas
  pub few : replicas ≤ 5
  pub shard_count : shards ≤ 8
  pub fits : replicas * shards ≤ 32
