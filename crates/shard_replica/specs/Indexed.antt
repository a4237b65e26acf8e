-- The lists of a replica, with an index of its own list.
use Rattle.std.specs.Prelude.{ℕ}
use Rattle.shard_replica.specs.Lists.{Listed, Segment, segment_at}

-- the number of the own list, and the lists
pub record Stored : Type 0 where
  pub own : ℕ
  pub lists : Listed

-- the own list
abbrev pub own_list : ℕ → Listed → Segment
own_list own lists = segment_at lists.segments own
