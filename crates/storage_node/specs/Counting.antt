-- What becomes of the counts of faults of a node's journals.
use Rattle.std.specs.Prelude.{◌≡◌, ℕ, ◌≤◌, List}
use Rattle.shard_replica.specs.Lists.{Medium, medium_at}

-- no count of faults falls, and whether what a journal keeps stays is the same
pub record CountsOn (old new : List Medium) : Type 0 where
  pub later : (k : ℕ) → (medium_at old k).faults ≤ (medium_at new k).faults
  pub keeps_synced : (k : ℕ) → (medium_at new k).keeps_synced ≡ (medium_at old k).keeps_synced
