-- Runs in which no disk fails.
use Rattle.std.specs.Prelude.{◌≡◌, ℕ, ◌<◌, List, true}
use Rattle.history_frame.specs.declared.events.Event.{Event}
use Rattle.log_base.specs.ClusterShape.{Shape}
use Rattle.node_table.specs.Numbering.{nodes_of}
use Rattle.shard_replica.specs.Lists.{Medium}
use Rattle.counted_node.specs.Causes.{AllKeep, NoneRose, failures, journals_at, media_at}

-- no event shows that a disk failed, where disks keep synced bytes
abbrev pub ShowsNone : Shape → List Event → Type 0
ShowsNone config events = (number : ℕ) → number < nodes_of config → failures true number events ≡ 0

-- The journals of each node keep synced bytes, and none of their counts rose or stands at its last value.
pub record AreUnfailing (config : Shape) (old new : List (List Medium)) : Type 0 where
  pub keep : (number : ℕ) → number < nodes_of config → AllKeep (media_at old number) (journals_at config number)
  pub none_rose : (number : ℕ) → number < nodes_of config → NoneRose (media_at old number) (media_at new number) (journals_at config number)
