-- Which lengths the kept lists cover.
use Rattle.std.specs.Prelude.{ℕ, ◌<◌, ◌≤◌, List, length, slice_index}
use Rattle.log_base.specs.ClusterShape.{Shape}
use Rattle.log_model.specs.Lookup.{segment_index}
use Rattle.node_model.specs.NodeState.{KeptLists}
use Rattle.node_model.specs.Sound.{segment_disk}

-- each replica of a shard holds so many entries of a segment
abbrev pub CoversSegment : Shape → KeptLists → ℕ → ℕ → ℕ → Type 0
CoversSegment config kept shard segment wanted =
    (replica : ℕ) → replica < config.replicas → wanted ≤ length (kept (segment_disk config shard replica segment))

-- each replica of a shard holds what a cut has of the shard's segments
abbrev pub CoversShard : Shape → KeptLists → ℕ → List ℕ → Type 0
CoversShard config kept shard lengths =
    (segment : ℕ) → segment < config.replicas → CoversSegment config kept shard segment (slice_index lengths (segment_index config.replicas shard segment))
