-- The lists of entries of a cluster, by shard, replica and segment, and the values that cover no more than these.
use Rattle.std.specs.Prelude.{◌≡◌, ℕ, ◌<◌, ◌≤◌, List, length, Some, slice_get, slice_index}
use Rattle.log_base.specs.ClusterShape.{Shape}
use Rattle.log_model.specs.Lookup.{segment_index}
use Rattle.log_model.specs.Storage.{list_in, list_limit}
use Rattle.node_table.specs.Numbering.{storage_node}
use Rattle.record_frame.specs.declared.entries.Entry.{Entry}
use Rattle.record_frame.specs.declared.values.Value.{Value}
use Rattle.record_frame.specs.declared.values.Value.TheVariants.{Noop, Cut, Add, Finalise, Trim}
use Rattle.record_frame.specs.Entries.{IsEntry}
use Rattle.record_frame.specs.Values.{IsValue}
use Rattle.agreement_law.specs.Elements.{IsPrefix}
use Rattle.node_model.specs.Fits.{IsValueOf}
use Rattle.node_model.specs.NodeState.{NodeState}
use Rattle.node_model.specs.Sequence.{lists_of}

abbrev pub Lists : Type 0
Lists = (shard replica segment : ℕ) → List Entry

-- the durable lists of the storage nodes
abbrev pub lists_at : Shape → (ℕ → NodeState) → Lists
lists_at config state shard replica segment = list_in (lists_of (state (storage_node config shard replica))) segment

-- a segment of a replica of the cluster
pub record IsSegment (config : Shape) (shard replica segment : ℕ) : Type 0 where
  pub shard_below : shard < config.shards
  pub replica_below : replica < config.replicas
  pub segment_below : segment < config.replicas

-- A list is a prefix of its primary's, has entries of the formats, and not too many.
pub record IsCopied (lists : Lists) (shard replica segment : ℕ) : Type 0 where
  pub prefix : IsPrefix (lists shard replica segment) (lists shard segment segment)
  pub entries : (offset : ℕ) (entry : Entry) → slice_get (lists shard replica segment) offset ≡ Some entry → IsEntry entry
  pub few : length (lists shard replica segment) ≤ list_limit

abbrev pub AreCopies : Shape → Lists → Type 0
AreCopies config lists = (shard replica segment : ℕ) → IsSegment config shard replica segment → IsCopied lists shard replica segment

-- each length is held by every replica
abbrev pub IsHeldCut : Shape → Lists → List ℕ → Type 0
IsHeldCut config lists lengths = (shard replica segment : ℕ) → IsSegment config shard replica segment
    → slice_index lengths (segment_index config.replicas shard segment) ≤ length (lists shard replica segment)

abbrev pub IsHeldValue : Shape → Lists → Value → Type 0
IsHeldValue config lists Noop = Unit {0}
IsHeldValue config lists (Cut lengths) = IsHeldCut config lists lengths.length
IsHeldValue config lists (Add shard) = Unit {0}
IsHeldValue config lists (Finalise shard) = Unit {0}
IsHeldValue config lists (Trim position) = Unit {0}

-- A value of the formats and of the cluster, which covers no more than every replica holds.
pub record IsSafeValue (config : Shape) (lists : Lists) (value : Value) : Type 0 where
  pub range : IsValue value
  pub of_config : IsValueOf config value
  pub held : IsHeldValue config lists value

-- lists that grew at their ends
abbrev pub Grow : Shape → Lists → Lists → Type 0
Grow config lists now = (shard replica segment : ℕ) → IsSegment config shard replica segment
    → IsPrefix (lists shard replica segment) (now shard replica segment)
