-- The lanes of a cluster's items are below 64.
use Rattle.std.proofs.Common.{◌≡◌, ◌<◌, ℕ, List, slice_get, Some, subst}
use Rattle.command_frame.specs.Items.{IsItem}
use Rattle.command_frame.specs.declared.items.Item.{Item}
use Rattle.command_frame.specs.declared.items.Item.TheVariants.{Append, Read, Subscribe, Trim, Add, Finalise, Ask, Fault}
use Rattle.lane_work.specs.Items.{lane_of}
use Rattle.lane_work.specs.OwnItems.{AreItems}
use Rattle.log_base.specs.ClusterShape.{Shape}
use Rattle.tied_cells.proofs.Closes.{from_map}
use Rattle.cluster_run.specs.Runs.{lanes_in}
use Rattle.cluster_run.proofs.Spoken.{all_there}

lane_below : (config : Shape) (item : Item) → IsItem config item → lane_of item < 64
lane_below config (Append lane shard replica bytes) h = h.0
lane_below config (Read lane shard replica position) h = h.0
lane_below config (Subscribe lane shard replica from count) h = h.0
lane_below config (Trim lane position) h = h.0
lane_below config (Add lane shard) h = h.0
lane_below config (Finalise lane shard) h = h.0
lane_below config (Ask lane) h = h
lane_below config (Fault lane fault) h = h.0

pub lanes_below : (config : Shape) (items : List Item) → AreItems config items → (k lane : ℕ) → slice_get (lanes_in items) k ≡ Some lane → lane < 64
lanes_below config items are k lane there =
    let p = from_map lane_of items k lane there in
    subst (λ (n : ℕ). n < 64) p.2 (lane_below config p.0 (all_there (IsItem config) items k p.0 are p.1))
