-- The items that are a cluster's.
use Rattle.std.specs.Prelude.{List, [], ◌∷◌}
use Rattle.std.specs.List.{AllByRecursion}
use Rattle.std.proofs.Props.{props}
use Rattle.command_frame.specs.Items.{IsItem}
use Rattle.command_frame.specs.declared.items.Item.{Item}
use Rattle.command_frame.specs.declared.items.Item.TheVariants.{Append, Read, Subscribe, Trim, Add, Finalise, Ask, Fault as FaultItem}
use Rattle.fault_script.specs.Lines.{IsFault}
use Rattle.fault_script.specs.declared.fault.Fault.{Fault}
use Rattle.fault_script.specs.declared.fault.Fault.TheVariants.{Hold, Settle, Tick, Deliver, Drop, Again, Stop, StopAfter, Lose, Restart, Lead, Resubmit}
use Rattle.log_base.specs.ClusterShape.{Shape}

-- the items are a cluster's
abbrev pub AreItems : Shape → List Item → Type 0
AreItems config items = AllByRecursion (IsItem config) items

fault_prop : (config : Shape) (fault : Fault) → IsProp (IsFault config fault)
fault_prop config Hold = Prim.hlevel props
fault_prop config Settle = Prim.hlevel props
fault_prop config (Tick node) = Prim.hlevel props
fault_prop config (Deliver letter) = Prim.hlevel props
fault_prop config (Drop letter) = Prim.hlevel props
fault_prop config (Again letter) = Prim.hlevel props
fault_prop config (Stop node) = Prim.hlevel props
fault_prop config (StopAfter node after keep) = Prim.hlevel props
fault_prop config (Lose node after) = Prim.hlevel props
fault_prop config (Restart node) = Prim.hlevel props
fault_prop config (Lead orderer) = Prim.hlevel props
fault_prop config Resubmit = Prim.hlevel props

-- any two proofs of it are equal
item_prop : (config : Shape) (item : Item) → IsProp (IsItem config item)
item_prop config (Append lane shard replica bytes) = Prim.hlevel props
item_prop config (Read lane shard replica position) = Prim.hlevel props
item_prop config (Subscribe lane shard replica from count) = Prim.hlevel props
item_prop config (Trim lane position) = Prim.hlevel props
item_prop config (Add lane shard) = Prim.hlevel props
item_prop config (Finalise lane shard) = Prim.hlevel props
item_prop config (Ask lane) = Prim.hlevel props
item_prop config (FaultItem lane fault) = Prim.hlevel (props, fault_prop config fault)

pub items_prop : (config : Shape) (items : List Item) → IsProp (AreItems config items)
items_prop config [] = Prim.hlevel props
items_prop config (item ∷ items) = Prim.hlevel (props, item_prop config item, items_prop config items)
