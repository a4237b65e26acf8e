-- Which disks a run takes from a rack, and what a rack tells of each number.
use Rattle.std.specs.Prelude.{◌≡◌, ℕ, ◌<◌, ◌≤◌, List, Option, None, IfSome, Bool}
use Rattle.log_base.specs.ClusterShape.{Shape}
use Rattle.disk_base.specs.Lending.{NumberStays}
use Rattle.node_table.specs.declared.role.Role.{Role}
use Rattle.node_table.specs.declared.role.Role.TheVariants.{Storage, Gatherer, Orderer}
use Rattle.node_table.specs.Numbering.{disk_of, nodes_of, role_at}

-- What a rack tells of the disk under one number: the disk, where it tells it, the disk's count of faults, and its own.
pub record Lying (D : Type 0) : Type 0 where
  pub disk : Option D
  pub disk_faults : ℕ
  pub rack_faults : ℕ

-- what lies under each number, in no folder
abbrev pub lain : {R D : Type 0} → (R → Option (List ℕ) → ℕ → Option D) → (R → Option (List ℕ) → ℕ → ℕ) → (R → ℕ) → R → ℕ → Lying D
lain disk_at disk_faults faults rack number =
    record { disk = disk_at rack None number; disk_faults = disk_faults rack None number; rack_faults = faults rack }

-- What the disks of a rack tell: the bytes that a read gives, the images, whether they keep synced bytes, and their counts of
-- faults.
pub record Disks (D : Type 0) : Type 1 where
  pub reads : D → Option (List ℕ)
  pub may_leave : D → List ℕ → Type 0
  pub keeps_synced : D → Bool
  pub faults : D → ℕ

abbrev pub disks : {D : Type 0} → (D → Option (List ℕ)) → (D → List ℕ → Type 0) → (D → Bool) → (D → ℕ) → Disks D
disks reads may_leave keeps_synced faults = record { reads = reads; may_leave = may_leave; keeps_synced = keeps_synced; faults = faults }

-- how many disks a role has: a replica one for each segment of its shard, an orderer one for its list
abbrev pub disks_in : Shape → Role → ℕ
disks_in config (Storage shard replica) = config.replicas
disks_in config (Gatherer index) = 0
disks_in config (Orderer index) = 1

-- how many disks a node has
abbrev pub disks_at : Shape → ℕ → ℕ
disks_at config node = disks_in config (role_at config node)

-- It is one of the first disks of a node.
abbrev pub IsDiskOfNode : ℕ → ℕ → ℕ → Type 0
IsDiskOfNode node count number = (segment : ℕ) × (segment < count) × (number ≡ disk_of node segment)

-- It is a disk of one of the first nodes of a cluster.
abbrev pub IsDiskBelow : Shape → ℕ → ℕ → Type 0
IsDiskBelow config nodes number = (node : ℕ) × (node < nodes) × IsDiskOfNode node (disks_at config node) number

-- It is a disk of a node of the cluster.
abbrev pub IsDisk : Shape → ℕ → Type 0
IsDisk config number = IsDiskBelow config (nodes_of config) number

-- what a rack says stays, but for these numbers
abbrev pub StaysBut : {R D : Type 0} → (R → ℕ → Option (List ℕ) → Type 0) → (R → Option (List ℕ) → ℕ → ℕ) → (R → Option (List ℕ) → ℕ → Option D) → (ℕ → Type 0) → R → R → Type 0
StaysBut lent_under disk_faults disk_at these old new = (number : ℕ) → ¬ these number → NumberStays lent_under disk_faults disk_at old new number

-- no count fell, and the disk keeps synced bytes where the one that lay there did
pub record IsLater {D : Type 0} (by : Disks D) (old new : Lying D) : Type 0 where
  pub disk : old.disk_faults ≤ new.disk_faults
  pub rack : old.rack_faults ≤ new.rack_faults
  pub keeps : IfSome old.disk (λ before. IfSome new.disk (λ disk. by.keeps_synced disk ≡ by.keeps_synced before))
