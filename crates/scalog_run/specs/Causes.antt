-- What a history shows of its disks: how its nodes start, and how often a node fell or stayed down.
use Rattle.std.specs.Prelude.{◌≡◌, ◌⊎◌, ℕ, zero, suc, ◌+◌, ◌-◌, ◌^◌, ◌<◌, ◌≤◌, List, Some, slice_get, true, false, IsTrue, IsSomeAnd}
use Rattle.history_frame.specs.declared.events.Event.{Event}
use Rattle.history_frame.specs.declared.inputs.Mark.TheVariants.{OpenedWithout}
use Rattle.log_base.specs.ClusterShape.{Shape}
use Rattle.log_base.specs.Outside.{Rose}
use Rattle.node_table.specs.Numbering.{disk_of, nodes_of}
use Rattle.cluster_disks.specs.Lent.{Disks, Lying, disks_at}
use Rattle.counted_node.specs.Causes.{BeginWithStarts, failures}

-- by how much the counts of a node's first disks rose together
abbrev pub disk_rise : {D : Type 0} → (ℕ → Lying D) → (ℕ → Lying D) → ℕ → ℕ → ℕ
disk_rise old new node zero = 0
disk_rise old new node (suc count) =
    disk_rise old new node count + ((new (disk_of node count)).disk_faults - (old (disk_of node count)).disk_faults)

-- the count of one of a node's disks stands at its last value
abbrev pub IsOneAtLast : {D : Type 0} → (ℕ → Lying D) → ℕ → ℕ → Type 0
IsOneAtLast lain node count = (segment : ℕ) × (segment < count) × (2 ^ 64 - 1 ≤ (lain (disk_of node segment)).disk_faults)

-- the disks of a node are told, and keep synced bytes
abbrev pub DisksKeep : {D : Type 0} → Disks D → (ℕ → Lying D) → ℕ → ℕ → Type 0
DisksKeep by lain node count = (segment : ℕ) → segment < count → IsSomeAnd (lain (disk_of node segment)).disk (λ disk. IsTrue (by.keeps_synced disk))

-- no count of a node's disks rose
abbrev pub NoDiskRose : {D : Type 0} → (ℕ → Lying D) → (ℕ → Lying D) → ℕ → ℕ → Type 0
NoDiskRose old new node count = (segment : ℕ) → segment < count → ¬ Rose (old (disk_of node segment)).disk_faults (new (disk_of node segment)).disk_faults

-- so many events have a rise of a count each, or a count stands at its last value
abbrev pub IsRisen : {D : Type 0} → Shape → (ℕ → Lying D) → (ℕ → Lying D) → ℕ → ℕ → Type 0
IsRisen config old new node events = (events ≤ disk_rise old new node (disks_at config node)) ⊎ IsOneAtLast new node (disks_at config node)

-- A node fell only where a count of its disks rose, once for each time; and so it stayed down, where they keep synced bytes.
pub record HasCauses {D : Type 0} (by : Disks D) (config : Shape) (events : List Event) (old new : ℕ → Lying D) : Type 0 where
  pub halted : (number : ℕ) → number < nodes_of config → IsRisen config old new number (failures false number events)
  pub stayed : (number : ℕ) → number < nodes_of config → DisksKeep by old number (disks_at config number)
      → IsRisen config old new number (failures true number events)

-- The nodes are started first, in order. Where the disks of a node keep synced bytes and none of them failed, it was opened with
-- nothing in flight.
pub record IsOpening {D : Type 0} (by : Disks D) (config : Shape) (events : List Event) (old new : ℕ → Lying D) : Type 0 where
  pub starts : BeginWithStarts config events
  pub clean : (number : ℕ) (event : Event) → number < nodes_of config → DisksKeep by old number (disks_at config number)
      → NoDiskRose old new number (disks_at config number) → slice_get events number ≡ Some event → event.happened.mark ≡ OpenedWithout
