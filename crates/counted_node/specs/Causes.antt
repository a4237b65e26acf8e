-- What is told of the disks of a run's nodes, by how much their counts of faults rose, and which events show that they failed.
use Rattle.std.specs.Prelude.{◌≡◌, ◌⊎◌, ℕ, zero, suc, ◌+◌, ◌-◌, ◌^◌, ◌<◌, ◌≤◌, List, [], length, Bool, true, false, IsTrue, Option, Some, slice_get, slice_index_or}
use Rattle.std.specs.List.{filter}
use Rattle.core_step.specs.Disks.{journals_of, media_in}
use Rattle.core_step.specs.Standing.{Standing}
use Rattle.history_frame.specs.declared.events.Event.{Event}
use Rattle.history_frame.specs.declared.inputs.Input.TheVariants.{Restart}
use Rattle.history_frame.specs.declared.inputs.Mark.{Mark}
use Rattle.history_frame.specs.declared.inputs.Mark.TheVariants.{Done, Halted, OpenedWithout, OpenedWith, StayedDown}
use Rattle.log_base.specs.ClusterShape.{Shape}
use Rattle.log_base.specs.Outside.{Rose}
use Rattle.node_model.specs.Histories.{events_at}
use Rattle.node_table.specs.Numbering.{nodes_of, role_at}
use Rattle.segment_journal.specs.Journalled.{Journalled, Turns}
use Rattle.shard_replica.specs.Lists.{Medium, medium_at}
use Rattle.storage_node.specs.Counting.{CountsOn}

-- ---- what is told

-- what is told of the journals of a node
abbrev pub node_media : {J P : Type 0} → (J → Journalled) → (J → ℕ) → (J → Bool) → (J → Option Turns) → Standing J P → List Medium
node_media state faults keeps_synced turns node = media_in state faults keeps_synced turns node.part

-- the part of the node of this number in what is told of some nodes
abbrev pub media_at : List (List Medium) → ℕ → List Medium
media_at told number = slice_index_or told number []

-- how many journals a node has
abbrev pub journals_at : Shape → ℕ → ℕ
journals_at config number = journals_of config (role_at config number)

-- No count of faults of the nodes fell, and whether what a journal keeps stays is the same.
abbrev pub AllCountOn : List (List Medium) → List (List Medium) → Type 0
AllCountOn old new = (number : ℕ) → CountsOn (media_at old number) (media_at new number)

-- ---- counts

-- by how much the counts of the first journals rose together
abbrev pub rise : List Medium → List Medium → ℕ → ℕ
rise old new zero = 0
rise old new (suc count) = rise old new count + ((medium_at new count).faults - (medium_at old count).faults)

-- the count of one of the first journals rose
abbrev pub OneRose : List Medium → List Medium → ℕ → Type 0
OneRose old new count = (segment : ℕ) × (segment < count) × Rose (medium_at old segment).faults (medium_at new segment).faults

-- none of their counts did
abbrev pub NoneRose : List Medium → List Medium → ℕ → Type 0
NoneRose old new count = (segment : ℕ) → segment < count → ¬ Rose (medium_at old segment).faults (medium_at new segment).faults

-- the count of one of them stands at its last value
abbrev pub IsAtLast : List Medium → ℕ → Type 0
IsAtLast media count = (segment : ℕ) × (segment < count) × (2 ^ 64 - 1 ≤ (medium_at media segment).faults)

-- what each of them keeps stays, as on disks that keep synced bytes
abbrev pub AllKeep : List Medium → ℕ → Type 0
AllKeep media count = (segment : ℕ) → segment < count → IsTrue (medium_at media segment).keeps_synced

-- ---- events

-- a mark that shows a failure of a disk; that of a node that stays down does so where disks keep synced bytes
abbrev pub shows_failure : Bool → Mark → Bool
shows_failure keeps Done = false
shows_failure keeps Halted = true
shows_failure keeps OpenedWithout = false
shows_failure keeps OpenedWith = false
shows_failure keeps StayedDown = keeps

-- how many events of a node show one
abbrev pub failures : Bool → ℕ → List Event → ℕ
failures keeps node events = length (filter (λ (event : Event). shows_failure keeps event.happened.mark) (events_at node events))

-- so many events have a rise of a count each, or a count stands at its last value
abbrev pub IsCounted : List Medium → List Medium → ℕ → ℕ → Type 0
IsCounted old new count events = (events ≤ rise old new count) ⊎ IsAtLast new count

-- An event of a node with so many journals. It halted only where one of their counts rose, and so it stayed down, where they keep
-- synced bytes.
pub record HasCause (count : ℕ) (mark : Mark) (old new : List Medium) : Type 0 where
  pub counts : CountsOn old new
  pub halted : mark ≡ Halted → OneRose old new count
  pub stayed : mark ≡ StayedDown → AllKeep old count → OneRose old new count

-- ---- histories

-- Of the events of each node, those that halted are at most as many as the counts of its journals rose, or a count stands at its
-- last value; and those that stayed down with them, where the journals keep synced bytes. No count fell.
pub record HaveCauses (config : Shape) (events : List Event) (old new : List (List Medium)) : Type 0 where
  pub counts : AllCountOn old new
  pub halted : (number : ℕ) → number < nodes_of config
      → IsCounted (media_at old number) (media_at new number) (journals_at config number) (failures false number events)
  pub stayed : (number : ℕ) → number < nodes_of config → AllKeep (media_at old number) (journals_at config number)
      → IsCounted (media_at old number) (media_at new number) (journals_at config number) (failures true number events)

-- the events begin with a start of every node, in order
abbrev pub BeginWithStarts : Shape → List Event → Type 0
BeginWithStarts config events = (number : ℕ) → number < nodes_of config
    → (event : Event) × (slice_get events number ≡ Some event) × (event.node.0 ≡ number) × (event.happened.input ≡ Restart)

-- Where the journals of a node keep synced bytes and none of their counts rose, its start finds nothing in flight.
abbrev pub StartsAreClean : Shape → List Event → List (List Medium) → List (List Medium) → Type 0
StartsAreClean config events old new = (number : ℕ) (event : Event) → number < nodes_of config
    → AllKeep (media_at old number) (journals_at config number) → NoneRose (media_at old number) (media_at new number) (journals_at config number)
    → slice_get events number ≡ Some event → event.happened.mark ≡ OpenedWithout
