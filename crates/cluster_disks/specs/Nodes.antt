-- The nodes of a cluster over their disks: as they begin, and as their disks come back.
use Rattle.std.specs.Prelude.{◌≡◌, ℕ, ◌<◌, ◌≤◌, List, [], length, map, Option, None, Some, IfSome, IsTrue, slice_get}
use Rattle.std.specs.List.{All, AllByRecursion}
use Rattle.core_step.specs.Disks.{media_in}
use Rattle.core_step.specs.Standing.{Standing, cluster_node, state_of}
use Rattle.history_frame.specs.declared.events.Kept.{Kept}
use Rattle.history_frame.specs.Spelling.{DisksRise, IsKept}
use Rattle.log_base.specs.ClusterShape.{Shape}
use Rattle.node_model.specs.Durable.{payload_in_flight, payloads_of}
use Rattle.node_model.specs.Machine.{ClusterNode}
use Rattle.node_model.specs.NodeState.{KeptLists, node_at_first}
use Rattle.node_model.specs.Sound.{IsSound, payloads_on}
use Rattle.node_table.specs.Numbering.{disk_of, nodes_of}
use Rattle.segment_journal.specs.Journalled.{Journalled, loaded, no_turns}
use Rattle.segment_journal.specs.OnDisk.{OnDisk}
use Rattle.shard_replica.specs.Journals.{journal_at, states_of}
use Rattle.shard_replica.specs.Lists.{Medium, medium_at, medium_of}
use Rattle.cluster_disks.specs.Found.{AreRecovered, bytes_in, kept_in, kept_limit}
use Rattle.cluster_disks.specs.Lent.{Disks, Lying, disks_at}
use Rattle.cluster_disks.specs.Opened.{KeepsList}

-- ---- as they begin

-- The journals of a node hold what its disks kept, and nothing else. What was kept is sound.
pub record IsBeginning {J : Type 0} (state : J → Journalled) (config : Shape) (kept : KeptLists) (node : ℕ) (journals : List J) : Type 0 where
  pub run : ℕ
  pub sound : IsSound config run kept
  pub count : length journals ≡ disks_at config node
  pub fresh : All (λ (j : J). state j ≡ loaded (state j).payloads) journals
  pub lists : (segment : ℕ) → segment < length journals → (journal_at (states_of state journals) segment).payloads ≡ kept (disk_of node segment)

-- nodes over disks, as nodes of the rules
abbrev pub nodes_in : {D P : Type 0} → List (Standing (OnDisk D) P) → List ClusterNode
nodes_in {D = D} {P = P} nodes = map (λ (n : Standing (OnDisk D) P). cluster_node (λ (j : OnDisk D). j.journal) n) nodes

-- a node that is down, over what its disks kept
abbrev pub first_node : Shape → List Kept → ℕ → ClusterNode
first_node config kept number = record { config = config; number = number; state = node_at_first config (payloads_on kept) number }

-- The nodes of a cluster, in order of their numbers, stand at their beginning.
pub record AreAtFirst (config : Shape) (kept : List Kept) (nodes : List ClusterNode) : Type 0 where
  pub all : length nodes ≡ nodes_of config
  pub each : (number : ℕ) → number < nodes_of config → slice_get nodes number ≡ Some (first_node config kept number)

-- What a run starts with: its nodes stand at their beginning, over what the disks kept, which is sound.
pub record IsStart {D : Type 0} (by : Disks D) (config : Shape) (run : ℕ) (lain : ℕ → Lying D) (nodes : List ClusterNode) (kept : List Kept) : Type 0 where
  pub found : AreRecovered by config (payloads_on kept) lain
  pub few : bytes_in kept ≤ kept_limit
  pub sound : IsSound config run (payloads_on kept)
  pub order : DisksRise 0 kept
  pub fit : AllByRecursion IsKept kept
  pub stand : AreAtFirst config kept nodes

-- ---- as their disks come back

-- what is told of a journal on a disk, and of the journals of a node
abbrev pub medium_on : {D : Type 0} → Disks D → OnDisk D → Medium
medium_on by journal = medium_of journal.journal (by.faults journal.disk) (by.keeps_synced journal.disk) no_turns

abbrev pub media_over : {D : Type 0} → Disks D → List (OnDisk D) → List Medium
media_over {D = D} by journals = map (λ (j : OnDisk D). medium_on by j) journals

abbrev pub media_under : {D P : Type 0} → Disks D → Standing (OnDisk D) P → List Medium
media_under {D = D} by node = media_in (λ (j : OnDisk D). j.journal) (λ (j : OnDisk D). by.faults j.disk) (λ (j : OnDisk D). by.keeps_synced j.disk) (λ (j : OnDisk D). no_turns) node.part

-- no count fell since the disk lay there, and what it keeps stays as it did
pub record GoesOn {D : Type 0} (by : Disks D) (old : Lying D) (medium : Medium) : Type 0 where
  pub count : old.disk_faults ≤ medium.faults
  pub keeps : IfSome old.disk (λ before. medium.keeps_synced ≡ by.keeps_synced before)

-- A disk lies there, with the count of its journal, and keeps this list.
pub record IsHeld {D : Type 0} (by : Disks D) (list : List (List ℕ)) (flight : Option (List ℕ)) (medium : Medium) (lying : Lying D) : Type 0 where
  pub count : lying.disk_faults ≡ medium.faults
  pub keeps : IfSome lying.disk (λ disk. by.keeps_synced disk ≡ medium.keeps_synced)
  pub list_is : IfSome lying.disk (λ disk. IsTrue (by.keeps_synced disk) → KeepsList list flight (by.may_leave disk))

-- the disks of a node lie there, with its durable lists and what is in flight to them
abbrev pub AreOf : {D P : Type 0} → Disks D → Shape → ℕ → Standing (OnDisk D) P → (ℕ → Lying D) → Type 0
AreOf {D = D} by config number node lain = (segment : ℕ) → segment < disks_at config number
    → IsHeld by (payloads_of (state_of (λ (j : OnDisk D). j.journal) node.part) segment) (payload_in_flight (state_of (λ (j : OnDisk D). j.journal) node.part) segment)
    (medium_at (media_under by node) segment) (lain (disk_of number segment))

abbrev pub AreAllOf : {D P : Type 0} → Disks D → Shape → List (Standing (OnDisk D) P) → (ℕ → Lying D) → Type 0
AreAllOf {D = D} {P = P} by config nodes lain = (number : ℕ) (node : Standing (OnDisk D) P) → slice_get nodes number ≡ Some node
    → AreOf by config number node lain

-- the disks of journals that were read lie there, with their lists
abbrev pub AreAsRead : {D : Type 0} → Disks D → List (List (OnDisk D)) → (ℕ → Lying D) → Type 0
AreAsRead {D = D} by nodes lain = (node segment : ℕ) (journals : List (OnDisk D)) (journal : OnDisk D) → slice_get nodes node ≡ Some journals
    → slice_get journals segment ≡ Some journal → IsHeld by journal.journal.payloads None (medium_on by journal) (lain (disk_of node segment))

-- each node has its number in the cluster
abbrev pub AreSeated : {D P : Type 0} → Shape → List (Standing (OnDisk D) P) → Type 0
AreSeated {D = D} {P = P} config nodes = (number : ℕ) (node : Standing (OnDisk D) P) → slice_get nodes number ≡ Some node
    → (node.config ≡ config) × (node.number ≡ number)

-- The first nodes of a cluster were made, each over its journals, which hold what was read.
pub record AreMade {D P : Type 0} (by : Disks D) (config : Shape) (journals : List (List (OnDisk D))) (nodes : List (Standing (OnDisk D) P)) : Type 0 where
  pub within : length nodes ≤ length journals
  pub seated : AreSeated config nodes
  pub stand : (number : ℕ) → number < length nodes → slice_get (nodes_in nodes) number ≡ Some (first_node config (kept_in 0 journals) number)
  pub media : (number : ℕ) (node : Standing (OnDisk D) P) (own : List (OnDisk D)) → slice_get nodes number ≡ Some node → slice_get journals number ≡ Some own
      → media_under by node ≡ media_over by own

-- The journals of the first nodes were taken out of their places, and the others have theirs.
pub record AreTaken {D : Type 0} (count : ℕ) (journals rest : List (List (OnDisk D))) : Type 0 where
  pub size : length rest ≡ length journals
  pub taken : (node : ℕ) → node < count → slice_get rest node ≡ Some []
  pub left : (node : ℕ) → count ≤ node → slice_get rest node ≡ slice_get journals node

-- each of some nodes has as many journals as disks
abbrev pub HaveAll : {D : Type 0} → Shape → List (List (OnDisk D)) → Type 0
HaveAll {D = D} config nodes = (node : ℕ) (journals : List (OnDisk D)) → slice_get nodes node ≡ Some journals → length journals ≡ disks_at config node

-- what is told of the journals of nodes goes on from the disks that lay there
abbrev pub AreStanding : {D P : Type 0} → Disks D → Shape → (ℕ → Lying D) → List (Standing (OnDisk D) P) → Type 0
AreStanding {D = D} {P = P} by config lain nodes = (number segment : ℕ) (node : Standing (OnDisk D) P) → slice_get nodes number ≡ Some node
    → segment < disks_at config number → GoesOn by (lain (disk_of number segment)) (medium_at (media_under by node) segment)
