-- The disks of a node: what is told of its journals, to which of them an event puts, and the marks that follow.
use Rattle.std.specs.Prelude.{◌≡◌, ◌≢◌, ℕ, ◌<◌, length, List, [], ◌∷◌, Bool, true, IsTrue, if◌then◌else◌, Option, Some, None, IsSome}
use Rattle.std.specs.Option.{option_map}
use Rattle.history_frame.specs.declared.inputs.Input.{Input}
use Rattle.history_frame.specs.declared.inputs.Input.TheVariants.{Restart}
use Rattle.history_frame.specs.declared.inputs.Mark.{Mark}
use Rattle.history_frame.specs.declared.inputs.Mark.TheVariants.{Done, Halted, OpenedWithout, StayedDown}
use Rattle.log_base.specs.ClusterShape.{Shape}
use Rattle.node_model.specs.Marks.{ChangeOf, Mode, NodeOf, RoleOf, Running, Stopped}
use Rattle.node_model.specs.NodeState.{NodeState, Storing, Gathering, Ordering}
use Rattle.node_model.specs.OrdererRow.{orderer_role}
use Rattle.node_model.specs.StorageNode.{Put, member_of}
use Rattle.node_model.specs.StorageRow.{storage_role}
use Rattle.node_table.specs.declared.role.Role.{Role}
use Rattle.node_table.specs.declared.role.Role.TheVariants.{Storage as StorageRole, Gatherer as GathererRole, Orderer as OrdererRole}
use Rattle.paxos_model.specs.Votes.{Payload}
use Rattle.segment_journal.specs.Journalled.{Journalled, Turns}
use Rattle.segment_journal.specs.declared.journal.Installed.{Installed}
use Rattle.shard_replica.specs.Lists.{Medium, medium_at, medium_of}
use Rattle.orderer_node.specs.Ordering.{Ordering as Orderer, opening_mark as orderer_opening}
use Rattle.storage_node.specs.Opening.{RoseIn, mark_after, opening_mark, told_by}
use Rattle.core_step.specs.declared.part.Part.{Part}
use Rattle.core_step.specs.declared.part.Part.TheVariants.{Storage as Stores, Gatherer as Gathers, Orderer as Orders}

-- what is told of the journal of an orderer
abbrev pub media_of_orderer : {J : Type 0} → (J → Journalled) → (J → ℕ) → (J → Bool) → (J → Option Turns) → Orderer J → List Medium
media_of_orderer state faults keeps_synced turns node =
    medium_of (state node.journal) (faults node.journal) (keeps_synced node.journal) (turns node.journal) ∷ []

-- the mark of its start, by what its journal was read as
abbrev pub orderer_start : {J : Type 0} → (J → Journalled) → Orderer J → Option Mark
orderer_start state node = option_map orderer_opening (state node.journal).reloaded

-- What is told of the journals of a node, in order of segment. An orderer has one journal, a gatherer none.
abbrev pub media_in : {J P : Type 0} → (J → Journalled) → (J → ℕ) → (J → Bool) → (J → Option Turns) → Part J P → List Medium
media_in state faults keeps_synced turns (Stores node) = node.replica.media
media_in state faults keeps_synced turns (Gathers node) = []
media_in state faults keeps_synced turns (Orders node) = media_of_orderer state faults keeps_synced turns node

-- the mark of a start, by what its journals were read as
abbrev pub start_mark : {J P : Type 0} → (J → Journalled) → Part J P → Option Mark
start_mark state (Stores node) = Some (mark_after node.replica.last_reload node.replica.media)
start_mark state (Gathers node) = Some OpenedWithout
start_mark state (Orders node) = orderer_start state node

-- How the journals were read for a start. The node stays down only where a count of faults rose, or where what a journal keeps
-- did not stay. Where all journals told what a reload comes to, the mark follows.
pub record IsStarting (old new : List Medium) (mark : Option Mark) : Type 0 where
  pub came : IsSome mark
  pub stayed : mark ≡ Some StayedDown → ((k : ℕ) → IsTrue (medium_at old k).keeps_synced) → RoseIn old new
  pub told : (answer : Installed) → told_by old ≡ Some answer → mark ≡ Some (opening_mark answer)

-- ---- puts

-- what a row puts
abbrev pub put_by : {P M : Type 0} → Option (ChangeOf P M) → Option P
put_by None = None
put_by (Some change) = change.put

abbrev pub put_of : {D P K M : Type 0} → RoleOf D P K M → NodeOf D P K M → Mode P K M → Input → Option P
put_of role node (Stopped flight known) input = None
put_of role node (Running memory) input = put_by (role.row node.durable memory input)

abbrev pub put_in : {D P K M : Type 0} → RoleOf D P K M → NodeOf D P K M → Input → Option P
put_in role node input = put_of role node node.mode input

-- the segment of a node to which an input puts; an orderer's list is segment 0
abbrev pub segment_put : Shape → Role → NodeState → Input → Option ℕ
segment_put config (StorageRole shard own) (Storing node) input =
    option_map (λ (put : Put). put.segment) (put_in (storage_role config (member_of config shard.0 own.0)) node input)
segment_put config (OrdererRole index) (Ordering node) input = option_map (λ (put : Payload). 0) (put_in (orderer_role config index) node input)
segment_put config _ _ input = None

-- the mark of a put that failed or not
abbrev pub put_mark : Turns → Mark
put_mark turns = if turns.put_fails then Halted else Done

-- the mark of an input that is no start, where the journal of its put tells it
abbrev pub told_mark : List Medium → Option ℕ → Option Mark
told_mark media None = Some Done
told_mark media (Some segment) = option_map put_mark (medium_at media segment).turns

-- how many journals a node of a role has
abbrev pub journals_of : Shape → Role → ℕ
journals_of config (StorageRole shard own) = config.replicas
journals_of config (GathererRole index) = 0
journals_of config (OrdererRole index) = 1
