-- What a running node makes of an input that has a row: it follows the row.
use Rattle.std.proofs.Common.{◌≡◌, ◌<◌, ℕ, true, Option, Some, ap, ◌∙◌}
use Rattle.history_frame.specs.declared.inputs.Input.{Input}
use Rattle.history_frame.specs.declared.inputs.Input.TheVariants.{Deliver, Call as ACall, Tick, Lead, Stop, Restart}
use Rattle.history_frame.specs.declared.inputs.Mark.TheVariants.{Done}
use Rattle.log_base.specs.ClusterShape.{Shape}
use Rattle.node_table.specs.declared.role.Role.{Role}
use Rattle.node_table.specs.declared.role.Role.TheVariants.{Storage, Gatherer, Orderer}
use Rattle.node_table.specs.Numbering.{gatherer_node, orderer_node, storage_node}
use Rattle.node_table.proofs.Roles.{role_at-node_of}
use Rattle.node_model.specs.GathererRow.{GathererChange, GathererNode, gatherer_role, row as gatherer_row, outcome as gatherer_outcome}
use Rattle.aggregator.specs.Hearing.{Hearing}
use Rattle.node_model.specs.Marks.{ChangeOf, Mode, NodeOf, OutcomeOf, RoleOf, Running, made_by, row_made, stored_with, usual_made}
use Rattle.node_model.specs.Naming.{is_row_input}
use Rattle.node_model.specs.NodeState.{Storing, Gathering, Ordering, as_outcome, node_outcome, outcome_as}
use Rattle.node_model.specs.OrdererNode.{Change, Node, Orderer as OrdererMemory}
use Rattle.node_model.specs.OrdererRow.{orderer_role, row as orderer_row, outcome as orderer_outcome}
use Rattle.node_model.specs.StorageNode.{Replica, StorageChange, StorageNode, member_of}
use Rattle.node_model.specs.StorageRow.{storage_role, row as storage_row, outcome as storage_outcome}

module _ {D P K M : Type 0} (role : RoleOf D P K M) (node : NodeOf D P K M) (memory : M) (change : ChangeOf P M) (runs : node.mode ≡ Running memory) where
  -- what stands after a row
  abbrev pub after_row : OutcomeOf D P K M
  after_row = record {
    node = record { durable = stored_with role node.durable change.put; mode = Running change.after };
    outputs = change.outputs;
    reply = change.reply;
  }

  usual_is : (input : Input) → role.row node.durable memory input ≡ Some change → usual_made role node node.mode input Done ≡ Some after_row
  usual_is input e =
      ap (λ (mode : Mode P K M). usual_made role node mode input Done) runs
      ∙ ap (λ (found : Option (ChangeOf P M)). row_made role node.durable memory input found Done) e

  pub row_taken : (input : Input) → is_row_input input ≡ true → role.row node.durable memory input ≡ Some change → made_by role node input Done ≡ Some after_row
  row_taken (Deliver place index message) usual e = usual_is (Deliver place index message) e
  row_taken (ACall call) usual e = usual_is (ACall call) e
  row_taken Tick usual e = usual_is Tick e
  row_taken Lead usual e = usual_is Lead e
  row_taken Stop usual e = absurd (cc)
  row_taken Restart usual e = absurd (cc)

-- a replica by its number
module _ (config : Shape) (s r : ℕ) (a : s < config.shards) (b : r < config.replicas) (node : StorageNode) (memory : Replica) (change : StorageChange) (runs : node.mode ≡ Running memory) where
  pub replica_takes : (input : Input) → is_row_input input ≡ true → storage_row config (member_of config s r) node.durable memory input ≡ Some change
      → node_outcome config (storage_node config s r) (Storing node) input Done
      ≡ Some (record {
        state = Storing (record { durable = stored_with (storage_role config (member_of config s r)) node.durable change.put; mode = Running change.after });
        outputs = change.outputs;
        reply = change.reply;
      })
  unfolding storage_outcome
  replica_takes input usual e =
      ap (λ (role : Role). outcome_as config role (Storing node) input Done) (role_at-node_of config (Storage (record { 0 = s }) (record { 0 = r })) (a, b))
      ∙ ap (as_outcome Storing) (row_taken (storage_role config (member_of config s r)) node memory change runs input usual e)

-- a gatherer
module _ (config : Shape) (i : ℕ) (a : i < config.gatherers) (node : GathererNode) (memory : Hearing) (change : GathererChange) (runs : node.mode ≡ Running memory) where
  pub gatherer_takes : (input : Input) → is_row_input input ≡ true → gatherer_row config i memory input ≡ Some change
      → node_outcome config (gatherer_node config i) (Gathering node) input Done
      ≡ Some (record {
        state = Gathering (record { durable = stored_with (gatherer_role config i) node.durable change.put; mode = Running change.after });
        outputs = change.outputs;
        reply = change.reply;
      })
  unfolding gatherer_outcome
  gatherer_takes input usual e =
      ap (λ (role : Role). outcome_as config role (Gathering node) input Done) (role_at-node_of config (Gatherer i) a)
      ∙ ap (as_outcome Gathering) (row_taken (gatherer_role config i) node memory change runs input usual e)

-- an orderer
module _ (config : Shape) (i : ℕ) (a : i < config.orderers) (node : Node) (memory : OrdererMemory) (change : Change) (runs : node.mode ≡ Running memory) where
  pub orderer_takes : (input : Input) → is_row_input input ≡ true → orderer_row config i node.durable memory input ≡ Some change
      → node_outcome config (orderer_node config i) (Ordering node) input Done
      ≡ Some (record {
        state = Ordering (record { durable = stored_with (orderer_role config i) node.durable change.put; mode = Running change.after });
        outputs = change.outputs;
        reply = change.reply;
      })
  unfolding orderer_outcome
  orderer_takes input usual e =
      ap (λ (role : Role). outcome_as config role (Ordering node) input Done) (role_at-node_of config (Orderer i) a)
      ∙ ap (as_outcome Ordering) (row_taken (orderer_role config i) node memory change runs input usual e)
