-- A call that puts nothing and sends nothing leaves a settled moment settled, and is answered as its row says.
use Rattle.std.proofs.Common.{◌≡◌, ◌<◌, ◌≤◌, ℕ, List, [], ◌++◌, length, Some, refl, sym, ap, subst, ⊎_elim, append-nil, ◌∙◌}
use Rattle.std.proofs.lemmas.Option.{same_Some}
use Rattle.reply_frame.specs.declared.replies.Reply.{Reply}
use Rattle.history_frame.specs.declared.events.Sent.{Sent}
use Rattle.history_frame.specs.declared.inputs.Call.{Call}
use Rattle.history_frame.specs.declared.inputs.Input.{Input}
use Rattle.history_frame.specs.declared.inputs.Input.TheVariants.{Call as ACall}
use Rattle.history_frame.specs.declared.inputs.Mark.TheVariants.{Done}
use Rattle.log_base.specs.ClusterShape.{Shape}
use Rattle.node_table.specs.declared.role.Role.{Role}
use Rattle.node_table.specs.declared.role.Role.TheVariants.{Orderer}
use Rattle.node_table.specs.Numbering.{IsRole, node_of, orderer_node, storage_node}
use Rattle.node_model.specs.Marks.{Running}
use Rattle.node_model.specs.NodeState.{NodeOutcome, NodeState, Storing, Gathering, Ordering, node_outcome}
use Rattle.node_model.specs.OrdererNode.{Node}
use Rattle.node_model.specs.OrdererRow.{answered as orderer_answered, call_row as orderer_call}
use Rattle.node_model.specs.StorageNode.{StorageNode, member_of}
use Rattle.node_model.specs.StorageRow.{answered, call_row}
use Rattle.quiet_model.specs.Moments.{Moment, Takes}
use Rattle.quiet_model.specs.Settled.{Agreed, IsOrderer, IsReplica, IsSettled, ListsOf, list_at}
use Rattle.quiet_model.proofs.Follows.{as_role}
use Rattle.quiet_model.proofs.Gathering.{IsSettledNode}
use Rattle.quiet_model.proofs.Moving.{Moves, moved}
use Rattle.quiet_model.proofs.Outcomes.{orderer_takes, replica_takes}

-- the reply of what a node made
reply_of_made : (config : Shape) (before after : Moment) (n : ℕ) (input : Input) (answer : Reply) → Takes config before n input Done answer after
    → (made : NodeOutcome) → node_outcome config n (before.nodes n) input Done ≡ Some made → answer ≡ made.reply
reply_of_made config before after n input answer taken made e =
    taken.reply ∙ ap (λ (x : NodeOutcome). x.reply) (same_Some taken.made made (sym taken.rule ∙ e))

module _ (config : Shape) (agreed : Agreed) (lists : ListsOf) where
  still_settled : (before after : Moment) (role : Role) (made : NodeOutcome) → IsSettled config agreed lists before → IsRole config role
      → Moves config before after role made → IsSettledNode config agreed lists role made.state → made.outputs ≡ [] → IsSettled config agreed lists after
  still_settled before after role made settled is moves stands silent = record {
    sizes = settled.sizes;
    nodes = λ other c.
        ⊎_elim
        (λ e. subst (λ (y : Role). IsSettledNode config agreed lists y (after.nodes (node_of config y))) (sym e)
        (subst (IsSettledNode config agreed lists role) (sym moves.here) stands))
        (λ same. subst (IsSettledNode config agreed lists other) (sym same) (settled.nodes other c))
        (moves.others other c);
    queue = moves.posted ∙ ap (λ (outs : List Sent). before.queue ++ outs) silent ∙ append-nil before.queue ∙ settled.queue;
  }

  -- ---- a replica

  module _ (s r : ℕ) (a : s < config.shards) (b : r < config.replicas) (call : Call) (answer : Reply)
      (row : (node : StorageNode) (h : IsReplica config s r (lists s) (length (list_at lists s r)) agreed.values node)
      → call_row (member_of config s r) node.durable h.memory call ≡ Some (answered h.memory answer)) where
    replica_at : (before after : Moment) (reply : Reply) → IsSettled config agreed lists before
        → Takes config before (storage_node config s r) (ACall call) Done reply after
        → (state : NodeState) → before.nodes (storage_node config s r) ≡ state → IsSettledNode config agreed lists (as_role s r) state
        → IsSettled config agreed lists after × (reply ≡ answer)
    replica_at before after reply settled takes (Storing node) is h = (
      still_settled before after (as_role s r) made settled (a, b) (moved config before after (as_role s r) (ACall call) Done reply (a, b) takes made rule) stands refl,
      reply_of_made config before after (storage_node config s r) (ACall call) reply takes made rule,
    )
      where
        made : NodeOutcome
        made = record { state = Storing (record { durable = node.durable; mode = Running h.memory }); outputs = []; reply = answer }

        rule : node_outcome config (storage_node config s r) (before.nodes (storage_node config s r)) (ACall call) Done ≡ Some made
        rule =
            ap (λ (state : NodeState). node_outcome config (storage_node config s r) state (ACall call) Done) is
            ∙ replica_takes config s r a b node h.memory (answered h.memory answer) h.runs (ACall call) refl (row node h)

        stands : IsReplica config s r (lists s) (length (list_at lists s r)) agreed.values (record { durable = node.durable; mode = Running h.memory })
        stands = record { memory = h.memory; runs = refl; holds = h.holds; knows = h.knows; peers = h.peers; acks = h.acks }
    replica_at before after reply settled takes (Gathering node) is h = absurd h
    replica_at before after reply settled takes (Ordering node) is h = absurd h

    pub replica_answers : (before after : Moment) (reply : Reply) → IsSettled config agreed lists before
        → Takes config before (storage_node config s r) (ACall call) Done reply after → IsSettled config agreed lists after × (reply ≡ answer)
    replica_answers before after reply settled takes =
        replica_at before after reply settled takes (before.nodes (storage_node config s r)) refl (settled.nodes (as_role s r) (a, b))

  -- ---- orderer 0

  module _ (some : 1 ≤ config.orderers) (call : Call) (answer : Reply)
      (row : (node : Node) (o : IsOrderer config agreed 0 lists node) → orderer_call config o.orderer call ≡ Some (orderer_answered o.orderer answer)) where
    orderer_at : (before after : Moment) (reply : Reply) → IsSettled config agreed lists before
        → Takes config before (orderer_node config 0) (ACall call) Done reply after
        → (state : NodeState) → before.nodes (orderer_node config 0) ≡ state → IsSettledNode config agreed lists (Orderer 0) state
        → IsSettled config agreed lists after × (reply ≡ answer)
    orderer_at before after reply settled takes (Ordering node) is o = (
      still_settled before after (Orderer 0) made settled some (moved config before after (Orderer 0) (ACall call) Done reply some takes made rule) stands refl,
      reply_of_made config before after (orderer_node config 0) (ACall call) reply takes made rule,
    )
      where
        made : NodeOutcome
        made = record { state = Ordering (record { durable = node.durable; mode = Running o.orderer }); outputs = []; reply = answer }

        rule : node_outcome config (orderer_node config 0) (before.nodes (orderer_node config 0)) (ACall call) Done ≡ Some made
        rule =
            ap (λ (state : NodeState). node_outcome config (orderer_node config 0) state (ACall call) Done) is
            ∙ orderer_takes config 0 some node o.orderer (orderer_answered o.orderer answer) o.runs (ACall call) refl (row node o)

        stands : IsOrderer config agreed 0 lists (record { durable = node.durable; mode = Running o.orderer })
        stands = record { orderer = o.orderer; runs = refl; knows = o.knows; wishes = o.wishes; heard = o.heard; leads = o.leads; cast = o.cast }
    orderer_at before after reply settled takes (Storing node) is o = absurd o
    orderer_at before after reply settled takes (Gathering node) is o = absurd o

    pub orderer_answers : (before after : Moment) (reply : Reply) → IsSettled config agreed lists before
        → Takes config before (orderer_node config 0) (ACall call) Done reply after → IsSettled config agreed lists after × (reply ≡ answer)
    orderer_answers before after reply settled takes =
        orderer_at before after reply settled takes (before.nodes (orderer_node config 0)) refl (settled.nodes (Orderer 0) some)
