-- A node of any role follows its role's row: what fits it fits its part, and what its part does is its row.
use Rattle.std.proofs.Common.{◌≡◌, ℕ, List, Some, refl, sym, ap, subst, ◌∙◌}
use Rattle.reply_frame.specs.declared.replies.Reply.{Reply}
use Rattle.history_frame.specs.declared.events.Effect.{Effect}
use Rattle.history_frame.specs.declared.events.Happened.{Happened}
use Rattle.history_frame.specs.declared.events.Sent.{Sent}
use Rattle.history_frame.specs.declared.inputs.Input.{Input}
use Rattle.history_frame.specs.declared.inputs.Mark.{Mark}
use Rattle.log_base.specs.ClusterShape.{Shape}
use Rattle.log_model.specs.Storage.{Member}
use Rattle.node_model.specs.NodeState.{IsRow, NodeOutcome, NodeState, Storing, as_outcome, node_outcome, outcome_as}
use Rattle.node_model.specs.StorageNode.{StorageNode}
use Rattle.node_table.specs.declared.role.Role.{Role}
use Rattle.node_table.specs.declared.role.Role.TheVariants.{Storage as StorageRole}
use Rattle.node_table.specs.Numbering.{role_at}
use Rattle.segment_journal.specs.Journalled.{Journalled}
use Rattle.shard_replica.specs.Lists.{Medium}
use Rattle.shard_replica.specs.Replica.{ReplicaState, lists_of}
use Rattle.storage_node.specs.declared.node.Mode.{Mode}
use Rattle.storage_node.specs.StorageState.{StorageState, config_of, member_in, mode_of, node_of as storage_state}
use Rattle.storage_node.specs.Turning.{IsTurn}
use Rattle.core_step.specs.declared.part.Part.{Part}
use Rattle.core_step.specs.Disks.{segment_put, told_mark}
use Rattle.core_step.specs.Standing.{IsSeated, cluster_of, role_in, role_of, state_of}

-- the outcome of an event as it happened
abbrev outcome_made : NodeState → List Sent → Reply → NodeOutcome
outcome_made state outputs reply = record { state = state; outputs = outputs; reply = reply }

abbrev happened_as : NodeState → Happened → NodeOutcome
happened_as state happened = outcome_made state happened.outputs happened.reply

-- a storage node with equal parts is the same one
abbrev storage_made : ReplicaState → Mode → ℕ → StorageNode
storage_made state mode ticks = record { durable = lists_of state; mode = mode_of mode state ticks }

pub storage_same : (old new : StorageState) → new.replica.state ≡ old.replica.state → (new.mode ≡ old.mode) × (new.ticks ≡ old.ticks)
    → storage_state new ≡ storage_state old
storage_same old new state rest =
    ap (λ (s : ReplicaState). storage_made s new.mode new.ticks) state
    ∙ ap (λ (m : Mode). storage_made old.replica.state m new.ticks) rest.0
    ∙ ap (λ (t : ℕ). storage_made old.replica.state old.mode t) rest.1

-- so is its role
pub role_same : (old new : StorageState) → member_in new ≡ member_in old → role_in new ≡ role_in old
role_same old new member = ap (λ (m : Member). StorageRole (record { 0 = m.shard }) (record { 0 = m.own })) member

-- what a part does is what its number does
pub part_turns : {J P : Type 0} (journalled : J → Journalled) (config : Shape) (number : ℕ) (old : Part J P) (happened : Happened) (after : NodeState)
    → IsSeated config number old
    → outcome_as (cluster_of old) (role_of old) (state_of journalled old) happened.input happened.mark ≡ Some (happened_as after happened)
    → node_outcome config number (state_of journalled old) happened.input happened.mark ≡ Some (happened_as after happened)
part_turns journalled config number old happened after seat turns =
    subst (λ (r : Role). outcome_as config r (state_of journalled old) happened.input happened.mark ≡ Some (happened_as after happened)) (sym seat.role)
    (subst (λ (c : Shape). outcome_as c (role_of old) (state_of journalled old) happened.input happened.mark ≡ Some (happened_as after happened)) seat.cluster turns)

-- an outcome is a row
pub is_row : (config : Shape) (number : ℕ) (old new : NodeState) (happened : Happened)
    → node_outcome config number old happened.input happened.mark ≡ Some (happened_as new happened) → IsRow config number old happened
is_row config number old new happened turns = record { made = happened_as new happened; rule = turns; outputs = refl; reply = refl }

-- the outcome of an event of a replica
pub storage_turns : (old new : StorageState) (input : Input) (effect : Effect) → IsTurn old input effect.mark effect.outputs effect.reply new
    → outcome_as (config_of old) (role_in old) (Storing (storage_state old)) input effect.mark
    ≡ Some (outcome_made (Storing (storage_state new)) effect.outputs effect.reply)
storage_turns old new input effect turn = ap (as_outcome Storing) turn.rule ∙ outcome_same turn.made.node (storage_state new) (sym turn.node)
  where
    outcome_same : (made now : StorageNode) → made ≡ now
        → Some (outcome_made (Storing made) turn.made.outputs turn.made.reply) ≡ Some (outcome_made (Storing now) effect.outputs effect.reply)
    outcome_same made now e =
        ap (λ (n : StorageNode). Some (outcome_made (Storing n) turn.made.outputs turn.made.reply)) e
        ∙ ap (λ (o : List Sent). Some (outcome_made (Storing now) o turn.made.reply)) (sym turn.outputs)
        ∙ ap (λ (r : Reply). Some (outcome_made (Storing now) effect.outputs r)) (sym turn.reply)

-- what the journals of a part tell is what those of its number tell
pub part_told : {J P : Type 0} (state : NodeState) (config : Shape) (number : ℕ) (old : Part J P) (media : List Medium) (input : Input) (mark : Mark)
    → IsSeated config number old → told_mark media (segment_put config (role_at config number) state input) ≡ Some mark
    → told_mark media (segment_put (cluster_of old) (role_of old) state input) ≡ Some mark
part_told state config number old media input mark seat tells =
    subst (λ (r : Role). told_mark media (segment_put (cluster_of old) r state input) ≡ Some mark) seat.role
    (subst (λ (c : Shape). told_mark media (segment_put c (role_at config number) state input) ≡ Some mark) (sym seat.cluster) tells)
