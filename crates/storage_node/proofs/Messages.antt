-- The rows of the messages that put nothing.
use Rattle.std.proofs.Common.{◌≡◌, ℕ, [], Some, refl, ap, ◌∙◌}
use Rattle.reply_frame.specs.declared.replies.Reply.{Nothing}
use Rattle.history_frame.specs.declared.inputs.Input.TheVariants.{Deliver}
use Rattle.history_frame.specs.declared.inputs.Mark.TheVariants.{Done}
use Rattle.log_base.specs.declared.numbers.Slot.{Slot}
use Rattle.log_model.specs.Learning.{known_after}
use Rattle.message_frame.specs.declared.messages.Message.TheVariants.{Decide}
use Rattle.node_model.specs.StorageRow.{on_decide}
use Rattle.record_frame.specs.declared.values.Value.{Value}
use Rattle.shard_replica.specs.Replica.{ReplicaState, lists_of, member_of}
use Rattle.storage_node.specs.declared.node.Mode.{Mode}
use Rattle.storage_node.specs.declared.node.Mode.TheVariants.{Running}
use Rattle.history_frame.specs.declared.events.Effect.{Effect}
use Rattle.storage_node.specs.StorageState.{StorageState, lists_in, member_in, memory_of, mode_of}
use Rattle.storage_node.specs.Turning.{TurnsOut}
use Rattle.storage_node.proofs.Counting.{counts-same}
use Rattle.storage_node.proofs.Rows.{as_node, turns-done}
use Rattle.storage_node.proofs.Starting.{silent-small}

-- a value is decided
pub turns-decided : (old new : StorageState) (place index : ℕ) (slot : Slot) (value : Value) (turn : Effect) → old.mode ≡ Running → new.mode ≡ Running → new.ticks ≡ old.ticks
    → new.replica.state ≡ record old.replica.state { known = known_after (member_in old) old.replica.state.known slot.0 value } → new.replica.media ≡ old.replica.media
    → turn.mark ≡ Done → turn.outputs ≡ [] → turn.reply ≡ Nothing → TurnsOut old (Deliver place index (Some (Decide slot value))) turn new
unfolding on_decide
turns-decided old new place index slot value turn running runs ticks state media mark outputs reply =
    let now : ReplicaState = record old.replica.state { known = known_after (member_in old) old.replica.state.known slot.0 value } in
    turns-done old new (Deliver place index (Some (Decide slot value))) (on_decide (member_in old) (memory_of old.replica.state old.ticks) slot.0 value) turn running refl mark
    (ap (λ (m : Mode). as_node (lists_in new) (mode_of m new.replica.state new.ticks)) runs
    ∙ ap (λ (s : ReplicaState). as_node (lists_of s) (mode_of Running s new.ticks)) state
    ∙ ap (λ (n : ℕ). as_node (lists_of now) (mode_of Running now n)) ticks)
    outputs reply (ap (λ (s : ReplicaState). s.config) state) (ap (λ (s : ReplicaState). member_of s) state) (silent-small turn.outputs turn.reply outputs reply) tt
    (counts-same old.replica.media new.replica.media media)
