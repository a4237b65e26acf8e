use Rattle.std.proofs.Common.{Some, sym, subst}
use Rattle.history_frame.specs.declared.inputs.Input.TheVariants.{Deliver}
use Rattle.message_frame.specs.declared.messages.Message.{Message}
use Rattle.storage_node.specs.Preparing.{IsPrepared}
use Rattle.storage_node.proofs.Elements.{on-ok}
use Rattle.storage_node.proofs.node.StorageNode.prepare_message.Goals as goal

pub returns-in-Copy-clause-ready : goal.returns-in-Copy-clause-ready
returns-in-Copy-clause-ready g c =
    on-ok c.prepare_copy.result _ _
    (λ f place index. subst (λ (m : Message). IsPrepared c.prepare_copy.new.self (Deliver place index (Some m)) c.prepare_copy.new.out) (sym c.in-Copy.is) (f place index c.in-Copy.offset))
    c.prepare_copy.ensures.ready

pub returns-in-CopyAck-clause-ready : goal.returns-in-CopyAck-clause-ready
returns-in-CopyAck-clause-ready g c =
    on-ok c.prepare_copied.result _ _
    (λ f place index. subst (λ (m : Message). IsPrepared c.prepare_copied.new.self (Deliver place index (Some m)) c.prepare_copied.new.out) (sym c.in-CopyAck.is) (f place index))
    c.prepare_copied.ensures.ready
