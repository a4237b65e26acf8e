use Rattle.std.proofs.Common.{◌≡◌, ◌∙◌, Some, sym, ap, subst}
use Rattle.history_frame.specs.declared.inputs.Input.{Input}
use Rattle.history_frame.specs.declared.inputs.Input.TheVariants.{Deliver}
use Rattle.storage_node.specs.Preparing.{IsPrepared}
use Rattle.storage_node.proofs.Elements.{on-ok}
use Rattle.storage_node.proofs.node.StorageNode.prepare.Goals as goal

pub returns-in-Some-clause-ready : goal.returns-in-Some-clause-ready
returns-in-Some-clause-ready g c =
    let w = c.in-Deliver in
    let is : c.args.input.now ≡ Deliver w.place w.index (Some c.in-Some.message) = w.is ∙ ap (Deliver w.place w.index) c.in-Some.is in
    on-ok c.prepare_message.result _ _
    (λ f. subst (λ (i : Input). IsPrepared c.prepare_message.new.self i c.prepare_message.new.out) (sym is) (f w.place w.index))
    c.prepare_message.ensures.ready
