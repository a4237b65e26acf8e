use Rattle.std.proofs.Common.{◌≡◌, ◌∙◌, ◌++◌, List, Some, sym, ap, subst, map}
use Rattle.std.proofs.lemmas.List.{append-nil}
use Rattle.history_frame.specs.declared.events.Sent.{Sent}
use Rattle.history_frame.specs.declared.inputs.Input.{Input}
use Rattle.history_frame.specs.declared.inputs.Input.TheVariants.{Deliver}
use Rattle.node_model.specs.Machine.{posted}
use Rattle.storage_node.specs.Turning.{TurnsOut}
use Rattle.storage_node.proofs.node.StorageNode.run.Goals as goal

pub returns-in-Some-clause-turn : goal.returns-in-Some-clause-turn
returns-in-Some-clause-turn g c =
    let w = c.in-Deliver in
    let is : c.args.input.now ≡ Deliver w.place w.index (Some c.in-Some.message) = w.is ∙ ap (Deliver w.place w.index) c.in-Some.is in
    subst (λ (i : Input). TurnsOut c.args.self.now i c.take.result c.take.new.self) (sym is) (c.take.ensures.turn w.place w.index)

pub returns-in-Call-clause-letters : goal.returns-in-Call-clause-letters
returns-in-Call-clause-letters g c =
    sym (append-nil c.args.out.now.letters) ∙ ap (λ (l : List Sent). c.args.out.now.letters ++ map posted l) (sym c.answer.ensures.silent)
