use Rattle.std.proofs.Common.{◌∙◌, ◌++◌, List, Some, sym, ap, subst, map}
use Rattle.std.proofs.lemmas.List.{append-nil}
use Rattle.history_frame.specs.declared.events.Sent.{Sent}
use Rattle.history_frame.specs.declared.inputs.Input.TheVariants.{Deliver}
use Rattle.message_frame.specs.declared.messages.Message.{Message}
use Rattle.node_model.specs.Machine.{posted}
use Rattle.storage_node.specs.Turning.{TurnsOut}
use Rattle.storage_node.proofs.node.StorageNode.take.Goals as goal

pub returns-in-Copy-clause-turn : goal.returns-in-Copy-clause-turn
returns-in-Copy-clause-turn g c = λ place index.
    subst (λ (m : Message). TurnsOut c.args.self.now (Deliver place index (Some m)) c.copy.result c.copy.new.self) (sym c.in-Copy.is) (c.copy.ensures.turn place index)

pub returns-in-CopyAck-clause-turn : goal.returns-in-CopyAck-clause-turn
returns-in-CopyAck-clause-turn g c = λ place index.
    subst (λ (m : Message). TurnsOut c.args.self.now (Deliver place index (Some m)) c.copied.result c.copied.new.self) (sym c.in-CopyAck.is) (c.copied.ensures.turn place index)

pub returns-in-Decide-clause-turn : goal.returns-in-Decide-clause-turn
returns-in-Decide-clause-turn g c = λ place index.
    subst (λ (m : Message). TurnsOut c.args.self.now (Deliver place index (Some m)) c.decide.result c.decide.new.self) (sym c.in-Decide.is) (c.decide.ensures.turn place index)

pub returns-in-Decide-clause-letters : goal.returns-in-Decide-clause-letters
returns-in-Decide-clause-letters g c =
    sym (append-nil c.args.out.now.letters) ∙ ap (λ (l : List Sent). c.args.out.now.letters ++ map posted l) (sym c.decide.ensures.silent)
