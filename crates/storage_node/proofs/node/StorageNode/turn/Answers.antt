use Rattle.std.proofs.Common.{◌∙◌, ◌++◌, List, sym, ap, map}
use Rattle.std.proofs.lemmas.List.{append-nil}
use Rattle.history_frame.specs.declared.events.Sent.{Sent}
use Rattle.node_model.specs.Machine.{posted}
use Rattle.storage_node.proofs.node.StorageNode.turn.Goals as goal

pub returns-in-Restart-clause-letters : goal.returns-in-Restart-clause-letters
returns-in-Restart-clause-letters g c =
    sym (append-nil c.args.out.now.letters) ∙ ap (λ (l : List Sent). c.args.out.now.letters ++ map posted l) (sym c.restart.ensures.silent)

pub returns-in-Stop-clause-letters : goal.returns-in-Stop-clause-letters
returns-in-Stop-clause-letters g c =
    sym (append-nil c.args.out.now.letters) ∙ ap (λ (l : List Sent). c.args.out.now.letters ++ map posted l) (sym c.stop.ensures.silent)

pub returns-in-Down : goal.returns-in-Down
returns-in-Down g c = record {
  turn = c.sleep.ensures.turn;
  letters = sym (append-nil c.args.out.now.letters) ∙ ap (λ (l : List Sent). c.args.out.now.letters ++ map posted l) (sym c.sleep.ensures.silent);
}
