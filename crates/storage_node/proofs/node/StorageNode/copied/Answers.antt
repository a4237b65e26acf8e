use Rattle.std.proofs.Common.{◌≡◌, ◌∙◌, refl, sym, ap, subst, rules}
use Rattle.std.specs.List.{AllByRecursion}
use Rattle.message_frame.specs.declared.messages.Message.TheVariants.{CopyAck}
use Rattle.storage_node.specs.declared.node.Mode.TheVariants.{Running}
use Rattle.storage_node.specs.Preparing.{IsLetter, copies_for_message}
use Rattle.storage_node.specs.StorageState.{StorageState}
use Rattle.storage_node.proofs.Sounding.{turned-from}
use Rattle.storage_node.proofs.Telling.{turns-copied}
use Rattle.storage_node.proofs.node.StorageNode.copied.Goals as goal

pub returns-clause-turn : goal.returns-clause-turn
returns-clause-turn g c = λ place index.
    let running : c.self.inside.mode ≡ Running = ap (λ (v : StorageState). v.mode) c.self.view_is ∙ c.requires.running in
    let outs : c.told.result.outputs ≡ c.self.inside.made.copies.items = search rules in
    turned-from _ _ _ _ _ c.self.view_is
    (turns-copied _ _ place index c.args.peer c.args.held c.told.result running running refl c.copy_ack.ensures.state c.copy_ack.ensures.media
    (subst (λ (v : StorageState). v.copies ≡ copies_for_message v (CopyAck c.args.peer c.args.held)) (sym c.self.view_is) c.requires.copies)
    (subst (λ (v : StorageState). AllByRecursion IsLetter v.copies) (sym c.self.view_is) c.requires.each)
    c.told.ensures.mark outs c.told.ensures.reply)
