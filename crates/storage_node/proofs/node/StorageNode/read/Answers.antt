use Rattle.std.proofs.Common.{◌≡◌, ◌∙◌, ◌≤◌, length, refl, sym, ap, subst}
use Rattle.reply_frame.specs.declared.replies.Reply.{Reply}
use Rattle.reply_frame.specs.Replies.{reply_bytes}
use Rattle.storage_node.specs.declared.node.Mode.TheVariants.{Running}
use Rattle.storage_node.specs.StorageState.{StorageState}
use Rattle.storage_node.proofs.Calls.{looked-reply, looked-short, turns-looked}
use Rattle.storage_node.proofs.Sounding.{turned-from}
use Rattle.storage_node.proofs.node.StorageNode.read.Goals as goal

pub returns-clause-turn : goal.returns-clause-turn
returns-clause-turn g c =
    let running : c.self.inside.mode ≡ Running = ap (λ (v : StorageState). v.mode) c.self.view_is ∙ c.requires.running in
    let reply = c.silent.ensures.reply ∙ c.reply_to_read-reply.ensures in
    turned-from _ _ _ _ _ c.self.view_is
    (turns-looked _ _ c.args.client c.args.position c.silent.result running running refl refl c.silent.ensures.mark c.silent.ensures.outputs
    (reply ∙ looked-reply c.args.position c.read.result _ c.read.ensures.answer)
    (subst (λ (r : Reply). length (reply_bytes r) ≤ 65558) (sym reply) (looked-short c.args.position c.read.result c.read.ensures.size)))
