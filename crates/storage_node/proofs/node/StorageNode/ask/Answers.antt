use Rattle.std.proofs.Common.{◌≡◌, ◌∙◌, ap}
use Rattle.storage_node.specs.declared.node.Mode.TheVariants.{Running}
use Rattle.storage_node.specs.StorageState.{StorageState}
use Rattle.storage_node.proofs.Calls.{turns-asked}
use Rattle.storage_node.proofs.Sounding.{own-within, turned-same}
use Rattle.storage_node.proofs.node.StorageNode.ask.Goals as goal

pub returns-clause-turn : goal.returns-clause-turn
returns-clause-turn g c =
    let running : c.self.inside.mode ≡ Running = ap (λ (v : StorageState). v.mode) c.self.view_is ∙ c.requires in
    let within = own-within _ _ _ _ _ _ c.self.inside.seat.own_in c.self.invariant in
    turned-same _ _ _ _ c.self.view_is
    (turns-asked _ c.args.client c.args.number c.ask-answer.result c.silent.result running within.1 c.ask-answer.ensures
    c.silent.ensures.mark c.silent.ensures.outputs (c.silent.ensures.reply ∙ c.reply_to_ask.ensures))
