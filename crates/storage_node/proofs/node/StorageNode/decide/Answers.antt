use Rattle.std.proofs.Common.{◌≡◌, ◌∙◌, refl, sym, ap, subst}
use Rattle.node_model.specs.Fits.{IsHeldIn}
use Rattle.storage_node.specs.declared.node.Mode.TheVariants.{Running}
use Rattle.storage_node.specs.StorageState.{StorageState, lists_in, member_in}
use Rattle.storage_node.proofs.Sounding.{storage-learned, turned-from}
use Rattle.storage_node.proofs.Messages.{turns-decided}
use Rattle.storage_node.proofs.node.StorageNode.decide.Goals as goal

pub invariant_of-self : goal.invariant_of-self
invariant_of-self g c =
    storage-learned _ _ _ c.self.inside.mode c.self.inside.replica.state _ _ c.args.slot.0 c.args.value.now c.requires.slot
    (subst (λ (v : StorageState). IsHeldIn (member_in v) (lists_in v) c.args.value.now) (sym c.self.view_is) c.requires.held) c.learn.ensures.state c.self.invariant

pub returns-clause-turn : goal.returns-clause-turn
returns-clause-turn g c = λ place index.
    let running : c.self.inside.mode ≡ Running = ap (λ (v : StorageState). v.mode) c.self.view_is ∙ c.requires.running in
    turned-from _ _ _ _ _ c.self.view_is
    (turns-decided _ _ place index c.args.slot c.args.value.now c.silent.result running running refl c.learn.ensures.state c.learn.ensures.media c.silent.ensures.mark c.silent.ensures.outputs c.silent.ensures.reply)
