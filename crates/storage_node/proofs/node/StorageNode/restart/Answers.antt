use Rattle.std.proofs.Common.{◌≡◌, refl, sym, ap, subst}
use Rattle.segment_journal.specs.declared.journal.Installed.TheVariants.{Failed, OneMore, Same}
use Rattle.shard_replica.specs.Replica.{Replicated}
use Rattle.storage_node.specs.Preparing.{IsReloaded}
use Rattle.storage_node.specs.StorageState.{StorageState}
use Rattle.storage_node.proofs.Counting.{counts-installed}
use Rattle.storage_node.proofs.Sounding.{storage-down, turned-from}
use Rattle.storage_node.proofs.Starting.{storage-opened, turns-opened, turns-stayed}
use Rattle.storage_node.proofs.node.StorageNode.restart.Goals as goal

pub invariant_of-self : goal.invariant_of-self
invariant_of-self g c =
    storage-down _ _ _ c.self.inside.mode c.self.inside.replica.state _ _ (ap (λ (r : Replicated). r.state) (c.install.ensures.failed c.in-Failed.is)) c.self.invariant

pub returns-in-Failed-clause-turn : goal.returns-in-Failed-clause-turn
returns-in-Failed-clause-turn g c =
    turned-from _ _ _ _ _ c.self.view_is
    (turns-stayed _ _ c.silent.result c.self.invariant.sound (sym c.in-Failed.ensures.answer) (ap (λ (r : Replicated). r.state) (c.install.ensures.failed c.in-Failed.is)) refl
    (counts-installed _ _ c.install.ensures.faults c.install.ensures.keeps) c.silent.ensures.mark c.silent.ensures.outputs c.silent.ensures.reply)

pub invariant_of-self-in-OneMore : goal.invariant_of-self-in-OneMore
invariant_of-self-in-OneMore g c =
    storage-opened _ _ _ c.self.inside.mode c.self.inside.replica _ _ OneMore (λ (e : OneMore ≡ Failed). cc) c.self.invariant
    (subst (λ (v : StorageState). IsReloaded v.replica.last_reload v.replica) (sym c.self.view_is) c.requires) c.in-OneMore.ensures.answer c.install.ensures.state

pub returns-in-OneMore-clause-turn : goal.returns-in-OneMore-clause-turn
returns-in-OneMore-clause-turn g c =
    turned-from _ _ _ _ _ c.self.view_is
    (turns-opened _ _ c.silent-in-OneMore.result OneMore c.self.invariant.sound
    (subst (λ (v : StorageState). IsReloaded v.replica.last_reload v.replica) (sym c.self.view_is) c.requires)
    c.in-OneMore.ensures.answer (λ (e : OneMore ≡ Failed). cc) c.install.ensures.state refl refl
    (counts-installed _ _ c.install.ensures.faults c.install.ensures.keeps) c.silent-in-OneMore.ensures.mark c.silent-in-OneMore.ensures.outputs c.silent-in-OneMore.ensures.reply)

pub invariant_of-self-in-Same : goal.invariant_of-self-in-Same
invariant_of-self-in-Same g c =
    storage-opened _ _ _ c.self.inside.mode c.self.inside.replica _ _ Same (λ (e : Same ≡ Failed). cc) c.self.invariant
    (subst (λ (v : StorageState). IsReloaded v.replica.last_reload v.replica) (sym c.self.view_is) c.requires) c.in-Same.ensures.answer c.install.ensures.state

pub returns-in-Same-clause-turn : goal.returns-in-Same-clause-turn
returns-in-Same-clause-turn g c =
    turned-from _ _ _ _ _ c.self.view_is
    (turns-opened _ _ c.silent-in-Same.result Same c.self.invariant.sound
    (subst (λ (v : StorageState). IsReloaded v.replica.last_reload v.replica) (sym c.self.view_is) c.requires)
    c.in-Same.ensures.answer (λ (e : Same ≡ Failed). cc) c.install.ensures.state refl refl
    (counts-installed _ _ c.install.ensures.faults c.install.ensures.keeps) c.silent-in-Same.ensures.mark c.silent-in-Same.ensures.outputs c.silent-in-Same.ensures.reply)
