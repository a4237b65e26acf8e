use Rattle.std.proofs.Common.{◌≡◌, ◌∙◌, List, Option, length, sym, ap, subst}
use Rattle.segment_journal.specs.declared.journal.OpenFault.TheVariants.{Failed as NotRead, Damaged, Memory}
use Rattle.shard_replica.specs.declared.lists.LastReload.{LastReload}
use Rattle.shard_replica.specs.Lists.{Medium}
use Rattle.shard_replica.specs.Replica.{ReplicaState}
use Rattle.storage_node.specs.Opening.{IsOpening}
use Rattle.storage_node.specs.Preparing.{IsReloaded}
use Rattle.storage_node.specs.StorageState.{StorageState}
use Rattle.storage_node.proofs.Openings.{are-read, opening-failed, opening-read}
use Rattle.storage_node.proofs.node.StorageNode.ready_to_start.Goals as goal

pub returns-in-Ok-clause-ready : goal.returns-in-Ok-clause-ready
returns-in-Ok-clause-ready g c =
    let old = c.self.inside.replica in
    let new = c.reload.new.self in
    let config = ap (λ (s : ReplicaState). s.config.replicas) c.reload.ensures.state in
    let size : length new.state.segments ≡ length new.media =
    ap (λ (s : ReplicaState). length s.segments) c.reload.ensures.state ∙ c.self.invariant.sound.count ∙ sym config ∙ sym c.reload.ensures.counted in
    let same : length old.media ≡ length new.media = c.reload.ensures.count ∙ sym config ∙ sym c.reload.ensures.counted in
    subst (λ (l : Option LastReload). IsReloaded l new) (sym c.in-Ok.ensures.ok)
    (are-read new.state.segments old.media new.media size same c.in-Ok.ensures.media.read c.in-Ok.ensures.flight)

pub returns-in-Ok-clause-opening : goal.returns-in-Ok-clause-opening
returns-in-Ok-clause-opening g c =
    let old = c.self.inside.replica in
    let new = c.reload.new.self in
    let config = ap (λ (s : ReplicaState). s.config.replicas) c.reload.ensures.state in
    let same : length old.media ≡ length new.media = c.reload.ensures.count ∙ sym config ∙ sym c.reload.ensures.counted in
    subst (λ (ms : List Medium). IsOpening new.last_reload ms new.media) (ap (λ (v : StorageState). v.replica.media) c.self.view_is)
    (subst (λ (l : Option LastReload). IsOpening l old.media new.media) (sym c.in-Ok.ensures.ok) (opening-read old.media new.media same c.in-Ok.ensures.media.read))

pub returns-in-Err-Failed-clause-opening : goal.returns-in-Err-Failed-clause-opening
returns-in-Err-Failed-clause-opening g c =
    let old = c.self.inside.replica in
    let new = c.reload.new.self in
    subst (λ (ms : List Medium). IsOpening new.last_reload ms new.media) (ap (λ (v : StorageState). v.replica.media) c.self.view_is)
    (subst (λ (l : Option LastReload). IsOpening l old.media new.media) (sym c.in-Err-Failed.ensures.err)
    (opening-failed old.media new.media c.in-Err-Failed.field-0 (λ e. let wrong : NotRead ≡ Memory = sym c.in-Err-Failed.field-0-is ∙ e in cc) c.in-Err-Failed.ensures.media))

pub returns-in-Err-Damaged-clause-opening : goal.returns-in-Err-Damaged-clause-opening
returns-in-Err-Damaged-clause-opening g c =
    let old = c.self.inside.replica in
    let new = c.reload.new.self in
    subst (λ (ms : List Medium). IsOpening new.last_reload ms new.media) (ap (λ (v : StorageState). v.replica.media) c.self.view_is)
    (subst (λ (l : Option LastReload). IsOpening l old.media new.media) (sym c.in-Err-Damaged.ensures.err)
    (opening-failed old.media new.media c.in-Err-Damaged.field-0 (λ e. let wrong : Damaged c.in-Err-Damaged.field-0-0 ≡ Memory = sym c.in-Err-Damaged.field-0-is ∙ e in cc) c.in-Err-Damaged.ensures.media))
