use Rattle.std.proofs.Common.{◌≡◌, ℕ, ◌-◌, List, ◌∷◌, [], Some, take, sym, ap, ◌∙◌, subst, add-one, arith}
use Rattle.std.specs.Prelude.{slice_get}
use Rattle.history_frame.specs.declared.events.Kept.{Kept}
use Rattle.cluster_disks.specs.Found.{TakesIn, TakesNot, kept_on}
use Rattle.cluster_disks.proofs.Copying.{on_split, on_take, takes_not, takes_on}
use Rattle.cluster_disks.proofs.kept.copy_journal.Goals as goal

pub returns-in-Err-clause-refused : goal.returns-in-Err-clause-refused
returns-in-Err-clause-refused g c =
    let payloads = c.args.journal.now.journal.payloads in
    let offset = c.loop-offset.offset in
    let place : offset - c.args.journal.now.journal.first ≡ offset = (let first = c.requires.first in omega arith) in
    let at = subst (λ (n : ℕ). slice_get payloads n ≡ Some c.get.result.now) place c.get.ensures.payload in
    let split = on_split c.args.disk payloads offset c.get.result.now at in
    subst (λ (l : List Kept). TakesNot l c.args.bytes c.in-Err.fault) (sym split.1)
    (takes_not (kept_on c.args.disk (take offset payloads)) (kept_on c.args.disk (c.get.result.now ∷ [])) split.0 c.args.bytes c.loop-offset.total c.args.kept.now.items c.loop-offset.kept.items c.in-Err.fault
    c.loop-offset.invariant c.in-Err.ensures.refused)

pub loop-offset-preserved : goal.loop-offset-preserved
loop-offset-preserved g c =
    let payloads = c.args.journal.now.journal.payloads in
    let offset = c.loop-offset.offset in
    let place : offset - c.args.journal.now.journal.first ≡ offset = (let first = c.requires.first in omega arith) in
    let at = subst (λ (n : ℕ). slice_get payloads n ≡ Some c.get.result.now) place c.get.ensures.payload in
    let next = ap (λ (n : ℕ). kept_on c.args.disk (take n payloads)) (add-one offset) ∙ on_take c.args.disk payloads offset c.get.result.now at in
    subst (λ (l : List Kept). TakesIn l c.args.bytes c.in-Ok.more c.args.kept.now.items c.copy_payload.new.kept.items) (sym next)
    (takes_on (kept_on c.args.disk (take offset payloads)) (kept_on c.args.disk (c.get.result.now ∷ [])) c.args.bytes c.loop-offset.total c.in-Ok.more c.args.kept.now.items c.loop-offset.kept.items c.copy_payload.new.kept.items
    c.loop-offset.invariant c.in-Ok.ensures.taken)
