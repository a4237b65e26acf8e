use Rattle.std.proofs.Common.{◌≡◌, ◌≤◌, ◌++◌, [], ◌∷◌, length, sym, ap, ◌∙◌, arith, vec_capacity}
use Rattle.std.proofs.lemmas.Grind.{common_steps}
use Rattle.disk_base.specs.Replay.{Kept, Recorded, after_sync}
use Rattle.disk_base.specs.declared.content.Step.TheVariants.{Synced}
use Rattle.disk_base.proofs.Orders.{sync_order, sync_kept}
use Rattle.disk_base.proofs.content.Content.sync.Goals as goal

pub invariant_of-self : goal.invariant_of-self
invariant_of-self c =
    let steps : c.push.new.self.items ≡ c.self.inside.steps.items ++ Synced ∷ [] = grind (arith, common_steps) in
    let due : 1 ≤ c.self.inside.syncs_due = omega arith in
    let below : c.len-self-inside.result ≡ length c.self.inside.bytes.items = c.len-self-inside.ensures ∙ sym c.deref.ensures.len ∙ ap length c.deref.ensures.value in
    sync_order _ _ _ _ _ _ _ _ _ _ _ _ _ _ c.self.invariant due c.push.new.self.items (vec_capacity c.copy_from.new.bytes) (vec_capacity c.push.new.self) steps (omega arith) (omega arith)
    c.copy_from.new.bytes.items c.len-self-inside.result (c.copy_from.ensures.items ∙ c.deref.ensures.value) below

pub returns-clause-after : goal.returns-clause-after
returns-clause-after c =
    let steps : c.push.new.self.items ≡ c.self.inside.steps.items ++ Synced ∷ [] = grind (arith, common_steps) in
    let due : 1 ≤ c.self.inside.syncs_due = omega arith in
    let kept = sync_kept _ _ _ _ _ _ _ _ _ _ _ _ _ _ c.self.invariant due c.push.new.self.items (vec_capacity c.copy_from.new.bytes) (vec_capacity c.push.new.self) steps (omega arith) (omega arith) in
    ap (λ (k : Kept). let r : Recorded = record { kept = k; writes_left = c.self.inside.writes_left; bytes_left = c.self.inside.bytes_left } in r) kept
    ∙ ap (λ (r : Recorded). let s : Recorded = record { kept = after_sync r.kept; writes_left = r.writes_left; bytes_left = r.bytes_left } in s) c.self.view_is
