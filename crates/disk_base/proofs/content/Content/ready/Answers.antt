use Rattle.std.proofs.Common.{◌≡◌, ◌+◌, ◌≤◌, length, sym, ap, ◌∙◌, subst, arith, vec_capacity, vec_len}
use Rattle.std.proofs.lemmas.Grind.{common_steps}
use Rattle.disk_base.proofs.Orders.{ready_order}
use Rattle.disk_base.proofs.content.Content.ready.Goals as goal

-- the copies were made now or before, and each vector has the room
pub invariant_of-self-2 : goal.invariant_of-self-2
invariant_of-self-2 c =
    let e = c.copy_once.ensures in
    let ok = c.in_ok-copy_once.ensures in
    let bytes : c.reserve.new.self.items ≡ c.self.inside.bytes.items = c.reserve.ensures.items in
    let lent : c.deref.result.now ≡ c.self.inside.bytes.items = c.deref.ensures.value ∙ bytes in
    let size : length c.self.inside.bytes.items ≡ vec_len c.reserve.new.self = sym (ap length lent) ∙ c.deref.ensures.len in
    let bytes_room : length c.self.inside.bytes.items + c.args.extra ≤ vec_capacity c.reserve.new.self = grind (arith, common_steps, size, c.in_ok-reserve.ensures) in
    let synced_room : length c.self.inside.bytes.items + c.args.extra ≤ vec_capacity c.reserve_to.new.bytes = grind (arith, common_steps, size, c.in_ok-reserve_to.ensures, c.len.ensures) in
    let written_room : length c.self.inside.written.items + c.args.extra ≤ vec_capacity c.reserve-2.new.self = grind (arith, common_steps, c.in_ok-reserve-2.ensures) in
    let steps_room : length c.self.inside.steps.items + 17 ≤ vec_capacity c.reserve-3.new.self = grind (arith, common_steps, c.in_ok-reserve-3.ensures) in
    ready_order _ _ _ _ _ _ _ _ _ _ _ _ _ _ _ _ _ _ _ _ _ _ _ c.args.extra _ c.self.invariant
    (λ is. ap (λ v. v.items) (e.kept_first is))
    (λ is. c.reserve_to.ensures.items ∙ ap (λ v. v.items) (e.kept_synced is))
    (λ is. ok.first is ∙ lent)
    (λ is. c.reserve_to.ensures.items ∙ ok.synced is ∙ lent)
    bytes c.reserve-2.ensures.items c.reserve-3.ensures.items (omega arith) (λ is. subst (λ v. vec_capacity v ≤ vec_capacity c.reserve_to.new.bytes) (e.kept_synced is) c.reserve_to.ensures.capacity) (omega arith)
    bytes_room synced_room written_room steps_room (omega arith)
