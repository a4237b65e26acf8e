use Rattle.std.proofs.Common.{◌≡◌, ℕ, ◌<◌, List, length, Option, Some, None, sym, ◌∙◌, arith, rules, true}
use Rattle.std.specs.Prelude.{remove, OnSome, IfNone, IsSome, is_some, ◌↔◌}
use Rattle.std.specs.VecDeque.{deque_len}
use Rattle.schedule_model.proofs.Kept.{remove_past}
use Rattle.serial_schedule.proofs.effects.drop_letter.Goals as goal

removed : {L M : Type 0} (old now : List L) (place len : ℕ) (taken : Option M) → len ≡ length old → OnSome taken (now ≡ remove old place)
    → IfNone taken (now ≡ old) → (IsSome taken ↔ (place < len)) → now ≡ remove old place
removed old now place len (Some x) e items none variant = items
removed {L = L} {M = M} old now place len None e items none variant =
    let past : place < len → ⊥ = λ lt. let some : is_some {T = M} None ≡ true = variant.1 lt in cc in
    none ∙ sym (remove_past L old place (omega (arith, e, past)))

pub returns : goal.returns
returns c =
    let count : deque_len c.args.queue.now ≡ length c.args.queue.now.items = search rules in
    let kept : IfNone c.remove.result (c.remove.new.self.items ≡ c.args.queue.now.items) = search (rules, c.remove.ensures.unchanged) in
    removed c.args.queue.now.items c.remove.new.self.items c.args.letter (deque_len c.args.queue.now) c.remove.result count c.remove.ensures.items kept
    c.remove.ensures.variant
