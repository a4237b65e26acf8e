use Rattle.std.proofs.Common.{◌≡◌, ◌+◌, ◌≤◌, ◌++◌, [], ◌∷◌, ◌∙◌, ap, sym, subst, length, arith, vec_capacity, List}
use Rattle.std.proofs.lemmas.Grind.{common_steps}
use Rattle.std.proofs.lemmas.List.{length-map}
use Rattle.segment_journal.specs.Listed.{Listed}
use Rattle.segment_journal.specs.Listing.{AreInOrder}
use Rattle.segment_journal.specs.declared.payloads.Held.{Held}
use Rattle.segment_journal.proofs.Places.{end-small, push-order}
use Rattle.segment_journal.proofs.payloads.Payloads.push.Goals as goal

pub overflow_add-self-2 : goal.overflow_add-self-2
overflow_add-self-2 c =
    omega (arith, end-small c.self.inside.held.items c.self.inside.end c.self.invariant, ap length c.get.ensures, c.requires.payload.size)

pub invariant_of-self : goal.invariant_of-self
invariant_of-self c =
    let held = c.self.inside.held.items in
    let count : length c.args.self.now.list ≡ length held = ap (λ (l : Listed). length l.list) (sym c.self.view_is) ∙ length-map held (λ (h : Held). h.payload) in
    let room : length held + 1 ≤ vec_capacity c.self.inside.held = omega (arith, subst (λ (l : Listed). length l.list + 1 ≤ l.capacity) (sym c.self.view_is) c.requires.room, length-map held (λ (h : Held). h.payload)) in
    let items : c.push.new.self.items ≡ held ++ record { gate = c.self.inside.end; payload = c.args.payload } ∷ [] = grind (arith, common_steps) in
    subst (λ (l : List Held). AreInOrder l (c.self.inside.end + (5 + length c.get.result.now))) (sym items)
    (push-order held c.self.inside.end c.args.payload _ c.self.invariant c.requires.payload (omega (arith, count, c.requires.few)) (omega (arith, ap length c.get.ensures)))
