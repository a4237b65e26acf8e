use Rattle.std.proofs.Common.{arith, ◌≡◌, ◌≢◌, ◌+◌, ◌++◌, ◌∷◌, [], ℕ, false, sym, ap, ◌∙◌, subst, ⊎_elim, get_or, set, get_or-set_other, IsTrue}
use Rattle.std.proofs.lemmas.Bool.{cases_eq}
use mathlib.Core.Option.{some}
use lib.ListN.{get_elem?}
use Rattle.std.specs.Slots.{slots_items, slots_filled}
use Rattle.tied_cells.specs.declared.board.Stored.TheVariants.{Home}
use Rattle.tied_cells.specs.Closing.{AreTaken}
use Rattle.tied_cells.proofs.Emptied.{set_false, taken_more, same_home}
use Rattle.tied_cells.proofs.closing.take_cells.Goals as goal

pub unreachable-requires : goal.unreachable-requires
unreachable-requires g c = let cell = c.requires.cells c.loop-node.node (omega arith) in
    c.in_default.not-Home cell.0 (same_home (slots_items c.args.closed.now.slots) (slots_items c.loop-node.closed.slots) c.loop-node.node c.take.result cell.0 c.loop-node.invariant.slots c.take.ensures.value cell.1)

pub loop-node-preserved : goal.loop-node-preserved
loop-node-preserved g c =
    let inv = c.loop-node.invariant in let o = c.take.ensures.others in let node = c.loop-node.node in
    let at : get_elem? (slots_items c.args.closed.now.slots) node ≡ some (Home c.in-Home.cell) =
    ap (λ l. get_elem? l node) (sym inv.slots) ∙ (c.take.ensures.value ∙ ap (λ x. some x) c.in-Home.is) in
    record {
      slots = o.0 ∙ inv.slots;
      len = o.2 ∙ inv.len;
      filled = λ k above below. subst (λ filled. IsTrue (get_or filled k false)) (sym o.1)
          (subst IsTrue (sym (get_or-set_other (slots_filled c.loop-node.closed.slots) node k false false (λ e. omega arith))) (inv.filled k (omega arith) below));
      emptied = λ k below. ap (λ filled. get_or filled k false) o.1 ∙ ⊎_elim
          (λ (e : k ≡ node). subst (λ (j : ℕ). get_or (set (slots_filled c.loop-node.closed.slots) j false) k false ≡ false) e (set_false (slots_filled c.loop-node.closed.slots) k))
          (λ (ne : k ≢ node). get_or-set_other (slots_filled c.loop-node.closed.slots) node k false false ne ∙ inv.emptied k (omega arith))
          (cases_eq k node);
      taken = subst (λ lists. AreTaken (node + 1) (slots_items c.args.closed.now.slots) c.push_reserved.new.self.items lists)
          (sym (c.push_reserved-in-Home.ensures.items ∙ ap (λ list. c.loop-node.events.items ++ list ∷ []) c.of.ensures))
          (subst (λ machines. AreTaken (node + 1) (slots_items c.args.closed.now.slots) machines (c.loop-node.events.items ++ c.in-Home.cell.events.items ∷ [])) (sym c.push_reserved.ensures.items)
          (taken_more node (slots_items c.args.closed.now.slots) c.loop-node.machines.items c.loop-node.events.items c.in-Home.cell inv.taken at));
      machines = c.push_reserved.ensures.len ∙ ap (λ n. n + 1) inv.machines;
      events = c.push_reserved-in-Home.ensures.len ∙ ap (λ n. n + 1) inv.events;
      machine_room = c.push_reserved.ensures.capacity ∙ inv.machine_room;
      event_room = c.push_reserved-in-Home.ensures.capacity ∙ inv.event_room;
    }
