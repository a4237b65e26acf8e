use Rattle.std.proofs.Common.{rules, arith, ◌≡◌, ◌∷◌, Some, ◌∙◌}
use Rattle.atomic_table.specs.Table.{rest}
use Rattle.tied_cells.specs.Rule.{deal_of, nodes_of, box_node}
use Rattle.tied_cells.specs.Views.{fetching, addressed}
use Rattle.tied_cells.specs.declared.board.Stored.TheVariants.{Nothing, Mail}
use Rattle.tied_cells.proofs.Standing.{front}
use Rattle.tied_cells.proofs.BoxSteps.{fetches, frees}
use Rattle.tied_cells.proofs.cells.Cells.fetch_from.Goals as goal

pub compare_exchange-found-requires : goal.compare_exchange-found-requires
compare_exchange-found-requires g c = (
  search rules,
  search rules,
  fetches g.M.Machine.state g.M.Machine.meanings (deal_of g.M.Machine.state c.args.self.now.table.shared.key) c.args.self.now.table.shared.table_id.slots c.args.self.now.nodes c.args.seat.now.id c.args.slot c.args.mark
      c.args.seat.now.me g.met.M.Machine.deliveries_fit c.args.self.now.sized.0 c.requires.slot.0 c.requires.slot.1 c.requires.alive c.requires.free c.requires.mark,
)

pub exchange-requires : goal.exchange-requires
exchange-requires g c = let t = c.compare_exchange-found.ensures.2.0 c.if-found-ne1.false in let same : t.0 ≡ c.args.slot = omega (arith, t.2) in
    (search rules, (Mail t.1, front c.compare_exchange-found.new.seat.me.1 c.args.slot (Mail t.1) c.args.seat.now.me.1 ((λ i. (t.3 i).1) ∙ (λ i. (same i, Mail t.1) ∷ c.args.seat.now.me.1))))

pub store-requires : goal.store-requires
store-requires g c = let t = c.compare_exchange-found.ensures.2.0 c.if-found-ne1.false in let same : t.0 ≡ c.args.slot = omega (arith, t.2) in
    let old = c.args.seat.now.me in (
      search rules,
      search rules,
      frees g.M.Machine.state g.M.Machine.meanings (deal_of g.M.Machine.state c.args.self.now.table.shared.key) c.args.self.now.table.shared.table_id.slots c.exchange.new.seat.id c.args.slot
          c.exchange.new.seat.me (fetching old.0 t.0 (addressed (box_node (nodes_of old.0.deal) t.0) t.1)) old.1 (c.exchange.ensures.3 ∙ (λ i. ((t.3 i).0, (c.args.slot, Nothing) ∷ rest (t.3 i).1)))
          c.requires.alive (λ i. Some (same i)),
    )
