use Rattle.std.proofs.Common.{arith, ◌≡◌, length, sym, subst}
use Rattle.std.specs.Slots.{slots_items}
use Rattle.tied_cells.specs.Rule.{deal_of}
use Rattle.tied_cells.specs.Closing.{IsClosed}
use Rattle.tied_cells.proofs.Closes.{ends, closes}
use Rattle.tied_cells.proofs.cells.Cells.finish.Goals as goal

pub take_cells-requires-clause-cells : goal.take_cells-requires-clause-cells
take_cells-requires-clause-cells g c =
    let state = g.M.Machine.state in let m = g.M.Machine.meanings in let deal = deal_of state c.args.self.table.shared.key in let closed = c.close_with-closed in
    let e = ends state m deal c.args.seat.id c.args.seat.me.0 (slots_items closed.result.words) (slots_items closed.result.slots) c.requires.alive c.requires.no_turn c.requires.all closed.ensures.values.2 in
    let long = closed.result.slots.ok.0 in let many = e.many in let slots = closed.ensures.counts.1 in let sized = c.args.self.sized.0 in
    let nodes : c.args.self.nodes ≡ length deal.starts = omega arith in
    λ node below. let cell = e.cells node (omega arith) in (cell.0, cell.1)

pub returns : goal.returns
returns g c =
    let state = g.M.Machine.state in let m = g.M.Machine.meanings in let deal = deal_of state c.args.self.table.shared.key in let closed = c.close_with-closed in
    let e = ends state m deal c.args.seat.id c.args.seat.me.0 (slots_items closed.result.words) (slots_items closed.result.slots) c.requires.alive c.requires.no_turn c.requires.all closed.ensures.values.2 in
    let long = closed.result.slots.ok.0 in let many = e.many in let slots = closed.ensures.counts.1 in let sized = c.args.self.sized.0 in
    let nodes : c.args.self.nodes ≡ length deal.starts = omega arith in
    subst (λ lists. IsClosed state m deal c.args.seat.me.0 c.take_cells.new.machines.items lists) (sym c.of.ensures)
    (closes state m deal c.args.seat.me.0 (slots_items closed.result.slots) c.args.self.nodes c.take_cells.new.machines.items c.take_cells.new.events.items e nodes c.take_cells.ensures.taken)
