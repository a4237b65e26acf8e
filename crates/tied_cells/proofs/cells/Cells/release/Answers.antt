use Rattle.std.proofs.Common.{rules, refl}
use Rattle.atomic_table.specs.Table.{rest}
use Rattle.tied_cells.specs.Rule.{deal_of}
use Rattle.tied_cells.proofs.TurnSteps.{releases}
use Rattle.tied_cells.proofs.cells.Cells.release.Goals as goal

pub store-requires : goal.store-requires
store-requires g c = (search rules, search rules, releases g.M.Machine.state g.M.Machine.meanings (deal_of g.M.Machine.state c.args.self.now.table.shared.key) c.args.self.now.table.shared.table_id.slots c.args.self.now.nodes c.exchange.new.seat.id c.args.held.node.0 c.exchange.new.seat.me c.args.pass.now.seat.me.0 c.args.held.cell (record { node = c.args.held.node.0; events = c.args.held.cell.events.items }) (rest c.args.pass.now.seat.me.1) c.exchange.ensures.3 c.args.self.now.sized.0 c.requires.node c.args.pass.now.is_alive c.requires.turn.0 refl refl c.requires.stands)
