use Rattle.std.proofs.Common.{rules}
use Rattle.tied_cells.specs.Rule.{deal_of}
use Rattle.tied_cells.proofs.Sharing.{splits}
use Rattle.tied_cells.proofs.cells.Cells.split_pass.Goals as goal

pub split_seat-seat-requires : goal.split_seat-seat-requires
split_seat-seat-requires g c = (
  search rules,
  search rules,
  splits g.M.Machine.state g.M.Machine.meanings (deal_of g.M.Machine.state c.args.self.now.table.shared.key) c.args.first.now.id c.args.number c.args.first.now.me.0 c.requires.alive c.requires.given c.requires.more,
)
