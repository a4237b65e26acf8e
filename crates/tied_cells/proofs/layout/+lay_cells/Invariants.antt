use Rattle.std.proofs.Common.{vec_len}
use Rattle.tied_cells.proofs.layout.+lay_cells.Given as goal

abbrev pub decreases-lay_cells : goal.decreases-lay_cells
decreases-lay_cells g l = vec_len l.machines.now
