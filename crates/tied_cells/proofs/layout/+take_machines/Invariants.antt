use Rattle.std.proofs.Common.{vec_len}
use Rattle.tied_cells.proofs.layout.+take_machines.Given as goal

abbrev pub decreases-take_machines : goal.decreases-take_machines
decreases-take_machines g l = vec_len l.slots.now
