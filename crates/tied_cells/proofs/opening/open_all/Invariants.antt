use Rattle.std.proofs.Common.{map}
use Rattle.tied_cells.specs.Opening.{IsOpening}
use Rattle.tied_cells.proofs.opening.open_all.Given as goal

-- the inputs so far are events
abbrev pub invariant-inputs : goal.invariant-inputs
invariant-inputs g l = IsOpening g.M.Machine.state g.M.Machine.meanings (map g.M.Machine.state l.fn.starts.value.items) l.yielded l.slots.items l.made.items
