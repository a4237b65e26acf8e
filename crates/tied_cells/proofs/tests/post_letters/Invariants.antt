use Rattle.std.proofs.Common.{◌≡◌}
use Rattle.tied_cells.specs.Turns.{HoldsNothing}
use Rattle.tied_cells.proofs.tests.post_letters.Given as goal

abbrev pub invariant-loop : goal.invariant-loop
invariant-loop g l = record {
  table : l.pass.seat.table_id ≡ l.fn.pass.seat.table_id;
  free : HoldsNothing l.pass.seat.me;
}
