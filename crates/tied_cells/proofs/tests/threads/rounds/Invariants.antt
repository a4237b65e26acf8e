use Rattle.std.proofs.Common.{◌≡◌}
use Rattle.tied_cells.specs.Turns.{HoldsNothing}
use Rattle.tied_cells.proofs.tests.threads.rounds.Given as goal

abbrev pub invariant-loop-round : goal.invariant-loop-round
invariant-loop-round l = record {
  table : l.pass.seat.table_id ≡ l.fn.pass.seat.table_id;
  number : l.pass.account.number ≡ l.fn.pass.account.number;
  free : HoldsNothing l.pass.seat.me;
}
