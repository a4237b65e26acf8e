use Rattle.std.proofs.Common.{◌≡◌, ◌≢◌}
use Rattle.tied_cells.specs.Rule.{nodes_of}
use Rattle.tied_cells.specs.Boxes.{first_box}
use Rattle.tied_cells.proofs.Tries.{HasTried}
use Rattle.tied_cells.proofs.cells.Cells.fetch_somewhere.Given as goal

abbrev pub invariant-loop-index : goal.invariant-loop-index
invariant-loop-index g l = record {
  table : l.seat.table_id ≡ l.fn.seat.table_id;
  tried : HasTried (λ found. found ≢ 1) (first_box (nodes_of l.fn.seat.me.0.deal) l.fn.node.0) l.index l.fn.seat.me l.seat.me;
}
