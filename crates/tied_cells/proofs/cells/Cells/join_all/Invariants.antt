use Rattle.std.proofs.Common.{◌≡◌, ◌⊎◌, ℕ, true, Some, slice_get, vec_len, List}
use Rattle.tied_cells.specs.declared.board.Own.{Own}
use Rattle.tied_cells.specs.Closing.{IsPartOf}
use Rattle.tied_cells.proofs.cells.Cells.join_all.Given as goal

-- each pass is still to be joined, or part of the one
abbrev pub invariant-passes : goal.invariant-passes
invariant-passes g l = record {
  table : l.seat.table_id ≡ l.fn.seat.table_id;
  alive : l.seat.me.0.alive ≡ true;
  turn : l.seat.me.0.turn ≡ l.fn.seat.me.0.turn;
  before : (number : ℕ) (own : List (Own g.row.M-Happened.Denot)) → IsPartOf number own l.fn.seat.me.0 → IsPartOf number own l.seat.me.0;
  joined : (k : ℕ) (pass : _) → slice_get l.fn.passes.items k ≡ Some pass → (slice_get l.passes.items k ≡ Some pass) ⊎ IsPartOf pass.account.number pass.seat.me.0.own l.seat.me.0;
  left : (k : ℕ) (pass : _) → slice_get l.passes.items k ≡ Some pass → slice_get l.fn.passes.items k ≡ Some pass;
}

abbrev pub decreases-passes : goal.decreases-passes
decreases-passes g l = vec_len l.passes
