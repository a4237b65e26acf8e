use Rattle.std.proofs.Common.{◌≡◌, Some, map, vec_len, vec_capacity}
use Rattle.tied_cells.proofs.Handed.{SomePasses}
use Rattle.tied_cells.proofs.cells.Cells.hand_out.Given as goal

-- so many passes are handed out
abbrev pub invariant-loop-number : goal.invariant-loop-number
invariant-loop-number g l = record {
  table : l.first.table_id ≡ l.fn.first.table_id;
  view : l.first.me ≡ (record l.fn.first.me.0 { given = Some l.number }, l.fn.first.me.1);
  passes : SomePasses l.fn.first.table_id l.fn.first.me.0.deal l.fn.account.room l.number (map (λ p. (p.seat, p.account)) l.handed.items);
  len : vec_len l.handed ≡ l.number;
  capacity : vec_capacity l.handed ≡ vec_capacity l.fn.handed;
}
