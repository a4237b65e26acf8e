use Rattle.std.proofs.Common.{◌≡◌, ◌+◌, ◌++◌, replicate, vec_len, vec_capacity}
use Rattle.tied_cells.specs.declared.board.Stored.TheVariants.{Nothing}
use Rattle.tied_cells.proofs.layout.lay_boxes.Given as goal

-- so many boxes are there
abbrev pub invariant-loop : goal.invariant-loop
invariant-loop g l = record {
  items : l.slots.items ≡ l.fn.slots.items ++ replicate l.counter Nothing;
  len : vec_len l.slots ≡ vec_len l.fn.slots + l.counter;
  capacity : vec_capacity l.slots ≡ vec_capacity l.fn.slots;
}
