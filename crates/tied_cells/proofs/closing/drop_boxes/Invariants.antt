use Rattle.std.proofs.Common.{◌≡◌, ◌≤◌, ◌<◌, ℕ, false, IsTrue}
use Rattle.std.specs.Prelude.{slice_index_or}
use Rattle.std.specs.Slots.{slots_filled, slots_len}
use Rattle.tied_cells.proofs.closing.drop_boxes.Given as goal

-- the slots so far are empty, and the others are full
abbrev pub invariant-loop-slot : goal.invariant-loop-slot
invariant-loop-slot g l = record {
  len : slots_len l.closed.slots ≡ slots_len l.fn.closed.slots;
  filled : (k : ℕ) → l.slot ≤ k → k < slots_len l.fn.closed.slots → IsTrue (slice_index_or (slots_filled l.closed.slots) k false);
  emptied : (k : ℕ) → k < l.slot → slice_index_or (slots_filled l.closed.slots) k false ≡ false;
}
