use Rattle.std.proofs.Common.{◌≡◌, ◌≤◌, ◌<◌, ℕ, false, vec_len, vec_capacity, IsTrue}
use Rattle.std.specs.Prelude.{slice_index_or}
use Rattle.std.specs.Slots.{slots_items, slots_filled, slots_len}
use Rattle.tied_cells.specs.Closing.{AreTaken}
use Rattle.tied_cells.proofs.closing.take_cells.Given as goal

-- so many cells are taken out
abbrev pub invariant-loop-node : goal.invariant-loop-node
invariant-loop-node g l = record {
  slots : slots_items l.closed.slots ≡ slots_items l.fn.closed.slots;
  len : slots_len l.closed.slots ≡ slots_len l.fn.closed.slots;
  filled : (k : ℕ) → l.node ≤ k → k < slots_len l.fn.closed.slots → IsTrue (slice_index_or (slots_filled l.closed.slots) k false);
  emptied : (k : ℕ) → k < l.node → slice_index_or (slots_filled l.closed.slots) k false ≡ false;
  taken : AreTaken l.node (slots_items l.fn.closed.slots) l.machines.items l.events.items;
  machines : vec_len l.machines ≡ l.node;
  events : vec_len l.events ≡ l.node;
  machine_room : vec_capacity l.machines ≡ vec_capacity l.fn.machines;
  event_room : vec_capacity l.events ≡ vec_capacity l.fn.events;
}
