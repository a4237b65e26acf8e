-- Each item adds at most one to what a log has decided and what its lanes have drawn.
use Rattle.std.proofs.Common.{ℕ, zero, suc, ◌+◌, ◌≤◌, List, [], ◌∷◌, length, length-append, replicate, Option, None, Some, arith}
use Rattle.std.specs.Prelude.{slice_index, slice_set}
use Rattle.std.proofs.lemmas.Bool.{cond_both}
use Rattle.log_base.specs.ClusterShape.{Shape}
use Rattle.record_frame.specs.declared.values.Value.{Value}
use Rattle.record_frame.specs.declared.values.Value.TheVariants.{Add as AddValue, Finalise as FinaliseValue, Trim as TrimValue}
use Rattle.record_frame.specs.declared.entries.Entry.{Entry}
use Rattle.log_model.specs.Chain.{Standing, Live, Frozen}
use Rattle.command_frame.specs.declared.items.Item.{Item}
use Rattle.command_frame.specs.declared.items.Item.TheVariants.{Append, Read, Subscribe, Trim, Add, Finalise, Ask, Fault}
use Rattle.plain_log.specs.Log.{LogState, start, after, after_entry, knows, standing_of, drawn, stored, with_value, next_entry}
use Rattle.plain_log.specs.Halting.{after_down}
use Rattle.plain_log.specs.Room.{HasRoom}

zeros : (count at : ℕ) → slice_index (replicate count 0) at ≤ 0
zeros zero at = omega arith
zeros (suc count) zero = omega arith
zeros (suc count) (suc at) = zeros count at

pub room_start : (shape : Shape) → HasRoom (start shape) 0
room_start shape = record { values = omega arith; draws = zeros 64 }

-- one element is set to at most one more
set_bound : (numbers : List ℕ) (at value k most : ℕ) → value ≤ most + 1 → ((i : ℕ) → slice_index numbers i ≤ most)
    → slice_index (slice_set numbers at value) k ≤ most + 1
set_bound [] at value k most small bound = omega (arith, bound k)
set_bound (first ∷ rest) zero value zero most small bound = small
set_bound (first ∷ rest) zero value (suc k) most small bound = omega (arith, bound (suc k))
set_bound (first ∷ rest) (suc at) value zero most small bound = omega (arith, bound 0)
set_bound (first ∷ rest) (suc at) value (suc k) most small bound = set_bound rest at value k most small (λ i. bound (suc i))

room_drawn : (state : LogState) (lane shard replica most : ℕ) → HasRoom state most → HasRoom (drawn state lane shard replica) (most + 1)
room_drawn state lane shard replica most room = record {
  values = omega (arith, room.values);
  draws = λ k. set_bound state.draws lane (slice_index state.draws lane + 1) k most (omega (arith, room.draws lane)) room.draws;
}

room_stored : (replicas : ℕ) (state : LogState) (shard segment most : ℕ) (entry : Entry) → length state.values ≤ most
    → ((lane : ℕ) → slice_index state.draws lane ≤ most + 1) → HasRoom (stored replicas state shard segment entry) (most + 1)
room_stored replicas state shard segment most entry values draws =
    record { values = omega (arith, values, length-append {A = Value}); draws = draws }

room_entry : (replicas : ℕ) (state : LogState) (lane shard segment most : ℕ) (entry : Entry) (standing : Option Standing) → HasRoom state most
    → HasRoom (after_entry replicas (drawn state lane shard segment) shard segment entry standing) (most + 1)
room_entry replicas state lane shard segment most entry None room = room_drawn state lane shard segment most room
room_entry replicas state lane shard segment most entry (Some Frozen) room = room_drawn state lane shard segment most room
room_entry replicas state lane shard segment most entry (Some Live) room =
    room_stored replicas (drawn state lane shard segment) shard segment most entry room.values (room_drawn state lane shard segment most room).draws

-- nothing or one value joins
room_same : (state : LogState) (most : ℕ) → HasRoom state most → HasRoom state (most + 1)
room_same state most room = record { values = omega (arith, room.values); draws = λ k. omega (arith, room.draws k) }

room_value : (state : LogState) (value : Value) (most : ℕ) → HasRoom state most → HasRoom (with_value state value) (most + 1)
room_value state value most room =
    record { values = omega (arith, room.values, length-append state.values (value ∷ [])); draws = λ k. omega (arith, room.draws k) }

pub room_after : (shape : Shape) (run : ℕ) (state : LogState) (item : Item) (most : ℕ) → HasRoom state most → HasRoom (after shape run state item) (most + 1)
room_after shape run state (Append lane shard replica bytes) most room =
    room_entry shape.replicas state lane shard.0 replica.0 most (next_entry run state lane bytes) (standing_of shape.replicas state shard.0) room
room_after shape run state (Read lane shard replica position) most room = room_same state most room
room_after shape run state (Subscribe lane shard replica from count) most room = room_same state most room
room_after shape run state (Trim lane position) most room = room_value state (TrimValue position) most room
room_after shape run state (Add lane shard) most room = room_value state (AddValue shard) most room
room_after shape run state (Finalise lane shard) most room =
    cond_both (knows shape.replicas state shard.0) (with_value state (FinaliseValue shard)) state (λ (next : LogState). HasRoom next (most + 1))
    (λ _. room_value state (FinaliseValue shard) most room) (λ _. room_same state most room)
room_after shape run state (Ask lane) most room = room_same state most room
room_after shape run state (Fault lane fault) most room = room_same state most room

pub room_down : (shape : Shape) (run : ℕ) (state : LogState) (item : Item) (most : ℕ) → HasRoom state most → HasRoom (after_down shape run state item) (most + 1)
room_down shape run state (Append lane shard replica bytes) most room = room_drawn state lane shard.0 replica.0 most room
room_down shape run state (Read lane shard replica position) most room = room_same state most room
room_down shape run state (Subscribe lane shard replica from count) most room = room_same state most room
room_down shape run state (Trim lane position) most room = room_value state (TrimValue position) most room
room_down shape run state (Add lane shard) most room = room_value state (AddValue shard) most room
room_down shape run state (Finalise lane shard) most room = room_after shape run state (Finalise lane shard) most room
room_down shape run state (Ask lane) most room = room_same state most room
room_down shape run state (Fault lane fault) most room = room_same state most room
