-- What a registry keeps true, so that an addition needs no memory.
use Rattle.std.specs.Prelude.{ℕ, ◌+◌, ◌<◌, ◌≤◌, ◌==◌, map, length}
use Rattle.std.specs.List.{All, IsDistinct}
use Rattle.shard_registry.specs.Order.{Order, number}

-- The shards differ, each is below eight, and with the room that is left there is room for eight.
pub record HasRoomForEight (order : Order) (room : ℕ) : Type 0 where
  pub apart : IsDistinct (λ a b. a == b) (map number order)
  pub below : All (λ entry. number entry < 8) order
  pub all_fit : 8 ≤ length order + room
