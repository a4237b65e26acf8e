-- The items that are made from a seed. A number is moved on before each item, and the item in a place is a function
-- of its place and of that number.
use Rattle.std.specs.Prelude.{ℕ, zero, suc, ◌+◌, ◌*◌, ◌/◌, ◌%◌, ◌^◌, List, map, nat_lt, ◌==◌, if◌then◌else◌}
use Rattle.std.specs.List.{flat_map, range_with_len}
use Rattle.log_base.specs.ClusterShape.{Shape}
use Rattle.command_frame.specs.declared.items.Item.TheVariants.{Append, Read, Subscribe, Add}
use Rattle.command_frame.specs.Items.{item_spelling}

-- the number after this one
abbrev pub next_number : ℕ → ℕ
next_number number = (number * 6364136223846793005 + 1442695040888963407) % 2 ^ 64

-- the number after some steps from the seed
abbrev pub number_after : ℕ → ℕ → ℕ
number_after seed zero = seed
number_after seed (suc steps) = next_number (number_after seed steps)

-- what the item in a place is made of: the highest 31 bits of the number
abbrev pub drawn : ℕ → ℕ → ℕ
drawn seed place = number_after seed (place + 1) / 2 ^ 33

-- the lane, the shard and the replica that are drawn
abbrev pub drawn_lane : ℕ → ℕ
drawn_lane draw = (draw / 8) % 4

abbrev pub drawn_shard : Shape → ℕ → ℕ
drawn_shard shape draw = (draw / 32) % shape.shards

abbrev pub drawn_replica : Shape → ℕ → ℕ
drawn_replica shape draw = (draw / 256) % shape.replicas

-- the record that is drawn: 1 to 24 letters, which go on from that of the place
abbrev pub letter : ℕ → ℕ → ℕ
letter place index = 97 + (place + index) % 26

abbrev pub drawn_record : ℕ → ℕ → List ℕ
drawn_record place draw = map (letter place) (range_with_len 0 (1 + (draw / 1024) % 24))

-- the position that is drawn, at most as great as the place
abbrev pub drawn_position : ℕ → ℕ → ℕ
drawn_position place draw = (draw / 8) % (place + 1)

-- the item in a place: of eight, six are appends, one is a read, and one a subscription to four entries
unfoldable pub made_item : Shape → ℕ → ℕ → List ℕ
made_item shape place draw =
    if nat_lt (draw % 8) 6 then item_spelling (Append (drawn_lane draw) (record { 0 = drawn_shard shape draw }) (record { 0 = drawn_replica shape draw }) (drawn_record place draw))
    else if draw % 8 == 6 then item_spelling (Read (drawn_lane draw) (record { 0 = drawn_shard shape draw }) (record { 0 = drawn_replica shape draw }) (record { 0 = drawn_position place draw }))
    else item_spelling (Subscribe (drawn_lane draw) (record { 0 = drawn_shard shape draw }) (record { 0 = drawn_replica shape draw }) (record { 0 = drawn_position place draw }) 4)

-- the addition of a shard on lane 0
abbrev pub addition : ℕ → List ℕ
addition shard = item_spelling (Add 0 (record { 0 = shard }))

-- the additions of all shards
unfoldable pub additions : Shape → List ℕ
additions shape = flat_map addition (range_with_len 0 shape.shards)

-- the items in the places below a count
unfoldable pub made_items : Shape → ℕ → ℕ → List ℕ
made_items shape seed count = flat_map (λ place. made_item shape place (drawn seed place)) (range_with_len 0 count)
