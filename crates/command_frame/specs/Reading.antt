-- Reading an item that is no fault: the item of a config that a frame of a kind with a body stands for, if it is one.
use Rattle.std.specs.Prelude.{ℕ, Bool, List, length, drop, slice_index, nat_lt, nat_le, ◌&&◌, ◌==◌, if◌then◌else◌, Option, Some, None}
use Rattle.log_base.specs.ClusterShape.{Shape}
use Rattle.log_base.specs.Wide.{number2, number8}
use Rattle.command_frame.specs.declared.items.Item.{Item}
use Rattle.command_frame.specs.declared.items.Item.TheVariants.{Append, Read, Subscribe, Trim, Add, Finalise, Ask}

-- the body's lane is one of 64, and its shard is one of the config
abbrev pub names_shard : Shape → List ℕ → Bool
names_shard shape body = nat_lt (slice_index body 0) 64 && nat_lt (number2 body 1) shape.shards

-- its replica is one of the config, too
abbrev pub names_replica : Shape → List ℕ → Bool
names_replica shape body = names_shard shape body && nat_lt (slice_index body 3) shape.replicas

-- a lane, a shard, a replica, and a record, which is the rest
unfoldable pub append_of : Shape → List ℕ → Option Item
append_of shape body =
    if nat_le 4 (length body) && nat_le (length body) 65539 && names_replica shape body
    then Some (Append (slice_index body 0) (record { 0 = number2 body 1 }) (record { 0 = slice_index body 3 }) (drop 4 body))
    else None

-- a lane, a shard, a replica and a position, and no more
unfoldable pub read_of : Shape → List ℕ → Option Item
read_of shape body =
    if length body == 12 && names_replica shape body
    then Some (Read (slice_index body 0) (record { 0 = number2 body 1 }) (record { 0 = slice_index body 3 }) (record { 0 = number8 body 4 }))
    else None

-- a lane, a shard, a replica, a position and 1 to 4,096 entries that are wanted, and no more
unfoldable pub subscribe_of : Shape → List ℕ → Option Item
subscribe_of shape body =
    if length body == 14 && names_replica shape body && nat_le 1 (number2 body 12) && nat_le (number2 body 12) 4096
    then Some (Subscribe (slice_index body 0) (record { 0 = number2 body 1 }) (record { 0 = slice_index body 3 }) (record { 0 = number8 body 4 }) (number2 body 12))
    else None

-- a lane and a position, and no more
unfoldable pub trim_of : List ℕ → Option Item
trim_of body =
    if length body == 9 && nat_lt (slice_index body 0) 64
    then Some (Trim (slice_index body 0) (record { 0 = number8 body 1 }))
    else None

-- a lane and a shard, and no more
unfoldable pub add_of : Shape → List ℕ → Option Item
add_of shape body =
    if length body == 3 && names_shard shape body
    then Some (Add (slice_index body 0) (record { 0 = number2 body 1 }))
    else None

-- as an addition is
unfoldable pub finalise_of : Shape → List ℕ → Option Item
finalise_of shape body =
    if length body == 3 && names_shard shape body
    then Some (Finalise (slice_index body 0) (record { 0 = number2 body 1 }))
    else None

-- a lane, and no more
unfoldable pub ask_of : List ℕ → Option Item
ask_of body =
    if length body == 1 && nat_lt (slice_index body 0) 64
    then Some (Ask (slice_index body 0))
    else None

-- the kinds of items that are no faults
unfoldable pub item_of : Shape → ℕ → List ℕ → Option Item
item_of shape kind body =
    if kind == 1 then append_of shape body
    else if kind == 2 then read_of shape body
    else if kind == 3 then subscribe_of shape body
    else if kind == 4 then trim_of body
    else if kind == 5 then add_of shape body
    else if kind == 6 then finalise_of shape body
    else if kind == 7 then ask_of body
    else None
