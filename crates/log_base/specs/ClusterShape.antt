-- The four numbers of a cluster, and which of them are in range.
use Rattle.std.specs.Prelude.{◌≡◌, ℕ, ◌≤◌, ◌*◌, ◌%◌, nat_lt, ◌==◌, ◌||◌, if◌then◌else◌, Option, Some, None}

-- how many replicas a shard has, and how many shards, orderers and gatherers there are
pub record Shape : Type 0 where
  pub replicas : ℕ
  pub shards : ℕ
  pub orderers : ℕ
  pub gatherers : ℕ

-- 1 to 5 replicas, 1 to 8 shards, together at most 32 segments; 1, 3, 5 or 7 orderers; 1 to 4 gatherers
pub record InRange (shape : Shape) : Type 0 where
  pub some_replica : 1 ≤ shape.replicas
  pub replicas : shape.replicas ≤ 5
  pub some_shard : 1 ≤ shape.shards
  pub shards : shape.shards ≤ 8
  pub segments : shape.replicas * shape.shards ≤ 32
  pub odd : shape.orderers % 2 ≡ 1
  pub orderers : shape.orderers ≤ 7
  pub some_gatherer : 1 ≤ shape.gatherers
  pub gatherers : shape.gatherers ≤ 4

-- the first number that is out of range: 0 the replicas, 1 the shards, 2 the orderers, 3 the gatherers,
-- 4 the product of replicas and shards
abbrev pub wrong_part : Shape → Option ℕ
wrong_part shape =
    if nat_lt shape.replicas 1 || nat_lt 5 shape.replicas then Some 0
    else if nat_lt shape.shards 1 || nat_lt 8 shape.shards then Some 1
    else if nat_lt 7 shape.orderers || shape.orderers % 2 == 0 then Some 2
    else if nat_lt shape.gatherers 1 || nat_lt 4 shape.gatherers then Some 3
    else if nat_lt 32 (shape.replicas * shape.shards) then Some 4
    else None
