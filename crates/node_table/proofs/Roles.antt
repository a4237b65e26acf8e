-- Each role has one number and each number one role, and different segments have different disks.
use Rattle.std.proofs.Common.{◌≡◌, ℕ, suc, ◌+◌, ◌-◌, ◌*◌, ◌<◌, ◌≤◌, false, ltb, arith}
use Rattle.std.proofs.lemmas.Bool.{lt-ltb}
use Rattle.std.proofs.lemmas.Bool.Decides.{nat_tests}
use Rattle.std.proofs.lemmas.Grind.{common_steps}
use Rattle.std.proofs.lemmas.Nat.{div-mul-add, mod-mul-add}
use Rattle.std.proofs.Math.Nat.{mul-le-mul_left}
use Rattle.log_base.specs.ClusterShape.{InRange, Shape}
use Rattle.node_table.specs.Numbering.{IsRole, disk_of, node_of, nodes_of, role_at, storage_node}
use Rattle.node_table.specs.declared.role.Role.{Role}
use Rattle.node_table.specs.declared.role.Role.TheVariants.{Storage, Gatherer, Orderer}

-- the test of a number that is not below another
not_below : (n m : ℕ) → m ≤ n → ltb n m ≡ false
not_below n m h = grind (arith, nat_tests)

-- a replica's number is below the count of replicas of all shards
pub storage_node-lt : (shape : Shape) (shard replica : ℕ) → shard < shape.shards → replica < shape.replicas
    → storage_node shape shard replica < shape.replicas * shape.shards
storage_node-lt shape shard replica s r =
    let more : shape.replicas * suc shard ≤ shape.replicas * shape.shards = mul-le-mul_left shape.replicas (omega arith) in
    omega arith

pub node_of-lt : (shape : Shape) (role : Role) → IsRole shape role → node_of shape role < nodes_of shape
node_of-lt shape (Storage shard replica) h = let within : storage_node shape shard.0 replica.0 < shape.replicas * shape.shards = storage_node-lt shape shard.0 replica.0 h.0 h.1 in omega arith
node_of-lt shape (Gatherer index) h = omega arith
node_of-lt shape (Orderer index) h = omega arith

pub role_at-node_of : (shape : Shape) (role : Role) → IsRole shape role → role_at shape (node_of shape role) ≡ role
role_at-node_of shape (Storage shard replica) h =
    rw (
      lt-ltb (storage_node shape shard.0 replica.0) (shape.replicas * shape.shards) (storage_node-lt shape shard.0 replica.0 h.0 h.1),
      div-mul-add shard.0 shape.replicas replica.0 h.1,
      mod-mul-add shard.0 shape.replicas replica.0 h.1,
    )
role_at-node_of shape (Gatherer index) h =
    let stored = shape.replicas * shape.shards in
    let same : stored + index - stored ≡ index = omega arith in
    rw (not_below (stored + index) stored (omega arith), lt-ltb (stored + index) (stored + shape.gatherers) (omega arith), same)
role_at-node_of shape (Orderer index) h =
    let stored = shape.replicas * shape.shards in
    let before = stored + shape.gatherers in
    let same : before + index - before ≡ index = omega arith in
    rw (not_below (before + index) stored (omega arith), not_below (before + index) before (omega arith), same)

-- a number below the count of nodes has a role of the cluster, whose number it is
pub role_at-is : (shape : Shape) (node : ℕ) → InRange shape → node < nodes_of shape
    → IsRole shape (role_at shape node) × (node_of shape (role_at shape node) ≡ node)
role_at-is shape node range within = grind (arith, common_steps)

pub disk_of-same : (node other segment other_segment : ℕ) → segment < 8 → other_segment < 8
    → disk_of node segment ≡ disk_of other other_segment → (node ≡ other) × (segment ≡ other_segment)
disk_of-same node other segment other_segment below other_below same = (omega arith, omega arith)
