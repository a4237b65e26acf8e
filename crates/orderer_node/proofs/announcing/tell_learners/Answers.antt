use Rattle.std.proofs.Common.{◌≡◌, ◌+◌, ◌-◌, ◌*◌, arith}
use Rattle.log_base.specs.Shape.{shape}
use Rattle.orderer_node.proofs.Sending.{space_less, space_of}
use Rattle.orderer_node.proofs.announcing.tell_learners.Goals as goal

pub to_each-requires-clause-space : goal.to_each-requires-clause-space
to_each-requires-clause-space c =
    let config = shape c.args.config.now in
    let count : c.from.result * c.from-2.result ≡ config.replicas * config.shards = cc in
    space_less _ _ 143 (c.from.result * c.from-2.result) (config.replicas * config.shards + config.orderers) (omega (arith, count)) c.requires.space

pub to_each-requires-2-clause-space : goal.to_each-requires-2-clause-space
to_each-requires-2-clause-space c =
    let config = shape c.args.config.now in
    let count : c.from.result * c.from-2.result ≡ config.replicas * config.shards = cc in
    let all : config.replicas * config.shards + config.orderers ≡ c.from.result * c.from-2.result + config.orderers = omega (arith, count) in
    let left = c.to_each.ensures.space config.orderers (space_of _ _ 143 _ _ all c.requires.space) in
    space_less _ _ 143 c.from-4.result config.orderers (omega (arith, c.from-4.ensures, c.requires.index)) left

pub to_each-requires-3-clause-space : goal.to_each-requires-3-clause-space
to_each-requires-3-clause-space c =
    let config = shape c.args.config.now in
    let count : c.from.result * c.from-2.result ≡ config.replicas * config.shards = cc in
    let all : config.replicas * config.shards + config.orderers ≡ c.from.result * c.from-2.result + config.orderers = omega (arith, count) in
    let left = c.to_each.ensures.space config.orderers (space_of _ _ 143 _ _ all c.requires.space) in
    let rest : config.orderers ≡ c.from-4.result + (config.orderers - c.args.index) = omega (arith, c.from-4.ensures, c.requires.index) in
    let after = c.to_each-2.ensures.space (config.orderers - c.args.index) (space_of _ _ 143 _ _ rest left) in
    space_less _ _ 143 c.from-after.result (config.orderers - c.args.index) (omega (arith, c.from-after.ensures, c.orderers.ensures)) after

pub returns-clause-space : goal.returns-clause-space
returns-clause-space c = λ more h.
    let config = shape c.args.config.now in
    let count : c.from.result * c.from-2.result ≡ config.replicas * config.shards = cc in
    let all : config.replicas * config.shards + config.orderers + more ≡ c.from.result * c.from-2.result + (config.orderers + more) = omega (arith, count) in
    let left = c.to_each.ensures.space (config.orderers + more) (space_of _ _ 143 _ _ all h) in
    let rest : config.orderers + more ≡ c.from-4.result + (config.orderers - c.args.index + more) = omega (arith, c.from-4.ensures, c.requires.index) in
    let after = c.to_each-2.ensures.space (config.orderers - c.args.index + more) (space_of _ _ 143 _ _ rest left) in
    let last : config.orderers - c.args.index + more ≡ c.from-after.result + (more + 1) = omega (arith, c.from-after.ensures, c.orderers.ensures, c.requires.index) in
    let end = c.to_each-3.ensures.space (more + 1) (space_of _ _ 143 _ _ last after) in
    space_less _ _ 143 more (more + 1) (omega arith) end
