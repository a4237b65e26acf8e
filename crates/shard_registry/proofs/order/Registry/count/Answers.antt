use Rattle.std.proofs.Common.{ℕ, ◌<◌, ◌≤◌, arith, length, subst}
use Rattle.std.specs.List.{All}
use Rattle.shard_registry.specs.declared.answers.State.{State}
use Rattle.log_base.specs.declared.numbers.Shard.{Shard}
use Rattle.shard_registry.specs.Order.{Order, number}
use Rattle.shard_registry.proofs.Orders.{few}
use Rattle.shard_registry.proofs.order.Registry.count.Goals as goal

pub returns-clause-few : goal.returns-clause-few
returns-clause-few c =
    subst (λ (o : Order). (most : ℕ) → All (λ (entry : Shard × State). number entry < most) o → c.len.result ≤ most) c.self.view_is
    (λ most below. omega (arith, few c.self.inside.shards.entries most c.self.invariant.apart below, c.len.ensures.len))
