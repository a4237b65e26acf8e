-- A config is its numbers.
use Rattle.std.proofs.Common.{◌≡◌, ap, subst}
use Rattle.std.proofs.Math.Bridge.{le_prop}
use Rattle.std.proofs.Math.Nat.{ℕ_set}
use Rattle.log_base.specs.ClusterShape.{InRange, Shape}
use Rattle.log_base.specs.Shape.{shape}
use Rattle.log_base.specs.declared.cluster_shape.Config.{Config}

in_range-one : (numbers : Shape) → IsProp (InRange numbers)
in_range-one numbers = hlevel (le_prop, ℕ_set)

with_numbers : (numbers : Shape) → InRange numbers → Config
with_numbers numbers fact = record {
  replicas = numbers.replicas;
  shards = numbers.shards;
  orderers = numbers.orderers;
  gatherers = numbers.gatherers;
  in_range = fact;
}

same_numbers : (numbers others : Shape) → numbers ≡ others → (fact : InRange numbers) (other : InRange others)
    → with_numbers numbers fact ≡ with_numbers others other
same_numbers numbers others same fact =
    subst (λ (s : Shape). (other : InRange s) → with_numbers numbers fact ≡ with_numbers s other) same
    (λ other. ap (with_numbers numbers) (in_range-one numbers fact other))

pub same_config : (config other : Config) → shape config ≡ shape other → config ≡ other
unfolding with_numbers
same_config config other same = same_numbers (shape config) (shape other) same config.in_range other.in_range
