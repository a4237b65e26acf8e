-- Shards in order of addition, each with its state: what a registry is seen as, and what of a chain it keeps.
use Rattle.std.specs.Prelude.{ℕ, List, [], ◌∷◌, ◌++◌, map, Bool, true, false, ◌==◌, if◌then◌else◌, Option, Some, None, is_some}
use Rattle.std.specs.Map.{lookup}
use Rattle.log_base.specs.declared.numbers.Shard.{Shard}
use Rattle.log_model.specs.Chain.{ChainState, ShardState, Standing, Live as LiveStanding, Frozen}
use Rattle.shard_registry.specs.declared.answers.State.{State}
use Rattle.shard_registry.specs.declared.answers.State.TheVariants.{Live, Finalised}
use Rattle.shard_registry.specs.declared.answers.Added.{Added}
use Rattle.shard_registry.specs.declared.answers.Added.TheVariants.{New as NewShard, Have as KnownShard}
use Rattle.shard_registry.specs.declared.answers.Ended.{Ended}
use Rattle.shard_registry.specs.declared.answers.Ended.TheVariants.{New, Have, NotThere}

-- the shards, each with its state
abbrev pub Order : Type 0
Order = List (Shard × State)

-- the shard of an entry of the order, and its number
abbrev pub shard_in : Shard × State → Shard
shard_in entry = entry.0

abbrev pub number : Shard × State → ℕ
number entry = entry.0.0

-- whether it is the shard of this number
abbrev pub is_shard : ℕ → Shard → Bool
is_shard number shard = number == shard.0

-- the state of a shard, where it is listed
abbrev pub state_in_order : Order → ℕ → Option State
state_in_order order shard = lookup (is_shard shard) order

abbrev pub is_listed : Order → ℕ → Bool
is_listed order shard = is_some (state_in_order order shard)

-- the order after an addition: a shard that is not listed comes last, live
abbrev pub added : Order → ℕ → Order
added order shard = if is_listed order shard then order else order ++ (record { 0 = shard }, Live) ∷ []

-- what an addition answers, by whether the shard was listed before
abbrev pub told_addition : Bool → Added
told_addition true = KnownShard
told_addition false = NewShard

-- an entry after the finalisation of a shard
abbrev pub ended_entry : ℕ → Shard × State → Shard × State
ended_entry shard entry = if is_shard shard entry.0 then (entry.0, Finalised) else entry

-- the order after a finalisation
abbrev pub finalised : Order → ℕ → Order
finalised order shard = map (ended_entry shard) order

-- what a finalisation answers, by the state before
abbrev pub told_end : Option State → Ended
told_end None = NotThere
told_end (Some Live) = New
told_end (Some Finalised) = Have

-- the state of a standing
abbrev pub state_of : Standing → State
state_of LiveStanding = Live
state_of Frozen = Finalised

-- the entry of a shard of a chain
abbrev pub entry_of : ShardState → Shard × State
entry_of shard = (record { 0 = shard.shard }, state_of shard.standing)

-- the order of the shards of a chain
abbrev pub order_of : ChainState → Order
order_of chain = map entry_of chain.shards
