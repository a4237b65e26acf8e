-- What a chain knows, and how one more value changes it.
use Rattle.std.specs.Prelude.{ℕ, ◌+◌, ◌<◌, ◌≤◌, ⊤, List, ◌++◌, length, slice_index}
use Rattle.log_base.specs.ClusterShape.{Shape}
use Rattle.log_base.specs.declared.numbers.Place.{Place}
use Rattle.record_frame.specs.declared.values.Value.{Value}
use Rattle.record_frame.specs.declared.values.Value.TheVariants.{Noop, Cut, Add, Finalise, Trim}
use Rattle.log_model.specs.Chain.{ChainState, apply, chain_of, covered_by}
use Rattle.log_model.specs.Spelling.{spell}

-- the config, the chain of the values that were applied, the places that they spell, and how many they are
pub record Known : Type 0 where
  pub config : Shape
  pub chain : ChainState
  pub places : List Place
  pub count : ℕ

-- what a list of values makes known
abbrev pub known_of : Shape → List Value → Known
known_of config values =
    record { config = config; chain = chain_of config.replicas values; places = spell config.replicas values; count = length values }

-- what is known after one more value
abbrev pub learned : Known → Value → Known
learned known value = record {
  config = known.config;
  chain = apply known.config.replicas known.chain value;
  places = known.places ++ covered_by known.config.replicas known.chain value;
  count = known.count + 1;
}

-- what contracts see of a chain: what it knows, and for how many runs of places it has room
pub record Chained : Type 0 where
  pub known : Known
  pub room : ℕ

-- a value that may be applied: it names shards of the config alone, and no length of it is above 16,384
abbrev pub IsFor : Shape → Value → Type 0
IsFor config Noop = ⊤
IsFor config (Cut lengths) = (k : ℕ) → slice_index lengths.length k ≤ 16384
IsFor config (Add shard) = shard.0 < config.shards
IsFor config (Finalise shard) = shard.0 < config.shards
IsFor config (Trim position) = ⊤
