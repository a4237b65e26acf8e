-- What the parts of a chain stand for, and what they keep true.
use Rattle.std.specs.Prelude.{◌≡◌, ℕ, ◌*◌, ◌<◌, ◌≤◌, List, false, replicate}
use Rattle.std.specs.List.{All}
use Rattle.log_base.specs.ClusterShape.{Shape}
use Rattle.log_base.specs.declared.numbers.Place.{Place}
use Rattle.record_frame.specs.declared.values.Value.{Value}
use Rattle.shard_registry.specs.Order.{Order, number, is_listed}
use Rattle.cut_chain.specs.Covering.{shards_of, lengths_of}
use Rattle.cut_chain.specs.Known.{Known, known_of}

-- what the parts stand for
abbrev pub known_from : Shape → Order → List ℕ → List Place → ℕ → ℕ → ℕ → Known
known_from config order covered places end mark count = record {
  config = config;
  chain = record { shards = shards_of config.replicas covered order; end = end; mark = mark };
  places = places;
  count = count;
}

-- The parts are what some values make known. Shards are of the config, a shard that was not added has lengths of 0,
-- and the end fits its number: no value covers more than 40 times 16,384 places.
pub record IsKept (config : Shape) (order : Order) (covered : List ℕ) (places : List Place) (end mark count : ℕ) : Type 0 where
  pub in_range : All (λ entry. number entry < config.shards) order
  pub unlisted : (shard : ℕ) → is_listed order shard ≡ false → lengths_of config.replicas covered shard ≡ replicate config.replicas 0
  pub few : count ≤ 16384
  pub small : end ≤ count * 655360
  pub values : List Value
  pub made : known_from config order covered places end mark count ≡ known_of config values
