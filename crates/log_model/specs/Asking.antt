-- What a replica answers when it is asked for a pair of client and number.
use Rattle.std.specs.Prelude.{ℕ, List, nat_le, if◌then◌else◌, Option, Some, None}
use Rattle.record_frame.specs.declared.entries.Entry.{Entry}
use Rattle.log_model.specs.Chain.{ShardState, Standing, Live, Frozen}
use Rattle.log_model.specs.Pairs.{held, last_of}
use Rattle.log_model.specs.Storage.{Member, Knowledge, own_shard, covered_length_of, position_of}

pub data Asked : Type 0 where
  At : (position : ℕ) → Asked
  Pending : (covered : ℕ) → Asked
  FinalisedAt : (frozen : ℕ) → Asked
  Stale : (last : ℕ) → Asked
  Missing : Asked

-- a pair that is held and not covered: it waits for a cut, unless its shard is finalised
abbrev pub ask_standing : ℕ → Standing → Asked
ask_standing covered Live = Pending covered
ask_standing covered Frozen = FinalisedAt covered

abbrev pub ask_uncovered : ℕ → Option ShardState → Asked
ask_uncovered covered None = Pending covered
ask_uncovered covered (Some state) = ask_standing covered state.standing

-- a pair that is held: it has a position exactly where it is covered
abbrev pub ask_stored : Member → Knowledge → Option ℕ → Asked
ask_stored member known (Some position) = At position
ask_stored member known None = ask_uncovered (covered_length_of member known) (own_shard member known)

-- a pair that is not held, by the greatest number of its client
abbrev pub ask_last : ℕ → Option ℕ → Asked
ask_last number None = Missing
ask_last number (Some last) = if nat_le number last then Stale last else Missing

abbrev pub ask_held : Member → List Entry → Knowledge → ℕ → ℕ → Option ℕ → Asked
ask_held member own known client number (Some offset) = ask_stored member known (position_of member known offset)
ask_held member own known client number None = ask_last number (last_of own client)

unfoldable pub ask : Member → List Entry → Knowledge → ℕ → ℕ → Asked
ask member own known client number = ask_held member own known client number (held member own known client number)
