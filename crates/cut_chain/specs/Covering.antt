-- Covered lengths, kept in one list in the order of a cut's lengths: segment j of shard s stands at s times the
-- replicas, plus j.
use Rattle.std.specs.Prelude.{◌≡◌, ⊤, false, ℕ, zero, suc, ◌*◌, ◌<◌, ◌≤◌, List, [], ◌∷◌, map, slice_index}
use Rattle.std.specs.List.{Contains}
use Rattle.log_base.specs.declared.numbers.Shard.{Shard}
use Rattle.log_base.specs.declared.numbers.Place.{Place}
use Rattle.log_model.specs.Places.{place_at}
use Rattle.log_model.specs.Lookup.{segment_index}
use Rattle.log_model.specs.Chain.{ShardState, Standing, Live as LiveStanding, Frozen, cut_shard}
use Rattle.shard_registry.specs.declared.answers.State.{State}
use Rattle.shard_registry.specs.declared.answers.State.TheVariants.{Live, Finalised}
use Rattle.shard_registry.specs.Order.{Order, number, is_listed}

-- so many lengths of a list, from an index on
abbrev pub stretch : List ℕ → ℕ → ℕ → List ℕ
stretch lengths at zero = []
stretch lengths at (suc count) = slice_index lengths at ∷ stretch lengths (suc at) count

-- the lengths of the segments of a shard
abbrev pub lengths_of : ℕ → List ℕ → ℕ → List ℕ
lengths_of replicas lengths shard = stretch lengths (shard * replicas) replicas

-- the standing of a state
abbrev pub standing_of : State → Standing
standing_of Live = LiveStanding
standing_of Finalised = Frozen

-- the state in the chain of a shard in the order, with its covered lengths
abbrev pub shard_state : ℕ → List ℕ → Shard × State → ShardState
shard_state replicas covered entry =
    record { shard = number entry; standing = standing_of entry.1; covered = lengths_of replicas covered (number entry) }

abbrev pub shards_of : ℕ → List ℕ → Order → List ShardState
shards_of replicas covered order = map (shard_state replicas covered) order

-- the shards after a cut
abbrev pub cut_shards : ℕ → List ℕ → List ShardState → List ShardState
cut_shards replicas lengths shards = map (λ (state : ShardState). cut_shard replicas lengths state.standing state) shards

-- each place is of a segment of its shard, below its covered length
abbrev pub AreCovered : ℕ → List ℕ → List Place → Type 0
AreCovered replicas covered places =
    (shard segment offset : ℕ) → Contains places (place_at shard segment offset)
    → (segment < replicas) × (offset < slice_index covered (segment_index replicas shard segment))

-- no length is above 16,384
abbrev pub AreShort : List ℕ → Type 0
AreShort lengths = (k : ℕ) → slice_index lengths k ≤ 16384

-- no two entries of the order are of one shard
abbrev pub AreApart : Order → Type 0
AreApart [] = ⊤
AreApart (entry ∷ rest) = (is_listed rest (number entry) ≡ false) × AreApart rest
