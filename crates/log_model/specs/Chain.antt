-- The chain: what a list of decided values makes, applied one after another. A chain has the shards in
-- order of addition, each live or frozen, with a covered length for each of its segments; how many places
-- the cuts have covered, which is the end; and the mark below which positions are given up.
use Rattle.std.specs.Prelude.{◌≡◌, ◌≤◌, ⊤, ℕ, suc, ◌+◌, ◌*◌, ◌-◌, max, min, List, [], ◌∷◌, ◌++◌, map, length, slice_index, Bool, false, ◌==◌, if◌then◌else◌, Option, Some, None, replicate}
use Rattle.std.specs.List.{list_any, find, All}
use Rattle.log_base.specs.declared.numbers.Place.{Place}
use Rattle.log_model.specs.Places.{places_from}
use Rattle.record_frame.specs.declared.values.Value.{Value}
use Rattle.record_frame.specs.declared.values.Value.TheVariants.{Noop, Cut, Add, Finalise, Trim}

-- whether cuts still raise a shard's lengths
pub data Standing : Type 0 where
  Live : Standing
  Frozen : Standing

-- a shard that was added: its number, its standing, and the covered length of each of its segments
pub record ShardState : Type 0 where
  pub shard : ℕ
  pub standing : Standing
  pub covered : List ℕ

pub record ChainState : Type 0 where
  pub shards : List ShardState
  pub end : ℕ
  pub mark : ℕ

-- no value yet
abbrev pub no_values : ChainState
no_values = record { shards = []; end = 0; mark = 0 }

-- whether it is the state of this shard
abbrev pub is_of : ℕ → ShardState → Bool
is_of shard state = state.shard == shard

abbrev pub is_added : ChainState → ℕ → Bool
is_added chain shard = list_any (is_of shard) chain.shards

-- covered lengths, each raised to the cut's length of that segment where this is greater; the cut's
-- lengths of the segments stand from a place on
abbrev pub raised : List ℕ → ℕ → List ℕ → List ℕ
raised lengths at [] = []
raised lengths at (covered ∷ rest) = max covered (slice_index lengths at) ∷ raised lengths (suc at) rest

-- the places that a cut newly covers in the segments of a shard, from one segment on: in order of segment,
-- then offset
abbrev pub covered_in_segments : ℕ → ℕ → List ℕ → ℕ → List ℕ → List Place
covered_in_segments shard segment lengths at [] = []
covered_in_segments shard segment lengths at (covered ∷ rest) =
    places_from shard segment covered (slice_index lengths at - covered)
    ++ covered_in_segments shard (suc segment) lengths (suc at) rest

-- the places that a cut newly covers in a shard: none where it is frozen
abbrev pub covered_in_shard : ℕ → List ℕ → Standing → ShardState → List Place
covered_in_shard replicas lengths Live state = covered_in_segments state.shard 0 lengths (state.shard * replicas) state.covered
covered_in_shard replicas lengths Frozen state = []

-- the places that a cut newly covers, in order of addition of the shards
abbrev pub covered_in_shards : ℕ → List ℕ → List ShardState → List Place
covered_in_shards replicas lengths [] = []
covered_in_shards replicas lengths (state ∷ states) =
    covered_in_shard replicas lengths state.standing state ++ covered_in_shards replicas lengths states

-- the places that a value newly covers
abbrev pub covered_by : ℕ → ChainState → Value → List Place
covered_by replicas chain Noop = []
covered_by replicas chain (Cut lengths) = covered_in_shards replicas lengths.length chain.shards
covered_by replicas chain (Add shard) = []
covered_by replicas chain (Finalise shard) = []
covered_by replicas chain (Trim position) = []

-- a shard after a cut: a live one has its lengths raised
abbrev pub cut_shard : ℕ → List ℕ → Standing → ShardState → ShardState
cut_shard replicas lengths Live state = record state { covered = raised lengths (state.shard * replicas) state.covered }
cut_shard replicas lengths Frozen state = state

-- the shards after one of them is frozen
abbrev pub freeze : ℕ → ShardState → ShardState
freeze shard state = if is_of shard state then record state { standing = Frozen } else state

-- The chain after one more value. A cut raises the lengths of live shards, an addition puts a shard that is
-- not there at the end of the order, a finalisation freezes a shard, and a trim raises the mark, at most to
-- the end.
abbrev pub apply : ℕ → ChainState → Value → ChainState
apply replicas chain Noop = chain
apply replicas chain (Cut lengths) = record chain {
  shards = map (λ (state : ShardState). cut_shard replicas lengths.length state.standing state) chain.shards;
  end = chain.end + length (covered_in_shards replicas lengths.length chain.shards);
}
apply replicas chain (Add shard) =
    if is_added chain shard.0 then chain
    else record chain { shards = chain.shards ++ record { shard = shard.0; standing = Live; covered = replicate replicas 0 } ∷ [] }
apply replicas chain (Finalise shard) = record chain { shards = map (freeze shard.0) chain.shards }
apply replicas chain (Trim position) = record chain { mark = max chain.mark (min position.0 chain.end) }

-- the chain after more values
abbrev pub apply_all : ℕ → ChainState → List Value → ChainState
apply_all replicas chain [] = chain
apply_all replicas chain (value ∷ values) = apply_all replicas (apply replicas chain value) values

-- the chain of a list of values
abbrev pub chain_of : ℕ → List Value → ChainState
chain_of replicas values = apply_all replicas no_values values

-- whether the shards have numbers that differ from each other
abbrev pub AreApart : List ShardState → Type 0
AreApart [] = ⊤
AreApart (state ∷ states) = (list_any (is_of state.shard) states ≡ false) × AreApart states

-- what holds of the chain of each list of values: its shards' numbers differ, each shard has a covered length
-- for each of its replicas, and the mark is not past the end
pub record IsChain (replicas : ℕ) (chain : ChainState) : Type 0 where
  pub apart : AreApart chain.shards
  pub segments : All (λ (state : ShardState). length state.covered ≡ replicas) chain.shards
  pub mark : chain.mark ≤ chain.end

-- the state of a shard, where it was added
abbrev pub state_in : List ShardState → ℕ → Option ShardState
state_in states shard = find (is_of shard) states

-- the covered length of a segment in a shard's state
abbrev pub covered_length : Option ShardState → ℕ → ℕ
covered_length None segment = 0
covered_length (Some state) segment = slice_index state.covered segment

-- the covered length of a segment: 0 where the shard was not added
abbrev pub covered_of : ChainState → ℕ → ℕ → ℕ
covered_of chain shard segment = covered_length (state_in chain.shards shard) segment
