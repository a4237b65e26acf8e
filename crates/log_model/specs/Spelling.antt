-- The order that a list of values spells: for each cut in turn the places that it newly covers, by order of
-- addition of the shards, then segment, then offset. A place's position is its index.
use Rattle.std.specs.Prelude.{ℕ, List, [], ◌∷◌, ◌++◌}
use Rattle.log_base.specs.declared.numbers.Place.{Place}
use Rattle.record_frame.specs.declared.values.Value.{Value}
use Rattle.log_model.specs.Chain.{ChainState, no_values, apply, covered_by}

-- what values spell after a chain
abbrev pub spell_from : ℕ → ChainState → List Value → List Place
spell_from replicas chain [] = []
spell_from replicas chain (value ∷ values) = covered_by replicas chain value ++ spell_from replicas (apply replicas chain value) values

-- what values spell
abbrev pub spell : ℕ → List Value → List Place
spell replicas values = spell_from replicas no_values values
