-- What a replica does with the decided value of a slot.
use Rattle.std.specs.Prelude.{ℕ, suc, length, List, [], ◌∷◌, ◌++◌, ◌==◌, nat_lt, if◌then◌else◌}
use Rattle.record_frame.specs.declared.values.Value.{Value}
use Rattle.log_model.specs.Chain.{apply, covered_by}
use Rattle.log_model.specs.Storage.{Member, Knowledge}

-- it is the next value, or it is known already, or values before it are missing
pub data Learned : Type 0 where
  Added : Learned
  Have : Learned
  Gap : (next : ℕ) → Learned

abbrev pub learned : Knowledge → ℕ → Learned
learned known slot = if slot == known.count then Added else if nat_lt slot known.count then Have else Gap known.count

-- the known values after the value of a slot is learned: only the next slot is taken
unfoldable pub values_after : List Value → ℕ → Value → List Value
values_after values slot value = if slot == length values then values ++ value ∷ [] else values

-- what is known after one more value
abbrev pub knowing : Member → Knowledge → Value → Knowledge
knowing member known value = record {
  chain = apply member.replicas known.chain value;
  places = known.places ++ covered_by member.replicas known.chain value;
  count = suc known.count;
}

-- what is known after the value of a slot is learned
unfoldable pub known_after : Member → Knowledge → ℕ → Value → Knowledge
known_after member known slot value = if slot == known.count then knowing member known value else known
