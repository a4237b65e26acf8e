-- What a learner does: it takes the decided values slot by slot. And the wishes: values that wait for their decision.
use Rattle.std.specs.Prelude.{ℕ, suc, ◌+◌, ◌-◌, List, [], ◌∷◌, ◌++◌, length, max, replicate, slice_index, Bool, true, false, not, ◌==◌, ◌&&◌, nat_lt, nat_le, if◌then◌else◌, Option, Some, None}
use Rattle.std.specs.List.{filter}
use Rattle.record_frame.specs.declared.values.Lengths.{Lengths}
use Rattle.record_frame.specs.declared.values.Value.{Value}
use Rattle.record_frame.specs.declared.values.Value.TheVariants.{Cut}
use Rattle.log_model.specs.Chain.{chain_of, covered_by}
use Rattle.paxos_model.specs.Values.{same_value}

-- the known values after a slot's value is learned: only the next slot is taken
unfoldable pub learn : List Value → ℕ → Value → List Value
learn known slot value = if slot == length known then known ++ value ∷ [] else known

-- the least slot from one on that has the value; the list begins with the slot `at`
abbrev pub find_from : ℕ → List Value → Value → ℕ → Option ℕ
find_from at [] value from = None
find_from at (first ∷ rest) value from =
    if nat_le from at && same_value first value then Some at else find_from (suc at) rest value from

abbrev pub find_value : List Value → Value → ℕ → Option ℕ
find_value known value from = find_from 0 known value from

-- a value that is to be decided, in a slot from one on
pub record Wish : Type 0 where
  pub value : Value
  pub from : ℕ

-- whether the decision of a slot leaves the wish open
abbrev pub is_left : ℕ → Value → Wish → Bool
is_left slot value wish = not (same_value wish.value value && nat_le wish.from slot)

-- the wishes that the decision of a slot leaves
unfoldable pub left_wishes : List Wish → ℕ → Value → List Wish
left_wishes wishes slot value = filter (is_left slot value) wishes

abbrev pub is_empty {ℓ} : {A : Type ℓ} → List A → Bool
is_empty [] = true
is_empty (x ∷ xs) = false

-- the lengths that were heard, as a cut, where it covers something more after the known values
unfoldable pub cut_wish : ℕ → List Value → Lengths → Option Value
cut_wish replicas known heard =
    if is_empty (covered_by replicas (chain_of replicas known) (Cut heard)) then None else Some (Cut heard)

-- what a leader would like decided: the first wish, else a cut
abbrev pub wish_of : ℕ → List Value → Lengths → List Wish → Option Value
wish_of replicas known heard [] = cut_wish replicas known heard
wish_of replicas known heard (wish ∷ wishes) = Some wish.value

-- lengths from a place on, those of so many places from `first` on raised to the given ones where these are greater
abbrev pub raised_from : ℕ → ℕ → ℕ → List ℕ → List ℕ → List ℕ
raised_from at first count given [] = []
raised_from at first count given (length ∷ rest) =
    (if nat_le first at && nat_lt at (first + count) then max length (slice_index given (at - first)) else length)
    ∷ raised_from (suc at) first count given rest

-- the lengths that were heard, after those of a shard were heard; segment j of shard s stands at s times the replicas, plus j
unfoldable pub raise : ℕ → ℕ → List ℕ → Lengths → Lengths
raise replicas first given heard = record heard { length = raised_from 0 first replicas given heard.length }

-- nothing heard yet, of so many segments
unfoldable pub nothing_heard : ℕ → Lengths
nothing_heard segments = record { count = segments; length = replicate 32 0 }
