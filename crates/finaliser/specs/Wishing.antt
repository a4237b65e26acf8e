-- The values that wait for their decision, and what is said to one that is wished for or asked for.
use Rattle.std.specs.Prelude.{ℕ, List, [], ◌∷◌, ◌++◌, length, Bool, true, false, not, ◌&&◌, if◌then◌else◌, Option, Some, None}
use Rattle.log_base.specs.declared.numbers.Slot.{Slot}
use Rattle.record_frame.specs.declared.values.Value.{Value}
use Rattle.record_frame.specs.declared.values.Value.TheVariants.{Noop, Cut, Add, Finalise, Trim}
use Rattle.paxos_model.specs.Learner.{Wish}
use Rattle.finaliser.specs.declared.wishes.Requested.{Requested}
use Rattle.finaliser.specs.declared.wishes.Requested.TheVariants.{Taken, NoSuchShard}
use Rattle.finaliser.specs.declared.settling.Settling.{Settling}
use Rattle.finaliser.specs.declared.settling.Settling.TheVariants.{Settled, Pending}

-- the wishes, the oldest first, and how many more fit without memory
pub record Wishing : Type 0 where
  pub wishes : List Wish
  pub room : ℕ

-- only an addition, a finalisation or a trim is wished for
abbrev pub IsWishable : Value → Type 0
IsWishable Noop = ⊥
IsWishable (Cut lengths) = ⊥
IsWishable (Add shard) = Unit {0}
IsWishable (Finalise shard) = Unit {0}
IsWishable (Trim position) = Unit {0}

-- whether a value finalises a shard that was not added
abbrev pub finalises_none : Value → Bool → Bool
finalises_none (Finalise shard) added = not added
finalises_none _ added = false

-- what is said to a wish where so many values are known
abbrev pub requested_of : Value → Bool → ℕ → Requested
requested_of value added known = if finalises_none value added then NoSuchShard else Taken known

-- the wishes after it: a wish that is taken is open from the next slot on
abbrev pub after_request : List Wish → Value → Bool → ℕ → List Wish
after_request wishes value added known =
    if finalises_none value added then wishes else wishes ++ record { value = value; from = known } ∷ []

-- the value of the oldest wish
abbrev pub first_value : List Wish → Option Value
first_value [] = None
first_value (wish ∷ wishes) = Some wish.value

-- what is said of a value where so many are known, by the slot that has it
abbrev pub settling_of : ℕ → Option ℕ → Settling
settling_of known None = Pending known
settling_of known (Some slot) = Settled (record { 0 = slot })
