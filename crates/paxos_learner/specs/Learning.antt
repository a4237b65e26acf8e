-- What a learner keeps, and what it says to a slot's value.
use Rattle.std.specs.Prelude.{ℕ, ◌==◌, nat_lt, if◌then◌else◌, List}
use Rattle.log_base.specs.declared.numbers.Slot.{Slot}
use Rattle.record_frame.specs.declared.values.Value.{Value}
use Rattle.paxos_learner.specs.declared.known.Learned.{Learned}
use Rattle.paxos_learner.specs.declared.known.Learned.TheVariants.{Added, Have, Gap}

-- the known values, from slot 0 on, and how many more fit without memory
pub record Learning : Type 0 where
  pub known : List Value
  pub room : ℕ

-- a number as a slot
abbrev pub to_slot : ℕ → Slot
to_slot slot = record { 0 = slot }

-- What is said to the value of a slot where so many are known: it is added where it is the next, and had where it is before.
abbrev pub learned_of : ℕ → ℕ → Learned
learned_of count slot =
    if slot == count then Added
    else (if nat_lt slot count then Have else Gap (to_slot count))
