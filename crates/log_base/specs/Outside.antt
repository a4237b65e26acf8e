-- What a source has left, what a sink has taken, and the cause of a fault.
use Rattle.std.specs.Prelude.{◌≡◌, ℕ, ◌+◌, ◌-◌, ◌^◌, ◌≤◌, min, List, length, Result, OnErr, Option}
use Rattle.std.specs.Io.KnownBytes.{Consumes, prepend_known}

-- A count of faults rose. At the end of its type it stands still.
abbrev pub Rose : ℕ → ℕ → Type 0
Rose before now = min (before + 1) (2 ^ 64 - 1) ≤ now

-- The count of faults never falls, and it rose where the call failed.
pub record HasCause {T E : Type 0} (before now : ℕ) (result : Result T E) : Type 0 where
  pub later : before ≤ now
  pub failed : OnErr result (Rose before now)

-- what is still to be read: the bytes taken from the source and not used yet, and what it has left
abbrev pub unread : List ℕ → Option (List ℕ) → Option (List ℕ)
unread pending left = prepend_known pending left

-- some bytes were read, and what stands after them is left
abbrev pub ReadsOn : Option (List ℕ) → Option (List ℕ) → Type 0
ReadsOn before after = (bytes : List ℕ) × Consumes before after bytes

-- a reader took some bytes from its source, and its count of them grew by as many, up to the end of the type
abbrev pub TakesOn : ℕ → ℕ → Option (List ℕ) → Option (List ℕ) → Type 0
TakesOn old new before after = (bytes : List ℕ) × Consumes before after bytes × (new ≡ min (old + length bytes) (2 ^ 64 - 1))

-- a source in memory
pub record Reading : Type 0 where
  pub left : List ℕ
  pub piece : ℕ
  pub calls : ℕ
  pub fails : List ℕ
  pub faults : ℕ

-- a sink in memory
pub record Writing : Type 0 where
  pub taken : List ℕ
  pub room : ℕ
  pub piece : ℕ
  pub calls : ℕ
  pub fails : List ℕ
  pub faults : ℕ

-- one more, up to the end of the type
abbrev pub next_count : ℕ → ℕ
next_count n = min (n + 1) (2 ^ 64 - 1)

-- a reader of pieces: the bytes that it took from its source and that are not used yet, and how many it took
pub record Piecewise : Type 0 where
  pub pending : List ℕ
  pub taken : ℕ
