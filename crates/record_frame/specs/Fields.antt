-- Reading bytes from left to right, field by field. A field is read from a place: it gives what it stands for and
-- the place after it, or the first refusal.
use Rattle.std.specs.Prelude.{◌≡◌, ℕ, ◌+◌, ◌≤◌, List, ◌++◌, length, drop, slice_index, nat_lt, ◌==◌, if◌then◌else◌, Result, Ok, Err}
use Rattle.log_base.specs.Wide.{number2, number4, number8}
use Rattle.record_frame.specs.declared.refusals.Refusal.{Refusal}
use Rattle.record_frame.specs.declared.refusals.Refusal.TheVariants.{Short, TooLong, BadKind, BadNumber, Long, Memory}

-- the second reading goes on from what the first gave
infixl 10 ◌>>=◌
abbrev pub ◌>>=◌ : {A B : Type 0} → Result A Refusal → (A → Result B Refusal) → Result B Refusal
(Ok x) >>= next = next x
(Err refusal) >>= next = Err refusal

-- reading refuses so, unless memory ran out
abbrev pub Refuses : {Y : Type 0} → Refusal → Result Y Refusal → Type 0
Refuses Memory read = Unit {0}
Refuses (Short need) read = read ≡ Err (Short need)
Refuses (TooLong length) read = read ≡ Err (TooLong length)
Refuses (BadKind byte) read = read ≡ Err (BadKind byte)
Refuses (BadNumber at) read = read ≡ Err (BadNumber at)
Refuses (Long extra) read = read ≡ Err (Long extra)

-- what a call answered, seen by the view, is what reading gives, unless memory ran out
abbrev pub Gives : {X Y : Type 0} → (X → Y) → Result X Refusal → Result Y Refusal → Type 0
Gives view (Ok x) read = read ≡ Ok (view x)
Gives view (Err refusal) read = Refuses refusal read

-- The text stands in the bytes from a place up to the next place.
pub record StandsAt (bytes : List ℕ) (at : ℕ) (text : List ℕ) (next : ℕ) : Type 0 where
  pub parts : drop at bytes ≡ text ++ drop next bytes
  pub end : next ≡ at + length text
  pub within : next ≤ length bytes

-- the end of a field of some bytes at a place
unfoldable pub end_at : ℕ → List ℕ → ℕ → Result ℕ Refusal
end_at width bytes at = if nat_lt (length bytes) (at + width) then Err (Short (at + width)) else Ok (at + width)

-- the numbers of one, two, four and eight bytes at a place
unfoldable pub u8_at : List ℕ → ℕ → Result (ℕ × ℕ) Refusal
u8_at bytes at = do
  next ← end_at 1 bytes at
  Ok (slice_index bytes at, next)

unfoldable pub u16_at : List ℕ → ℕ → Result (ℕ × ℕ) Refusal
u16_at bytes at = do
  next ← end_at 2 bytes at
  Ok (number2 bytes at, next)

unfoldable pub u32_at : List ℕ → ℕ → Result (ℕ × ℕ) Refusal
u32_at bytes at = do
  next ← end_at 4 bytes at
  Ok (number4 bytes at, next)

unfoldable pub u64_at : List ℕ → ℕ → Result (ℕ × ℕ) Refusal
u64_at bytes at = do
  next ← end_at 8 bytes at
  Ok (number8 bytes at, next)

-- behind the byte of this kind at a place
unfoldable pub kind_at : ℕ → List ℕ → ℕ → Result ℕ Refusal
kind_at kind bytes at = do
  found ← u8_at bytes at
  if found.0 == kind then Ok found.1 else Err (BadKind found.0)
