-- Which values have a spelling, the one spelling of each, and how it is read.
use Rattle.std.specs.Prelude.{◌≡◌, ℕ, zero, suc, ◌-◌, ◌<◌, ◌≤◌, ◌^◌, List, [], ◌∷◌, ◌++◌, length, take, replicate, slice_index, nat_lt, ◌==◌, ◌||◌, if◌then◌else◌, Result, Ok, Err}
use Rattle.std.specs.List.{flat_map}
use Rattle.log_base.specs.Wide.{be2, be4, be8}
use Rattle.log_base.specs.declared.numbers.Shard.{Shard}
use Rattle.record_frame.specs.declared.refusals.Refusal.{Refusal}
use Rattle.record_frame.specs.declared.refusals.Refusal.TheVariants.{BadKind, BadNumber}
use Rattle.record_frame.specs.declared.values.Lengths.{Lengths}
use Rattle.record_frame.specs.declared.values.Value.{Value}
use Rattle.record_frame.specs.declared.values.Value.TheVariants.{Noop, Cut, Add, Finalise, Trim}
use Rattle.record_frame.specs.Fields.{◌>>=◌, u8_at, u16_at, u32_at, u64_at}

-- Some lengths, and no more than a limit: each is at most 16,384, and the cells past the count are 0.
pub record IsLengths (limit : ℕ) (lengths : Lengths) : Type 0 where
  pub some : 1 ≤ lengths.count
  pub count : lengths.count ≤ limit
  pub cells : length lengths.length ≡ 32
  pub small : (k : ℕ) → k < lengths.count → slice_index lengths.length k ≤ 16384
  pub rest : (k : ℕ) → lengths.count ≤ k → slice_index lengths.length k ≡ 0

-- the numbers of a value are in range
abbrev pub IsValue : Value → Type 0
IsValue Noop = Unit {0}
IsValue (Cut lengths) = IsLengths 32 lengths
IsValue (Add shard) = shard.0 ≤ 7
IsValue (Finalise shard) = shard.0 ≤ 7
IsValue (Trim position) = position.0 < 2 ^ 64

-- a count, and that many lengths
abbrev pub lengths_spelling : Lengths → List ℕ
lengths_spelling lengths = lengths.count ∷ flat_map be4 (take lengths.count lengths.length)

-- the one spelling of a value
abbrev pub value_spelling : Value → List ℕ
value_spelling Noop = 0 ∷ []
value_spelling (Cut lengths) = 1 ∷ lengths_spelling lengths
value_spelling (Add shard) = 2 ∷ be2 shard.0
value_spelling (Finalise shard) = 3 ∷ be2 shard.0
value_spelling (Trim position) = 4 ∷ be8 position.0

-- some numbers, one behind the other, each at most 16,384
unfoldable pub meant_at : ℕ → List ℕ → ℕ → Result (List ℕ × ℕ) Refusal
meant_at zero bytes at = Ok ([], at)
meant_at (suc n) bytes at = do
  first ← u32_at bytes at
  if nat_lt 16384 first.0 then Err (BadNumber at) else do
    others ← meant_at n bytes first.1
    Ok (first.0 ∷ others.0, others.1)

-- these numbers in the first of 32 cells, the others 0
unfoldable pub cells_at : ℕ → List ℕ → ℕ → Result (List ℕ × ℕ) Refusal
cells_at n bytes at = do
  meant ← meant_at n bytes at
  Ok (meant.0 ++ replicate (32 - n) 0, meant.1)

-- a count from 1 to a limit, and that many lengths
unfoldable pub lengths_at : ℕ → List ℕ → ℕ → Result (Lengths × ℕ) Refusal
lengths_at limit bytes at = do
  count ← u8_at bytes at
  if count.0 == 0 || nat_lt limit count.0 then Err (BadNumber at) else do
    cells ← cells_at count.0 bytes count.1
    Ok (record { count = count.0; length = cells.0 }, cells.1)

-- a shard
unfoldable pub shard_at : List ℕ → ℕ → Result (Shard × ℕ) Refusal
shard_at bytes at = do
  shard ← u16_at bytes at
  if nat_lt 7 shard.0 then Err (BadNumber at) else Ok (record { 0 = shard.0 }, shard.1)

-- the fields of a value of some kind
unfoldable pub value_fields_at : ℕ → List ℕ → ℕ → Result (Value × ℕ) Refusal
value_fields_at kind bytes at =
    if kind == 0 then Ok (Noop, at)
    else if kind == 1 then (lengths_at 32 bytes at >>= λ lengths. Ok (Cut lengths.0, lengths.1))
    else if kind == 2 then (shard_at bytes at >>= λ shard. Ok (Add shard.0, shard.1))
    else if kind == 3 then (shard_at bytes at >>= λ shard. Ok (Finalise shard.0, shard.1))
    else if kind == 4 then (u64_at bytes at >>= λ position. Ok (Trim (record { 0 = position.0 }), position.1))
    else Err (BadKind kind)

-- the value at a place
unfoldable pub value_at : List ℕ → ℕ → Result (Value × ℕ) Refusal
value_at bytes at = do
  kind ← u8_at bytes at
  value_fields_at kind.0 bytes kind.1
