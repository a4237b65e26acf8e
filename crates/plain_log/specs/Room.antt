-- How far a log has come: no number of it overflows while it has room.
use Rattle.std.specs.Prelude.{ℕ, ◌≤◌, length, slice_index}
use Rattle.plain_log.specs.Log.{LogState}

-- there are at most so many values, and each lane has drawn at most so many numbers
pub record HasRoom (state : LogState) (most : ℕ) : Type 0 where
  pub values : length state.values ≤ most
  pub draws : (lane : ℕ) → slice_index state.draws lane ≤ most
