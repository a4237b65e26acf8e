-- Where a list that was read differs from the one that stood before.
use Rattle.std.specs.Prelude.{◌≡◌, ◌≢◌, ℕ, ◌<◌, ◌≤◌, List, ◌++◌, length, take, slice_get, option_to_list, Option}
use Rattle.segment_journal.specs.File.{place_of}

-- The payloads before this index are those of the other list, and that of this index isn't, where there is one.
pub record IsFirstDifference (read kept : List (List ℕ)) (index : ℕ) : Type 0 where
  pub within : index ≤ length read
  pub same : take index read ≡ take index kept
  pub differs : index < length read → slice_get read index ≢ slice_get kept index

-- what was read is neither the list nor the list with the payload in flight, and differs from that at this gate
pub record IsDifferent (read kept : List (List ℕ)) (flight : Option (List ℕ)) (at : ℕ) : Type 0 where
  pub not_same : read ≢ kept
  pub not_more : read ≢ kept ++ option_to_list flight
  pub index : ℕ
  pub first : IsFirstDifference read (kept ++ option_to_list flight) index
  pub place : at ≡ place_of read index
