-- What is told of journals is what so many journals tell.
use Rattle.std.specs.Prelude.{◌≡◌, ℕ, List, length, Bool, Option}
use Rattle.segment_journal.specs.Journalled.{Journalled, Turns}
use Rattle.shard_replica.specs.Lists.{Medium, media_of}

pub record AreTold {J : Type 0} (state : J → Journalled) (faults : J → ℕ) (keeps_synced : J → Bool) (turns : J → Option Turns) (count : ℕ) (media : List Medium) : Type 0 where
  pub journals : List J
  pub media_are : media ≡ media_of state faults keeps_synced turns journals
  pub all : length journals ≡ count
