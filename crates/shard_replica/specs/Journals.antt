-- What a list of journals keeps true.
use Rattle.std.specs.Prelude.{◌≡◌, ℕ, ◌<◌, length, map, List, [], Option, None, Some, IsSome, false, slice_index_or}
use Rattle.segment_journal.specs.Journalled.{Journalled, Turns}
use Rattle.segment_journal.specs.declared.journal.Installed.TheVariants.{OneMore}
use Rattle.shard_replica.specs.declared.lists.LastReload.{LastReload}
use Rattle.shard_replica.specs.declared.lists.LastReload.TheVariants.{Failed, Read}
use Rattle.shard_replica.specs.Lists.{HoldsRecords}

-- an empty journal
abbrev pub no_journal : Journalled
no_journal = record { first = 0; payloads = []; flight = None; halted = false; room = None; reloaded = None }

abbrev pub journal_at : List Journalled → ℕ → Journalled
journal_at journals at = slice_index_or journals at no_journal

-- each journal holds record entries
abbrev pub AllHold : List Journalled → Type 0
AllHold journals = (k : ℕ) → HoldsRecords (journal_at journals k)

-- the states of journals
abbrev pub states_of : {X : Type 0} → (X → Journalled) → List X → List Journalled
states_of state journals = map (λ j. state j) journals

-- how the next calls of the journal at an index turn out
abbrev pub turns_at : {X : Type 0} → (X → Option Turns) → List X → ℕ → Option Turns
turns_at turns journals at = slice_index_or (map (λ j. turns j) journals) at None

-- after a reload that read them all, each journal knows what it came to
abbrev pub AllRead : Option LastReload → List Journalled → Type 0
AllRead None journals = Unit {0}
AllRead (Some Failed) journals = Unit {0}
AllRead (Some Read) journals = (k : ℕ) → k < length journals → IsSome (journal_at journals k).reloaded

-- what the lists of a replica keep true of their journals
pub record IsKept (last_reload : Option LastReload) (journals : List Journalled) : Type 0 where
  pub hold : AllHold journals
  pub read : AllRead last_reload journals

-- a journal but for its room, and but for what the last reload came to
abbrev pub roomless : Journalled → Journalled
roomless journal = record journal { room = None }

abbrev pub unread : Journalled → Journalled
unread journal = record journal { reloaded = None }

-- after a reload it is known what it came to: one more only where there is a payload in flight
pub record IsKnown (journal : Journalled) : Type 0 where
  pub came : IsSome journal.reloaded
  pub flight : journal.reloaded ≡ Some OneMore → IsSome journal.flight
