-- A journal in memory, without a disk.
use Rattle.std.specs.Prelude.{◌≡◌, ℕ, ◌+◌, ◌≤◌, ◌<◌, List, [], length, Option, IfSome, is_some, option_to_list}
use Rattle.segment_journal.specs.Journalled.{AllPayloads, IsPayload, Journalled, Turns}
use Rattle.segment_journal.specs.declared.journal.Installed.{Installed}

-- its list, how often it failed so far, and how its next put and its next reload turn out
pub record InMemory : Type 0 where
  pub journal : Journalled
  pub faults : ℕ
  pub turns : Turns

-- the journal that the parts make
abbrev pub journal_of : List (List ℕ) → Option (List ℕ) → Option ℕ → Option Installed → Journalled
journal_of payloads flight room reloaded = record {
  first = 0;
  payloads = payloads;
  flight = flight;
  halted = is_some flight;
  room = room;
  reloaded = reloaded;
}

-- What holds of the parts: the payloads are payloads and not too many, and there is memory for what is in flight and for
-- the next put where room was made for it.
pub record IsInMemory (payloads : List (List ℕ)) (capacity : ℕ) (flight : Option (List ℕ)) (room : Option ℕ) (spare : List ℕ) (spare_capacity : ℕ) : Type 0 where
  pub all : AllPayloads payloads
  pub few : length payloads ≤ 16777216
  pub in_flight : IfSome flight (λ payload. IsPayload payload × (length payloads < 16777216) × (length payloads + 1 ≤ capacity))
  pub next : IfSome room (λ bytes. (length payloads + length (option_to_list flight) + 1 ≤ capacity) × (bytes ≤ spare_capacity))
  pub empty : spare ≡ []
