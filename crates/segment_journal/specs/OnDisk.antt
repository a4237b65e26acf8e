-- A journal and its disk.
use Rattle.std.specs.Prelude.{◌≡◌, ◌≢◌, ℕ, ◌+◌, ◌≤◌, List, length, Option, IsSome, IfSome, is_some, Bool, IsTrue}
use Rattle.segment_journal.specs.Journalled.{Journalled, IsPayload, AllPayloads, installed_list}
use Rattle.segment_journal.specs.Listed.{Listed}
use Rattle.segment_journal.specs.Kept.{AllHold, HoldsKept, HasDiskRoom}
use Rattle.segment_journal.specs.declared.journal.Installed.{Installed}
use Rattle.segment_journal.specs.declared.journal.Installed.TheVariants.{Failed, OneMore}

pub record OnDisk (D : Type 0) : Type 0 where
  pub disk : D
  pub journal : Journalled

-- the journal that the parts make
abbrev pub journalled : List (List ℕ) → Option (List ℕ) → Option ℕ → Option Installed → Journalled
journalled payloads flight room reloaded = record {
  first = 0;
  payloads = payloads;
  flight = flight;
  halted = is_some flight;
  room = room;
  reloaded = reloaded;
}

-- the spare list is what was read, and stands on the disk
pub record IsSpare (images : List ℕ → Type 0) (keeps : Bool) (list spare : Listed) (flight : Option (List ℕ)) (came : Installed) : Type 0 where
  pub is : spare.list ≡ installed_list list.list flight came
  pub some_flight : came ≡ OneMore → IsSome flight
  pub payloads : AllPayloads spare.list
  pub capacity : length spare.list + 1 ≤ spare.capacity
  pub holds : IsTrue keeps → AllHold images spare.list

-- what holds of the parts together
pub record IsKept (images : List ℕ → Type 0) (keeps : Bool) (writes bytes : ℕ) (list spare : Listed) (reloaded : Option Installed) (flight : Option (List ℕ)) (room : Option ℕ) : Type 0 where
  pub holds : IsTrue keeps → (c : List ℕ) → images c → HoldsKept list.list flight c
  pub payloads : AllPayloads list.list
  pub in_flight : IfSome flight IsPayload
  pub is_spare : IfSome reloaded (λ came. came ≢ Failed → IsSpare images keeps list spare flight came)
  pub capacity : IsSome room → length list.list + 1 ≤ list.capacity
  pub on_disk : HasDiskRoom room writes bytes
