-- The lists of a replica, over its journals: one journal keeps the list of each segment.
use Rattle.std.specs.Prelude.{◌≡◌, ◌≢◌, ℕ, ◌<◌, ◌≤◌, length, List, [], ◌∷◌, ◌++◌, map, Bool, true, false, if◌then◌else◌, IsTrue, IfSome, OnOk, Option, Some, None, unwrap_or, option_to_list, slice_index_or, Result, Err}
use Rattle.std.specs.List.{list_any}
use Rattle.std.specs.Option.{option_map}
use Rattle.log_base.specs.Outside.{Rose}
use Rattle.disk_base.specs.declared.disk.Plan.{Plan}
use Rattle.record_frame.specs.declared.entries.Entry.{Entry}
use Rattle.record_frame.specs.Entries.{entry_spelling}
use Rattle.log_model.specs.Storage.{IsRecords, entry_in, entries_in}
use Rattle.segment_journal.specs.Journalled.{Journalled, Turns, planned}
use Rattle.segment_journal.specs.declared.journal.Installed.{Installed}
use Rattle.segment_journal.specs.declared.journal.Installed.TheVariants.{Failed, OneMore, Same}
use Rattle.shard_replica.specs.declared.lists.LastReload.{LastReload}
use Rattle.shard_replica.specs.declared.lists.LastReload.TheVariants.{Failed as Unread, Read}
use Rattle.segment_journal.specs.declared.journal.OpenFault.{OpenFault}
use Rattle.segment_journal.specs.declared.journal.OpenFault.TheVariants.{Failed as NotRead, Damaged, Memory}

-- A list of entries. Where a put failed, it is halted, and the entry of that put is in flight.
pub record Segment : Type 0 where
  pub entries : List Entry
  pub flight : Option Entry
  pub halted : Bool

-- What else is told of a journal: how often it failed so far, whether what it keeps stays, how its next put and its next
-- reload turn out, how many bytes the next payload may have, and what the last reload came to.
pub record Medium : Type 0 where
  pub faults : ℕ
  pub keeps_synced : Bool
  pub turns : Option Turns
  pub room : ℕ
  pub reloaded : Option Installed

-- The lists, what is told of their journals, and how the last reload of them all ended, where there was one since the
-- last install and the last attempt to change a list.
pub record Listed : Type 0 where
  pub segments : List Segment
  pub media : List Medium
  pub last_reload : Option LastReload

abbrev pub segment_of : Journalled → Segment
segment_of journal =
    record { entries = entries_in journal.payloads; flight = option_map entry_in journal.flight; halted = journal.halted }

abbrev pub medium_of : Journalled → ℕ → Bool → Option Turns → Medium
medium_of journal faults keeps_synced turns = record {
  faults = faults;
  keeps_synced = keeps_synced;
  turns = turns;
  room = unwrap_or journal.room 0;
  reloaded = journal.reloaded;
}

-- the list and the journal of a segment; past the last one there is an empty list
abbrev pub no_segment : Segment
no_segment = record { entries = []; flight = None; halted = false }

abbrev pub segment_at : List Segment → ℕ → Segment
segment_at segments at = slice_index_or segments at no_segment

abbrev pub no_medium : Medium
no_medium = record { faults = 0; keeps_synced = true; turns = None; room = 0; reloaded = None }

abbrev pub medium_at : List Medium → ℕ → Medium
medium_at media at = slice_index_or media at no_medium

-- The journal's list is one of record entries from offset 0 on, of which there are not too many; so is the list with the
-- payload in flight, which it has only while it is halted.
pub record HoldsRecords (journal : Journalled) : Type 0 where
  pub first : journal.first ≡ 0
  pub records : IsRecords journal.payloads
  pub flight : IsRecords (journal.payloads ++ option_to_list journal.flight)
  pub running : journal.halted ≡ false → journal.flight ≡ None

-- the list after a put of an entry, which failed or not
abbrev pub after_put : Segment → Entry → Bool → Segment
after_put segment entry false = record segment { entries = segment.entries ++ entry ∷ [] }
after_put segment entry true = record segment { flight = Some entry; halted = true }

-- A put, which failed or not, touched the journal at an index alone. It failed only where the count of faults rose, and as
-- the journal told before.
pub record PutsAt (at : ℕ) (failed : Bool) (old new : List Medium) : Type 0 where
  pub others : (k : ℕ) → k ≢ at → medium_at new k ≡ medium_at old k
  pub later : (medium_at old at).faults ≤ (medium_at new at).faults
  pub cause : failed ≡ true → Rose (medium_at old at).faults (medium_at new at).faults
  pub keeps_synced : (medium_at new at).keeps_synced ≡ (medium_at old at).keeps_synced
  pub turn : IfSome (medium_at old at).turns (λ (turn : Turns). failed ≡ turn.put_fails)

-- the lists, and what is told of the journals
abbrev pub segments_of : {X : Type 0} → (X → Journalled) → List X → List Segment
segments_of state journals = map (λ j. segment_of (state j)) journals

abbrev pub media_of : {X : Type 0} → (X → Journalled) → (X → ℕ) → (X → Bool) → (X → Option Turns) → List X → List Medium
media_of state faults keeps_synced turns journals = map (λ j. medium_of (state j) (faults j) (keeps_synced j) (turns j)) journals

-- for the next payload there is room of so many bytes in each journal
abbrev pub HasRoomFor : ℕ → List Medium → Type 0
HasRoomFor bytes media = (k : ℕ) → k < length media → bytes ≤ (medium_at media k).room

-- all that is told of a journal but its room, or but how it turns out
abbrev pub but_room : Medium → Medium
but_room medium = record medium { room = 0 }

abbrev pub but_turns : Medium → Medium
but_turns medium = record medium { turns = None }

-- how the next put and the next reload of a list's journal turn out once a plan is set, where the journal tells it
abbrev pub turns_after : Segment → Plan → Medium → Option Turns
turns_after segment plan medium = planned (option_map entry_spelling segment.flight) plan medium.turns

-- a journal was read anew: what it came to is what was told before
pub record IsRead (old new : Medium) : Type 0 where
  pub came : Installed
  pub is : new.reloaded ≡ Some came
  pub good : came ≢ Failed
  pub turn : IfSome old.turns (λ (turn : Turns). came ≡ turn.reload)

-- A reload of all journals. It fails only where a count of faults rose. It is damaged only where what a journal keeps did
-- not stay. Where it ends at a journal, this was told before.
pub record ReloadsAll (result : Result (Unit {0}) OpenFault) (old new : List Medium) : Type 0 where
  pub room : (k : ℕ) → (medium_at new k).room ≡ (medium_at old k).room
  pub keeps_synced : (k : ℕ) → (medium_at new k).keeps_synced ≡ (medium_at old k).keeps_synced
  pub later : (k : ℕ) → (medium_at old k).faults ≤ (medium_at new k).faults
  pub read : OnOk result ((k : ℕ) → k < length old → IsRead (medium_at old k) (medium_at new k))
  pub cause : result ≡ Err NotRead → (k : ℕ) × Rose (medium_at old k).faults (medium_at new k).faults
  pub damaged : ((k : ℕ) → IsTrue (medium_at old k).keeps_synced) → (at : ℕ) → result ≢ Err (Damaged at)
  pub turn : (fault : OpenFault) → result ≡ Err fault → fault ≢ Memory
      → (k : ℕ) × (k < length old) × IfSome (medium_at old k).turns (λ (turn : Turns). turn.reload ≡ Failed)

-- the list after what was read is put in place
abbrev pub reopened : Segment → Option Installed → Segment
reopened segment None = segment
reopened segment (Some Failed) = segment
reopened segment (Some OneMore) = record { entries = segment.entries ++ option_to_list segment.flight; flight = None; halted = false }
reopened segment (Some Same) = record segment { flight = None; halted = false }

abbrev pub reopened_all : List Segment → List Medium → List Segment
reopened_all [] media = []
reopened_all (segment ∷ segments) [] = segment ∷ segments
reopened_all (segment ∷ segments) (medium ∷ media) = reopened segment medium.reloaded ∷ reopened_all segments media

abbrev pub is_one_more : Option Installed → Bool
is_one_more None = false
is_one_more (Some Failed) = false
is_one_more (Some OneMore) = true
is_one_more (Some Same) = false

-- whether the list was read with the entry in flight at its end
abbrev pub has_one_more : Medium → Bool
has_one_more medium = is_one_more medium.reloaded

-- what putting in place comes to: one more where one journal has one more
abbrev pub came_to : List Medium → Installed
came_to media = if list_any has_one_more media then OneMore else Same

abbrev pub answer_of : Option LastReload → List Medium → Installed
answer_of None media = Failed
answer_of (Some Unread) media = Failed
answer_of (Some Read) media = came_to media

-- all lists after what was read is put in place
abbrev pub segments_after : Option LastReload → List Segment → List Medium → List Segment
segments_after None segments media = segments
segments_after (Some Unread) segments media = segments
segments_after (Some Read) segments media = reopened_all segments media

-- An attempt to put an entry, if one is put, forgets the last reload.
abbrev pub reload_after : Option Entry → Option LastReload → Option LastReload
reload_after None last = last
reload_after (Some entry) last = None
