-- A node that starts: the lists that were read are those that stood, or have what was in flight at the end.
use Rattle.std.proofs.Common.{◌≡◌, ℕ, suc, ◌+◌, Bool, true, false, ◌||◌, List, [], ◌∷◌, ◌++◌, map, length, set, Option, Some, None, refl, ap, ◌∙◌, arith, inl, inr, length-append}
use Rattle.std.specs.Prelude.{◌⊎◌, IsSome, option_to_list}
use Rattle.std.specs.List.{AllByRecursion, list_any}
use Rattle.log_model.specs.Storage.{list_in}
use Rattle.record_frame.specs.declared.entries.Entry.{Entry}
use Rattle.segment_journal.specs.declared.journal.Installed.{Installed}
use Rattle.segment_journal.specs.declared.journal.Installed.TheVariants.{Failed, OneMore, Same}
use Rattle.shard_replica.specs.Lists.{Medium, Segment, has_one_more, is_one_more, reopened, reopened_all}
use Rattle.shard_replica.specs.Replica.{ReplicaState, at_first}
use Rattle.storage_node.specs.declared.node.Mode.{Mode}
use Rattle.storage_node.specs.declared.node.Mode.TheVariants.{Down, Running}
use Rattle.storage_node.specs.Preparing.{AreRead, IsRead}
use Rattle.storage_node.specs.StorageState.{HasNoFlight, HasOneFlight, IsAtRest, IsFew, IsSound, RestsIn, flight_from, put_in_flight}
use Rattle.storage_node.proofs.Putting.{none_flies, rest-one, some_put}

abbrev entries_of : Segment → List Entry
entries_of segment = segment.entries

-- a list that was read is at rest, and no longer than with what was in flight
rest-read : (segment : Segment) (came : Option Installed) → IsRead segment came → IsAtRest (reopened segment came)
rest-read segment None h = absurd h
rest-read segment (Some Failed) h = absurd h
rest-read segment (Some OneMore) h = (refl, refl)
rest-read segment (Some Same) h = (refl, refl)

few-read : (segment : Segment) (came : Option Installed) → IsFew segment → IsFew (reopened segment came)
few-read segment None few = few
few-read segment (Some Failed) few = few
few-read segment (Some OneMore) few = omega (arith, few, length-append segment.entries (option_to_list segment.flight))
few-read segment (Some Same) few = omega (arith, few)

pub all-rest : (segments : List Segment) (media : List Medium) → AreRead segments media → AllByRecursion IsAtRest (reopened_all segments media)
all-rest [] [] h = tt
all-rest [] (medium ∷ media) h = tt
all-rest (segment ∷ segments) [] h = absurd h
all-rest (segment ∷ segments) (medium ∷ media) h = (rest-read segment medium.reloaded h.0, all-rest segments media h.1)

pub all-few : (segments : List Segment) (media : List Medium) → AllByRecursion IsFew segments → AllByRecursion IsFew (reopened_all segments media)
all-few [] media few = tt
all-few (segment ∷ segments) [] few = few
all-few (segment ∷ segments) (medium ∷ media) few = (few-read segment medium.reloaded few.0, all-few segments media few.1)

pub length-reopened_all : (segments : List Segment) (media : List Medium) → length (reopened_all segments media) ≡ length segments
length-reopened_all [] media = refl
length-reopened_all (segment ∷ segments) [] = refl
length-reopened_all (segment ∷ segments) (medium ∷ media) = ap suc (length-reopened_all segments media)

-- a list that was read as it stood
same-entries : (segment : Segment) (came : Option Installed) → is_one_more came ≡ false → (reopened segment came).entries ≡ segment.entries
same-entries segment None same = refl
same-entries segment (Some Failed) same = refl
same-entries segment (Some OneMore) same = absurd (cc)
same-entries segment (Some Same) same = refl

pub entries-same : (segments : List Segment) (media : List Medium) → list_any has_one_more media ≡ false
    → map entries_of (reopened_all segments media) ≡ map entries_of segments
entries-same [] media none = refl
entries-same (segment ∷ segments) [] none = refl
entries-same (segment ∷ segments) (medium ∷ media) none = next (has_one_more medium) refl none (entries-same segments media)
  where
    next : (b : Bool) → has_one_more medium ≡ b → (b || list_any has_one_more media) ≡ false
        → (list_any has_one_more media ≡ false → map entries_of (reopened_all segments media) ≡ map entries_of segments)
        → map entries_of (reopened_all (segment ∷ segments) (medium ∷ media)) ≡ map entries_of (segment ∷ segments)
    next true here none later = absurd (cc)
    next false here none later =
        ap (λ (es : List Entry). es ∷ map entries_of (reopened_all segments media)) (same-entries segment medium.reloaded here)
        ∙ ap (λ (ls : List (List Entry)). segment.entries ∷ ls) (later none)

-- nothing is in flight or something is
nothing-in : (o : Option Entry) → o ≡ None → IsSome o → ⊥
nothing-in None e some = cc
nothing-in (Some entry) e some = cc

-- no list has one more where nothing is in flight
none-more : (segments : List Segment) (media : List Medium) → HasNoFlight segments → AreRead segments media → list_any has_one_more media ≡ false
none-more [] [] quiet h = refl
none-more [] (medium ∷ media) quiet h = absurd h
none-more (segment ∷ segments) [] quiet h = absurd h
none-more (segment ∷ segments) (medium ∷ media) quiet h = next medium.reloaded h.0 (none-more segments media quiet.1 h.1)
  where
    next : (came : Option Installed) → IsRead segment came → list_any has_one_more media ≡ false → (is_one_more came || list_any has_one_more media) ≡ false
    next None h later = absurd h
    next (Some Failed) h later = absurd h
    next (Some OneMore) more later = absurd (nothing-in segment.flight quiet.0 more)
    next (Some Same) same later = later

pub none-more-at-rest : (segments : List Segment) (media : List Medium) → AllByRecursion IsAtRest segments → AreRead segments media → list_any has_one_more media ≡ false
none-more-at-rest segments media rest h = none-more segments media (none_flies segments rest) h

-- the list that has one more
pub record Longer (at : ℕ) (segments : List Segment) (now : List (List Entry)) : Type 0 where
  pub place : ℕ
  pub entry : Entry
  pub flight : flight_from at segments ≡ Some (record { segment = at + place; entry = entry })
  pub lists : now ≡ set (map entries_of segments) place (list_in (map entries_of segments) place ++ entry ∷ [])

longer-first : (at : ℕ) (segment : Segment) (segments : List Segment) (rest : List (List Entry)) → IsSome segment.flight
    → rest ≡ map entries_of segments → Longer at (segment ∷ segments) ((segment.entries ++ option_to_list segment.flight) ∷ rest)
longer-first at segment segments rest some same = next segment.flight refl some
  where
    next : (o : Option Entry) → segment.flight ≡ o → IsSome o → Longer at (segment ∷ segments) ((segment.entries ++ option_to_list segment.flight) ∷ rest)
    next None e some = absurd (cc)
    next (Some entry) e some =
        let first-here : at ≡ at + 0 = omega arith in
        record {
          place = 0;
          entry = entry;
          flight = ap (λ (o : Option Entry). put_in_flight at o (flight_from (suc at) segments)) e ∙ ap (some_put entry) first-here;
          lists = ap (λ (o : Option Entry). (segment.entries ++ option_to_list o) ∷ rest) e ∙ ap (λ (ls : List (List Entry)). (segment.entries ++ entry ∷ []) ∷ ls) same;
        }

longer-later : (at : ℕ) (segment : Segment) (segments : List Segment) (first : List Entry) (rest : List (List Entry)) → segment.flight ≡ None → first ≡ segment.entries
    → Longer (suc at) segments rest → Longer at (segment ∷ segments) (first ∷ rest)
longer-later at segment segments first rest none same later =
    let there : suc at + later.place ≡ at + suc later.place = omega arith in
    record {
      place = suc later.place;
      entry = later.entry;
      flight = ap (λ (o : Option Entry). put_in_flight at o (flight_from (suc at) segments)) none ∙ later.flight
          ∙ ap (some_put later.entry) there;
      lists = ap (λ (es : List Entry). es ∷ rest) same ∙ ap (λ (ls : List (List Entry)). segment.entries ∷ ls) later.lists;
    }

pub entries-longer : (at : ℕ) (segments : List Segment) (media : List Medium) → HasOneFlight segments → AreRead segments media → list_any has_one_more media ≡ true
    → Longer at segments (map entries_of (reopened_all segments media))
entries-longer at [] [] one h more = absurd (cc)
entries-longer at [] (medium ∷ media) one h more = absurd h
entries-longer at (segment ∷ segments) [] one h more = absurd h
entries-longer at (segment ∷ segments) (medium ∷ media) one h more = next medium.reloaded h.0 more one (λ quiet more. entries-longer (suc at) segments media quiet h.1 more)
  where
    next : (came : Option Installed) → IsRead segment came → (is_one_more came || list_any has_one_more media) ≡ true
        → ((segment.flight ≡ None) × HasOneFlight segments) ⊎ HasNoFlight segments
        → (HasOneFlight segments → list_any has_one_more media ≡ true → Longer (suc at) segments (map entries_of (reopened_all segments media)))
        → Longer at (segment ∷ segments) ((reopened segment came).entries ∷ map entries_of (reopened_all segments media))
    next None h more one later = absurd h
    next (Some Failed) h more one later = absurd h
    next (Some OneMore) some more (inl quiet) later = absurd (nothing-in segment.flight quiet.0 some)
    next (Some OneMore) some more (inr quiet) later =
        longer-first at segment segments (map entries_of (reopened_all segments media)) some (entries-same segments media (none-more segments media quiet h.1))
    next (Some Same) same more (inl quiet) later = longer-later at segment segments segment.entries (map entries_of (reopened_all segments media)) quiet.0 refl (later quiet.1 more)
    next (Some Same) same more (inr quiet) later = let none = none-more segments media quiet h.1 in absurd (cc)

-- while a node runs nothing has one more
pub rests-one : (mode : Mode) (segments : List Segment) → RestsIn mode segments → HasOneFlight segments
rests-one Down segments rests = rests
rests-one Running segments rests = rest-one segments rests

-- a node that starts is sound
pub sound-reopened : (mode : Mode) (state : ReplicaState) (media : List Medium) → IsSound mode state → AreRead state.segments media
    → IsSound Running (at_first state.config state.shard state.own (reopened_all state.segments media))
sound-reopened mode state media sound read = record {
  count = length-reopened_all state.segments media ∙ sound.count;
  few = all-few state.segments media sound.few;
  rests = all-rest state.segments media read;
  covered = λ segment lt. omega arith;
  known = omega arith;
}
