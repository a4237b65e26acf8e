-- A journal of a list, and what a put leaves of it.
use Rattle.std.proofs.Common.{◌≡◌, ◌≢◌, ℕ, ◌+◌, ◌-◌, ◌<◌, ◌≤◌, true, false, List, [], ◌∷◌, ◌++◌, map, length, get_or, set, Option, None, Some, refl, sym, ap, ◌∙◌, subst, ⊎_elim, arith, length-append, inl, inr, eqb, lit≤}
use Rattle.std.specs.Prelude.{◌⊎◌, Result, Ok, Err, OnOk, OnErr, IfSome, is_err, slice_get, unwrap_or, IsSomeAnd, option_to_list}
use Rattle.std.specs.List.{All}
use Rattle.std.specs.Option.{option_map}
use Rattle.std.proofs.lemmas.Bool.{cases_Bool, cases_lt, eqb-true, eqb-false}
use Rattle.std.proofs.lemmas.List.{get_or-map, map-set, map-append, append-nil, length-map, get_or-set_same, get_or-set_other, get_or_past}
use Rattle.std.proofs.lemmas.List.Elements.{All-nil, All-push, All-get_or}
use Rattle.std.proofs.lemmas.Option.{slice_get-map, slice_get_within, get_or_from_slice_get}
use Rattle.log_base.specs.Outside.{HasCause, Rose}
use Rattle.log_model.specs.Storage.{IsRecords, IsSpelled, entry_in}
use Rattle.record_frame.specs.declared.entries.Entry.{Entry}
use Rattle.record_frame.proofs.EntryLaws.{length-entry_spelling}
use Rattle.segment_journal.specs.Journalled.{Journalled, Turns, end_of, with_payload, with_flight}
use Rattle.shard_replica.specs.Journals.{no_journal}
use Rattle.shard_replica.specs.Lists.{Segment, Medium, HoldsRecords, PutsAt, segment_of, medium_at, no_medium, after_put}

-- what is seen of the item at an index
pub mapped-at : {X Y : Type 0} (f : X → Y) (items : List X) (at : ℕ) (item : X) (d : Y) → at < length items → item ≡ get_or items at item
    → get_or (map f items) at d ≡ f item
mapped-at f items at item d lt is = get_or-map f items at item d lt ∙ ap f (sym is)

-- two numbers are the same or not
pub cases_≡ : (m n : ℕ) → (m ≡ n) ⊎ (m ≢ n)
cases_≡ m n =
    ⊎_elim (λ same. inl (eqb-true m n same)) (λ not_same. inr (eqb-false m n not_same)) (cases_Bool (eqb m n))

-- What holds of each item at an index, and of the default, holds where one is set for which it holds.
pub each-set : {Y : Type 0} (P : Y → Type 0) (ys : List Y) (at : ℕ) (y d : Y) → at < length ys → ((k : ℕ) → P (get_or ys k d)) → P y
    → (k : ℕ) → P (get_or (set ys at y) k d)
each-set P ys at y d lt each holds k =
    ⊎_elim
    (λ here. subst (λ (j : ℕ). P (get_or (set ys at y) j d)) (sym here) (subst P (sym (get_or-set_same ys at y d lt)) holds))
    (λ elsewhere. subst P (sym (get_or-set_other ys at k y d elsewhere)) (each k))
    (cases_≡ k at)

-- the journal of a segment holds record entries
pub held-at : {X : Type 0} (state : X → Journalled) (items : List X) (at : ℕ) (item : X) (d : Journalled) → at < length items → item ≡ get_or items at item
    → ((k : ℕ) → HoldsRecords (get_or (map state items) k d)) → HoldsRecords (state item)
held-at state items at item d lt is each = subst HoldsRecords (mapped-at state items at item d lt is) (each at)

-- the length of a journal's list is that of its entries
pub length-entries : (state : Journalled) (n : ℕ) → HoldsRecords state → n ≡ end_of state → (n ≡ length (segment_of state).entries) × (n ≤ 16384)
length-entries state n holds is =
    let same = length-map state.payloads entry_in in
    (omega (arith, is, holds.first, same), omega (arith, is, holds.first, holds.records.few))

-- the payload at an offset spells the entry there
pub payload-at : (state : Journalled) (offset : ℕ) (payload : List ℕ) → HoldsRecords state → slice_get state.payloads (offset - state.first) ≡ Some payload
    → (slice_get (segment_of state).entries offset ≡ Some (entry_in payload)) × IsSpelled payload
payload-at state offset payload holds there =
    let at : slice_get state.payloads offset ≡ Some payload =
    subst (λ (k : ℕ). slice_get state.payloads k ≡ Some payload) (omega (arith, holds.first)) there in
    let lt = slice_get_within state.payloads offset payload at in (
      slice_get-map entry_in state.payloads offset ∙ ap (option_map entry_in) at,
      subst IsSpelled (get_or_from_slice_get state.payloads offset payload [] at) (All-get_or IsSpelled state.payloads offset [] lt holds.records.spelled),
    )

-- a spelled payload has at least 15 bytes, and at most 65,550
pub length-spelled : (payload : List ℕ) → IsSpelled payload → (15 ≤ length payload) × (length payload ≤ 65550)
length-spelled payload spelled =
    let size : length payload ≡ 15 + length (entry_in payload).bytes =
    ap (λ (bytes : List ℕ). length bytes) spelled.spelling ∙ length-entry_spelling (entry_in payload) in
    (omega (arith, size), omega (arith, size, spelled.entry.size))

-- room in bytes is room for a payload that has some
pub room-for : (room : Option ℕ) (n : ℕ) → 15 ≤ n → n ≤ unwrap_or room 0 → IsSomeAnd room (λ bytes. n ≤ bytes)
room-for None n some fits = absurd (omega arith)
room-for (Some bytes) n some fits = fits

-- one more spelled payload
IsRecords-push : (payloads : List (List ℕ)) (payload : List ℕ) → IsRecords payloads → IsSpelled payload → length payloads < 16384 → IsRecords (payloads ++ payload ∷ [])
IsRecords-push payloads payload records spelled few = record {
  spelled = All-push IsSpelled payloads payload records.spelled spelled;
  few = omega (arith, length-append payloads (payload ∷ []));
}

nothing_flies : (state : Journalled) (list : List (List ℕ)) → state.flight ≡ None → list ≡ list ++ option_to_list state.flight
nothing_flies state list none = sym (append-nil list) ∙ ap (λ (o : Option (List ℕ)). list ++ option_to_list o) (sym none)

pub put-holds : (state : Journalled) (payload : List ℕ) → HoldsRecords state → IsSpelled payload → length state.payloads < 16384 → state.halted ≡ false
    → HoldsRecords (with_payload state payload)
put-holds state payload holds spelled few running =
    let records = IsRecords-push state.payloads payload holds.records spelled few in
    record {
      first = holds.first;
      records = records;
      flight = subst IsRecords (nothing_flies state (state.payloads ++ payload ∷ []) (holds.running running)) records;
      running = λ _. holds.running running;
    }

pub flight-holds : (state : Journalled) (payload : List ℕ) → HoldsRecords state → IsSpelled payload → length state.payloads < 16384
    → HoldsRecords (with_flight state payload)
flight-holds state payload holds spelled few = record {
  first = holds.first;
  records = holds.records;
  flight = IsRecords-push state.payloads payload holds.records spelled few;
  running = λ halted. absurd (cc);
}

-- a put that succeeded or failed leaves record entries
pub holds-after : {A B : Type 0} (result : Result A B) (old new : Journalled) (payload : List ℕ) → HoldsRecords old → IsSpelled payload
    → length old.payloads < 16384 → old.halted ≡ false
    → OnOk result (new ≡ with_payload old payload) → OnErr result (new ≡ with_flight old payload) → HoldsRecords new
holds-after (Ok x) old new payload holds spelled few running ok err = subst HoldsRecords (sym ok) (put-holds old payload holds spelled few running)
holds-after (Err x) old new payload holds spelled few running ok err = subst HoldsRecords (sym err) (flight-holds old payload holds spelled few)

-- the list that a put leaves
pub segment-after : {A B : Type 0} (result : Result A B) (old new : Journalled) (payload : List ℕ)
    → OnOk result (new ≡ with_payload old payload) → OnErr result (new ≡ with_flight old payload)
    → segment_of new ≡ after_put (segment_of old) (entry_in payload) (is_err result)
segment-after (Ok x) old new payload ok err =
    ap segment_of ok
    ∙ ap (λ (entries : List Entry). let s : Segment = record { entries = entries; flight = option_map entry_in old.flight; halted = old.halted } in s)
    (map-append entry_in old.payloads (payload ∷ []))
segment-after (Err x) old new payload ok err = ap segment_of err

-- where one item is set, the list that is seen has what is seen of it
pub seen-set : {X Y : Type 0} (f : X → Y) (items : List X) (at : ℕ) (item new : X) (d : Y) (g : Y → Y) → at < length items → item ≡ get_or items at item
    → f new ≡ g (f item) → map f (set items at new) ≡ set (map f items) at (g (get_or (map f items) at d))
seen-set {Y = Y} f items at item new d g lt is after =
    map-set f items at new
    ∙ ap (λ (y : Y). set (map f items) at y) (after ∙ ap g (sym (mapped-at f items at item d lt is)))

-- What holds where a result is an error holds of one that is.
pub on_err : {A B : Type 0} (result : Result A B) (P : Type 0) → is_err result ≡ true → OnErr result P → P
on_err (Ok x) P failed holds = absurd (cc)
on_err (Err x) P failed holds = holds

-- what a put leaves of what is told of the journals
pub media-after : {A B : Type 0} (media : List Medium) (at : ℕ) (old new : Medium) (result : Result A B) → at < length media → medium_at media at ≡ old
    → HasCause old.faults new.faults result → new.keeps_synced ≡ old.keeps_synced
    → IfSome old.turns (λ (turn : Turns). is_err result ≡ turn.put_fails)
    → PutsAt at (is_err result) media (set media at new)
media-after media at old new result lt is cause keeps turn =
    let now : medium_at (set media at new) at ≡ new = get_or-set_same media at new no_medium lt in
    record {
      others = λ k other. get_or-set_other media at k new no_medium other;
      later = subst (λ (m : Medium). m.faults ≤ (medium_at (set media at new) at).faults) (sym is)
          (subst (λ (m : Medium). old.faults ≤ m.faults) (sym now) cause.later);
      cause = λ failed. subst (λ (m : Medium). Rose m.faults (medium_at (set media at new) at).faults) (sym is)
          (subst (λ (m : Medium). Rose old.faults m.faults) (sym now) (on_err result (Rose old.faults new.faults) failed cause.failed));
      keeps_synced = ap (λ (m : Medium). m.keeps_synced) now ∙ keeps ∙ ap (λ (m : Medium). m.keeps_synced) (sym is);
      turn = subst (λ (m : Medium). IfSome m.turns (λ (turn : Turns). is_err result ≡ turn.put_fails)) (sym is) turn;
    }

-- how many items are seen
pub length-seen : {X Y : Type 0} (f : X → Y) (items : List X) (seen : List Y) → map f items ≡ seen → length items ≡ length seen
length-seen {Y = Y} f items seen is = sym (length-map items f) ∙ ap (λ (ys : List Y). length ys) is

-- The item at an index, which is told as the item at a number that is this index.
pub item-at : {X : Type 0} (items : List X) (index at : ℕ) (item : X) → index ≡ at → item ≡ get_or items index item → item ≡ get_or items at item
item-at items index at item same is = subst (λ (k : ℕ). item ≡ get_or items k item) same is

-- what is seen of the item at an index, in the list that is seen
pub seen-at : {X Y : Type 0} (f : X → Y) (items : List X) (seen : List Y) (at : ℕ) (item : X) (d : Y) → map f items ≡ seen → at < length items
    → item ≡ get_or items at item → get_or seen at d ≡ f item
seen-at {Y = Y} f items seen at item d all lt is = subst (λ (ys : List Y). get_or ys at d ≡ f item) all (mapped-at f items at item d lt is)

-- journals of which one is set hold record entries
pub all-set : {X : Type 0} (state : X → Journalled) (items : List X) (at : ℕ) (new : X) (d : Journalled) → at < length items
    → ((k : ℕ) → HoldsRecords (get_or (map state items) k d)) → HoldsRecords (state new)
    → (k : ℕ) → HoldsRecords (get_or (map state (set items at new)) k d)
all-set state items at new d lt each holds =
    subst (λ (states : List Journalled). (k : ℕ) → HoldsRecords (get_or states k d)) (sym (map-set state items at new))
    (each-set HoldsRecords (map state items) at (state new) d (subst (λ (n : ℕ). at < n) (sym (length-map items state)) lt) each holds)

-- an empty journal holds record entries
no_journal-holds : HoldsRecords no_journal
no_journal-holds = record {
  first = refl;
  records = record { spelled = All-nil IsSpelled; few = lit≤ tt };
  flight = record { spelled = All-nil IsSpelled; few = lit≤ tt };
  running = λ _. refl;
}

-- journals that all hold record entries do so at each index, and the other way about
pub held-all : {X : Type 0} (state : X → Journalled) (items : List X) → All (λ (item : X). HoldsRecords (state item)) items
    → (k : ℕ) → HoldsRecords (get_or (map state items) k no_journal)
held-all state [] all k = subst HoldsRecords (sym (get_or_past [] k no_journal (omega arith))) no_journal-holds
held-all state (item ∷ items) all k =
    ⊎_elim
    (λ within. subst HoldsRecords (sym (get_or-map state (item ∷ items) k item no_journal within)) (all k item within))
    (λ past.
    let size = length-map (item ∷ items) state in
    let over : length (map state (item ∷ items)) ≤ k = omega (arith, size, past) in
    subst HoldsRecords (sym (get_or_past (map state (item ∷ items)) k no_journal over)) no_journal-holds)
    (cases_lt k (length (item ∷ items)))

pub all-held : {X : Type 0} (state : X → Journalled) (items : List X) → ((k : ℕ) → HoldsRecords (get_or (map state items) k no_journal))
    → All (λ (item : X). HoldsRecords (state item)) items
all-held state items each = λ k d lt. subst HoldsRecords (get_or-map state items k d no_journal lt) (each k)
