-- What lists keep true of journals that were lent as a slice and changed in place.
use Rattle.std.proofs.Common.{◌≡◌, ℕ, suc, ◌<◌, ◌≤◌, Bool, List, [], ◌∷◌, ◌++◌, map, length, take, drop, get_or, Option, None, Some, refl, sym, ap, ◌∙◌, subst, arith, ⊎_elim, true}
use Rattle.std.specs.Prelude.{IsSome}
use Rattle.std.specs.Option.{option_map}
use Rattle.std.proofs.lemmas.Bool.{cases_lt}
use Rattle.log_model.specs.Storage.{entry_in}
use Rattle.segment_journal.specs.declared.journal.Installed.{Installed}
use Rattle.std.proofs.Math.ListN.{get_or-map as get_or-seen}
use Rattle.std.proofs.lemmas.List.{length-map, get_or-map, get_or_past, take_all, drop_all, append-nil}
use Rattle.segment_journal.specs.Journalled.{Journalled, Turns}
use Rattle.segment_journal.specs.declared.journal.Installed.TheVariants.{OneMore}
use Rattle.shard_replica.specs.declared.lists.LastReload.{LastReload}
use Rattle.shard_replica.specs.declared.lists.LastReload.TheVariants.{Failed, Read}
use Rattle.shard_replica.specs.Journals.{AllHold, AllRead, IsKept, IsKnown, journal_at, no_journal, roomless, unread}
use Rattle.shard_replica.specs.Lists.{HoldsRecords, Segment, segment_of, segment_at, no_segment, Medium, medium_of, medium_at, no_medium, but_turns, reopened_all, segments_after}
use Rattle.shard_replica.proofs.Installing.{map-twice}

-- A whole list that was lent has what stands in its place.
pub whole-lent : {X : Type 0} (items new : List X) (n : ℕ) → n ≡ length items → length new ≡ length items → take n (new ++ drop (length new) items) ≡ new
whole-lent items new n size same =
    ap (λ xs. take n (new ++ xs)) (drop_all (length new) items (omega (arith, same)))
    ∙ ap (take n) (append-nil new) ∙ take_all n new (omega (arith, size, same))

-- the journal at an index, seen
at-seen : {X : Type 0} (state : X → Journalled) (e : Journalled → Journalled) (news items : List X) → e no_journal ≡ no_journal
    → map (λ j. e (state j)) news ≡ map (λ j. e (state j)) items → (k : ℕ) → e (journal_at (map state items) k) ≡ e (journal_at (map state news) k)
at-seen {X = X} state e news items fixed same k =
    let seen : (xs : List X) → e (journal_at (map state xs) k) ≡ get_or (map (λ j. e (state j)) xs) k (e no_journal) =
    λ xs. sym (get_or-seen e (map state xs) k no_journal) ∙ ap (λ ys. get_or ys k (e no_journal)) (map-twice state e xs) in
    seen items ∙ ap (λ ys. get_or ys k (e no_journal)) (sym same) ∙ sym (seen news)

holds-room : (a b : Journalled) → roomless a ≡ roomless b → HoldsRecords a → HoldsRecords b
holds-room a b same holds =
    let of_a : HoldsRecords (roomless a) = record { first = holds.first; records = holds.records; flight = holds.flight; running = holds.running } in
    let of_b = subst HoldsRecords same of_a in
    record { first = of_b.first; records = of_b.records; flight = of_b.flight; running = of_b.running }

holds-unread : (a b : Journalled) → unread a ≡ unread b → HoldsRecords a → HoldsRecords b
holds-unread a b same holds =
    let of_a : HoldsRecords (unread a) = record { first = holds.first; records = holds.records; flight = holds.flight; running = holds.running } in
    let of_b = subst HoldsRecords same of_a in
    record { first = of_b.first; records = of_b.records; flight = of_b.flight; running = of_b.running }

same_count : {X Y : Type 0} (f : X → Y) (news items : List X) → map f news ≡ map f items → length news ≡ length items
same_count {Y = Y} f news items same = sym (length-map news f) ∙ ap (λ (ys : List Y). length ys) same ∙ length-map items f

-- the journals are kept where only their room changed
read-room : (last : Option LastReload) (items news : List Journalled) → length news ≡ length items
    → ((k : ℕ) → roomless (journal_at items k) ≡ roomless (journal_at news k)) → AllRead last items → AllRead last news
read-room None items news size same read = tt
read-room (Some Failed) items news size same read = tt
read-room (Some Read) items news size same read =
    λ k within. subst (λ (s : Journalled). IsSome s.reloaded) (same k) (read k (omega (arith, within, size)))

pub kept-room : {X : Type 0} (state : X → Journalled) (last : Option LastReload) (news items : List X)
    → map (λ j. roomless (state j)) news ≡ map (λ j. roomless (state j)) items → IsKept last (map state items) → IsKept last (map state news)
kept-room state last news items same kept =
    let seen = at-seen state roomless news items refl same in
    record {
      hold = λ k. holds-room (journal_at (map state items) k) (journal_at (map state news) k) (seen k) (kept.hold k);
      read = read-room last (map state items) (map state news)
          (length-map news state ∙ same_count (λ j. roomless (state j)) news items same ∙ sym (length-map items state)) seen kept.read;
    }

pub segments-room : {X : Type 0} (state : X → Journalled) (news items : List X)
    → map (λ j. roomless (state j)) news ≡ map (λ j. roomless (state j)) items → map (λ j. segment_of (state j)) news ≡ map (λ j. segment_of (state j)) items
segments-room state news items same =
    sym (map-twice (λ j. roomless (state j)) segment_of news) ∙ ap (map segment_of) same ∙ map-twice (λ j. roomless (state j)) segment_of items

-- and where only what a reload came to changed
pub hold-unread : {X : Type 0} (state : X → Journalled) (news items : List X)
    → map (λ j. unread (state j)) news ≡ map (λ j. unread (state j)) items → AllHold (map state items) → AllHold (map state news)
hold-unread state news items same hold =
    λ k. holds-unread (journal_at (map state items) k) (journal_at (map state news) k) (at-seen state unread news items refl same k) (hold k)

pub segments-unread : {X : Type 0} (state : X → Journalled) (news items : List X)
    → map (λ j. unread (state j)) news ≡ map (λ j. unread (state j)) items → map (λ j. segment_of (state j)) news ≡ map (λ j. segment_of (state j)) items
segments-unread state news items same =
    sym (map-twice (λ j. unread (state j)) segment_of news) ∙ ap (map segment_of) same ∙ map-twice (λ j. unread (state j)) segment_of items

pub all-read : {X : Type 0} (state : X → Journalled) (news : List X) → ((k : ℕ) → k < length news → IsKnown (journal_at (map state news) k))
    → AllRead (Some Read) (map state news)
all-read state news known = λ k within. let size = length-map news state in (known k (omega (arith, within, size))).came

no_more : (o : Option Installed) → o ≡ None → o ≡ Some OneMore → ⊥
no_more o none some = cc

some-mapped : (flight : Option (List ℕ)) → IsSome flight → IsSome (option_map entry_in flight)
some-mapped None some = some
some-mapped (Some payload) some = refl

-- one more only where there is an entry in flight
pub flight-seen : {X : Type 0} (state : X → Journalled) (told : X → Medium) (news : List X) → ((j : X) → (told j).reloaded ≡ (state j).reloaded)
    → ((k : ℕ) → k < length news → IsKnown (journal_at (map state news) k))
    → (k : ℕ) → (medium_at (map told news) k).reloaded ≡ Some OneMore → IsSome (segment_at (map (λ j. segment_of (state j)) news) k).flight
flight-seen state told [] same known k more = absurd (no_more _ (ap (λ (m : Medium). m.reloaded) (get_or_past (map told []) k no_medium (omega arith))) more)
flight-seen state told (j ∷ js) same known k more =
    ⊎_elim
    (λ within.
    let item = get_or (j ∷ js) k j in
    let of_state = get_or-map state (j ∷ js) k j no_journal within in
    let came : (journal_at (map state (j ∷ js)) k).reloaded ≡ Some OneMore =
    ap (λ (s : Journalled). s.reloaded) of_state ∙ sym (same item)
    ∙ sym (ap (λ (m : Medium). m.reloaded) (get_or-map told (j ∷ js) k j no_medium within)) ∙ more in
    let flies = (known k within).flight came in
    subst (λ (s : Segment). IsSome s.flight)
    (ap segment_of of_state ∙ sym (get_or-map (λ i. segment_of (state i)) (j ∷ js) k j no_segment within))
    (some-mapped (journal_at (map state (j ∷ js)) k).flight flies))
    (λ past.
    let size = length-map (j ∷ js) told in
    let over : length (map told (j ∷ js)) ≤ k = omega (arith, size, past) in
    absurd (no_more _ (ap (λ (m : Medium). m.reloaded) (get_or_past (map told (j ∷ js)) k no_medium over)) more))
    (cases_lt k (length (j ∷ js)))

abbrev tail_of : {Y : Type 0} → List Y → List Y
tail_of [] = []
tail_of (y ∷ ys) = ys

-- what is told of journals but how they turn out, and but for their room
pub media-turns : {X : Type 0} (state : X → Journalled) (faults : X → ℕ) (keeps : X → Bool) (turns : X → Option Turns) (news items : List X)
    → map (λ j. state j) news ≡ map (λ j. state j) items → map (λ j. faults j) news ≡ map (λ j. faults j) items → map (λ j. keeps j) news ≡ map (λ j. keeps j) items
    → map but_turns (map (λ j. medium_of (state j) (faults j) (keeps j) (turns j)) news) ≡ map but_turns (map (λ j. medium_of (state j) (faults j) (keeps j) (turns j)) items)
media-turns state faults keeps turns [] [] s f k = refl
media-turns state faults keeps turns [] (i ∷ is) s f k = absurd (cc)
media-turns state faults keeps turns (n ∷ ns) [] s f k = absurd (cc)
media-turns state faults keeps turns (n ∷ ns) (i ∷ is) s f k =
    let told : Journalled → ℕ → Bool → Medium = λ st fa ke. medium_of st fa ke None in
    let heads : told (state n) (faults n) (keeps n) ≡ told (state i) (faults i) (keeps i) =
    ap (λ (st : Journalled). told st (faults n) (keeps n)) (ap (λ xs. get_or xs 0 no_journal) s)
    ∙ ap (λ (fa : ℕ). told (state i) fa (keeps n)) (ap (λ xs. get_or xs 0 0) f)
    ∙ ap (λ (ke : Bool). told (state i) (faults i) ke) (ap (λ xs. get_or xs 0 true) k) in
    ap (λ (m : Medium). m ∷ map but_turns (map (λ j. medium_of (state j) (faults j) (keeps j) (turns j)) ns)) heads
    ∙ ap (λ ms. told (state i) (faults i) (keeps i) ∷ ms) (media-turns state faults keeps turns ns is (ap tail_of s) (ap tail_of f) (ap tail_of k))

length-reopened : (segments : List Segment) (media : List Medium) → length (reopened_all segments media) ≡ length segments
length-reopened [] media = refl
length-reopened (segment ∷ segments) [] = refl
length-reopened (segment ∷ segments) (medium ∷ media) = ap (λ (n : ℕ). suc n) (length-reopened segments media)

-- putting what was read in place leaves as many lists
pub length-after : (last : Option LastReload) (segments : List Segment) (media : List Medium) → length (segments_after last segments media) ≡ length segments
length-after None segments media = refl
length-after (Some Failed) segments media = refl
length-after (Some Read) segments media = length-reopened segments media
