-- Installing journals one after another.
use Rattle.std.proofs.Common.{◌≡◌, ℕ, ◌+◌, ◌<◌, ◌≤◌, Bool, true, false, cond, ◌||◌, List, [], ◌∷◌, ◌++◌, map, length, take, set, Option, None, Some, refl, sym, ap, ◌∙◌, subst, arith}
use Rattle.std.specs.Prelude.{option_to_list}
use Rattle.std.specs.List.{list_any}
use Rattle.std.specs.Option.{option_map}
use Rattle.std.proofs.lemmas.List.{append-nil, map-append, length-map, get_or-map, ext_get_or}
use Rattle.std.proofs.lemmas.List.Folds.{list_any_more}
use Rattle.log_model.specs.Storage.{IsRecords, entry_in, entries_in}
use Rattle.record_frame.specs.declared.entries.Entry.{Entry}
use Rattle.segment_journal.specs.Journalled.{Journalled, installed}
use Rattle.segment_journal.specs.declared.journal.Installed.{Installed}
use Rattle.segment_journal.specs.declared.journal.Installed.TheVariants.{Failed, OneMore, Same}
use Rattle.shard_replica.specs.Journals.{journal_at, no_journal}
use Rattle.shard_replica.specs.Lists.{HoldsRecords, Segment, segment_of, no_segment, Medium, medium_at, no_medium, has_one_more, is_one_more, came_to, reopened, reopened_all}
use Rattle.shard_replica.proofs.Each.{step-seen}

-- how far the journals are installed: those before an index are, and those from it on are as before
abbrev pub Installing : ℕ → List Journalled → ℕ → Journalled → Type 0
Installing i old k s =
    (k < i → segment_of s ≡ reopened (segment_of (journal_at old k)) (journal_at old k).reloaded) × (i ≤ k → s ≡ journal_at old k)

nothing_more : (list : List (List ℕ)) → IsRecords list → IsRecords (list ++ [])
nothing_more list records = subst IsRecords (sym (append-nil list)) records

-- an installed journal holds record entries
pub installed-holds : (s : Journalled) (came : Installed) → HoldsRecords s → HoldsRecords (installed s came)
installed-holds s Failed holds = holds
installed-holds s OneMore holds =
    record { first = holds.first; records = holds.flight; flight = nothing_more (s.payloads ++ option_to_list s.flight) holds.flight; running = λ _. refl }
installed-holds s Same holds = record { first = holds.first; records = holds.records; flight = nothing_more s.payloads holds.records; running = λ _. refl }

entries-more : (payloads : List (List ℕ)) (flight : Option (List ℕ))
    → entries_in (payloads ++ option_to_list flight) ≡ entries_in payloads ++ option_to_list (option_map entry_in flight)
entries-more payloads None = map-append entry_in payloads []
entries-more payloads (Some payload) = map-append entry_in payloads (payload ∷ [])

-- the list of an installed journal
pub installed-segment : (s : Journalled) (came : Installed) → segment_of (installed s came) ≡ reopened (segment_of s) (Some came)
installed-segment s Failed = refl
installed-segment s OneMore =
    ap (λ (entries : List Entry). let segment : Segment = record { entries = entries; flight = None; halted = false } in segment) (entries-more s.payloads s.flight)
installed-segment s Same = refl

-- one journal more is installed
pub installing-on : {X : Type 0} (state : X → Journalled) (items : List X) (at : ℕ) (new : X) (old : List Journalled) (s : Journalled) (came : Installed)
    → at < length items → journal_at old at ≡ s → s.reloaded ≡ Some came → state new ≡ installed s came
    → ((k : ℕ) → Installing at old k (journal_at (map state items) k)) → (k : ℕ) → Installing (at + 1) old k (journal_at (map state (set items at new)) k)
installing-on state items at new old s came lt is knows after each =
    step-seen state (Installing at old) (Installing (at + 1) old) items at new no_journal lt each
    (λ k m other here. ((λ within. here.0 (omega arith)), (λ past. here.1 (omega arith)))) (
      (λ _. ap segment_of after ∙ installed-segment s came ∙ ap (reopened (segment_of s)) (sym knows)
          ∙ ap (λ (j : Journalled). reopened (segment_of j) j.reloaded) (sym is)),
      (λ past. absurd (omega arith)),
    )

-- what the journals up to an index came to, with one more
pub came-on : (media : List Medium) (at : ℕ) (came : Installed) → at < length media → (medium_at media at).reloaded ≡ Some came
    → came_to (take (at + 1) media) ≡ (cond (is_one_more (Some came)) OneMore (came_to (take at media)))
came-on media at came lt is =
    ap (λ (b : Bool). cond b OneMore Same) (list_any_more has_one_more media at no_medium lt ∙ ap (λ (o : Option Installed). list_any has_one_more (take at media) || is_one_more o) is)
    ∙ joins (list_any has_one_more (take at media)) (is_one_more (Some came))
  where
    joins : (before here : Bool) → cond (before || here) OneMore Same ≡ cond here OneMore (cond before OneMore Same)
    joins true true = refl
    joins true false = refl
    joins false true = refl
    joins false false = refl

pub map-twice : {X Y Z : Type 0} (f : X → Y) (g : Y → Z) (xs : List X) → map g (map f xs) ≡ map (λ x. g (f x)) xs
map-twice f g [] = refl
map-twice f g (x ∷ xs) = ap (λ ys. g (f x) ∷ ys) (map-twice f g xs)

reopened-map : {X : Type 0} (segment : X → Segment) (medium : X → Medium) (items : List X)
    → map (λ j. reopened (segment j) (medium j).reloaded) items ≡ reopened_all (map segment items) (map medium items)
reopened-map segment medium [] = refl
reopened-map segment medium (item ∷ items) = ap (λ ys. reopened (segment item) (medium item).reloaded ∷ ys) (reopened-map segment medium items)

-- all are installed
pub installed-all : {X : Type 0} (state : X → Journalled) (medium : X → Medium) (items old : List X) → ((j : X) → (medium j).reloaded ≡ (state j).reloaded)
    → length items ≡ length old → (n : ℕ) → length old ≤ n → ((k : ℕ) → Installing n (map state old) k (journal_at (map state items) k))
    → map (λ j. segment_of (state j)) items ≡ reopened_all (map (λ j. segment_of (state j)) old) (map medium old)
installed-all {X = X} state medium items old same size n all each =
    let opened : Journalled → Segment = λ s. reopened (segment_of s) s.reloaded in
    let news = map state items in
    let olds = map state old in
    let sizes : length news ≡ length olds = length-map items state ∙ size ∙ sym (length-map old state) in
    let count = length-map old state in
    let pointwise : map segment_of news ≡ map opened olds =
    ext_get_or no_segment (map segment_of news) (map opened olds) (length-map news segment_of ∙ sizes ∙ sym (length-map olds opened))
    (λ k within.
    let size_now = length-map news segment_of in
    let k_new : k < length news = omega (arith, within, size_now) in
    let k_old : k < length olds = omega (arith, k_new, sizes) in
    get_or-map segment_of news k no_journal no_segment k_new
    ∙ (each k).0 (omega (arith, k_old, count, all))
    ∙ sym (get_or-map opened olds k no_journal no_segment k_old)) in
    sym (map-twice state segment_of items) ∙ pointwise ∙ map-twice state opened old
    ∙ map-same (λ j. opened (state j)) (λ j. reopened (segment_of (state j)) (medium j).reloaded) old
    (λ j. ap (reopened (segment_of (state j))) (sym (same j)))
    ∙ reopened-map (λ j. segment_of (state j)) medium old
  where
    map-same : {Y Z : Type 0} (f g : Y → Z) (xs : List Y) → ((x : Y) → f x ≡ g x) → map f xs ≡ map g xs
    map-same f g [] is = refl
    map-same f g (x ∷ xs) is = ap (λ z. z ∷ map f xs) (is x) ∙ ap (λ ys. g x ∷ ys) (map-same f g xs is)
