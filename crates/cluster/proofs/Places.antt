-- The history of a log of events: each event at its place.
use Rattle.std.proofs.Common.{◌≡◌, ℕ, zero, suc, ◌+◌, List, [], ◌∷◌, ◌++◌, length, slice_get, Some, refl, sym, ap, ◌∙◌, subst, arith}
use Rattle.std.specs.List.{AllByRecursion}
use Rattle.std.proofs.lemmas.Option.{none-some, same_Some}
use Rattle.history_frame.specs.declared.events.Event.{Event}
use Rattle.history_frame.specs.declared.events.Happened.{Happened}
use Rattle.history_frame.specs.Spelling.{InPlace}
use Rattle.tied_cells.specs.History.{Entry}
use Rattle.cluster.specs.History.{event_at, history_from}

pub length_history : (place : ℕ) (log : List (Entry Happened)) → length (history_from place log) ≡ length log
length_history place [] = refl
length_history place (entry ∷ log) = ap suc (length_history (suc place) log)

pub history_in_place : (place : ℕ) (log : List (Entry Happened)) → InPlace place (history_from place log)
history_in_place place [] = tt
history_in_place place (entry ∷ log) =
    let next : suc place ≡ place + 1 = omega arith in
    (refl, subst (λ (p : ℕ). InPlace p (history_from (suc place) log)) next (history_in_place (suc place) log))

-- one event more
pub history_push : (place : ℕ) (log : List (Entry Happened)) (last : ℕ) (entry : Entry Happened) → last ≡ length log + place
    → history_from place (log ++ entry ∷ []) ≡ history_from place log ++ event_at last entry ∷ []
history_push place [] last entry at =
    let here : place ≡ last = omega arith in ap (λ (p : ℕ). event_at p entry ∷ []) here
history_push place (first ∷ log) last entry at =
    let next : last ≡ length log + suc place = omega arith in
    ap (λ (l : List Event). event_at place first ∷ l) (history_push (suc place) log last entry next)

-- the event of an entry, and the entry of an event
pub history_get : (place : ℕ) (log : List (Entry Happened)) (k last : ℕ) (entry : Entry Happened) → last ≡ k + place → slice_get log k ≡ Some entry
    → slice_get (history_from place log) k ≡ Some (event_at last entry)
history_get place [] k last entry at there = absurd (none-some entry there)
history_get place (first ∷ log) zero last entry at there =
    let here : place ≡ last = omega arith in let same = same_Some first entry there in λ i. Some (event_at (here i) (same i))
history_get place (first ∷ log) (suc k) last entry at there =
    let next : last ≡ k + suc place = omega arith in history_get (suc place) log k last entry next there

pub record IsEntry (place : ℕ) (log : List (Entry Happened)) (k : ℕ) (event : Event) : Type 0 where
  pub entry : Entry Happened
  pub there : slice_get log k ≡ Some entry
  pub event_is : event ≡ event_at (k + place) entry

pub history_entry : (place : ℕ) (log : List (Entry Happened)) (k : ℕ) (event : Event) → slice_get (history_from place log) k ≡ Some event → IsEntry place log k event
history_entry place [] k event there = absurd (none-some event there)
history_entry place (first ∷ log) zero event there =
    let here : place ≡ zero + place = omega arith in
    record { entry = first; there = refl; event_is = sym (same_Some (event_at place first) event there) ∙ ap (λ (p : ℕ). event_at p first) here }
history_entry place (first ∷ log) (suc k) event there =
    let rest = history_entry (suc place) log k event there in
    let same : k + suc place ≡ suc k + place = omega arith in
    record { entry = rest.entry; there = rest.there; event_is = rest.event_is ∙ ap (λ (p : ℕ). event_at p rest.entry) same }

-- what holds of each entry, at whatever place, holds of each event
pub all_history : (P : Event → Type 0) (place : ℕ) (log : List (Entry Happened)) → ((k : ℕ) (entry : Entry Happened) → slice_get log k ≡ Some entry → (q : ℕ) → P (event_at q entry))
    → AllByRecursion P (history_from place log)
all_history P place [] h = tt
all_history P place (entry ∷ log) h = (h zero entry refl place, all_history P (suc place) log (λ k e there. h (suc k) e there))
