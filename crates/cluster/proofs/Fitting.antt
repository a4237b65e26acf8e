-- The events of passes fit their frames, and so does each event of the history.
use Rattle.std.proofs.Common.{◌≡◌, ◌≤◌, ℕ, zero, suc, ◌*◌, List, [], ◌∷◌, ◌++◌, length, length-append, slice_get, Some, refl, sym, subst, ⊎_elim, arith}
use Rattle.std.specs.List.{AllByRecursion, flat_map}
use Rattle.std.proofs.lemmas.Option.{none-some}
use Rattle.answer_law.specs.Frames.{FitsFrame}
use Rattle.history_frame.specs.declared.events.Event.{Event}
use Rattle.history_frame.specs.declared.events.Happened.{Happened}
use Rattle.history_frame.specs.declared.events.Sent.{Sent}
use Rattle.history_frame.specs.Spelling.{event_size, sent_spelling}
use Rattle.log_base.specs.Wide.{be2, be4}
use Rattle.log_base.proofs.Legal.{at_push}
use Rattle.tied_cells.specs.declared.account.Account.{Account}
use Rattle.tied_cells.specs.declared.board.Own.{Own}
use Rattle.cluster.specs.Clusters.{AllFit, PassSeat}
use Rattle.cluster.specs.Events.{own_event}
use Rattle.cluster.specs.History.{AreAllEvents}
use Rattle.cluster.proofs.Sizes.{event_parts}

pub fit_none : AllFit []
fit_none k event there = absurd (none-some event there)

-- one event more
pub fit_more : (place node : ℕ) (own : List (Own Happened)) (happened : Happened) → AllFit own → FitsFrame happened → AllFit (own ++ own_event place node happened ∷ [])
fit_more place node own happened fit more k event there =
    ⊎_elim (λ (old : (slice_get own k ≡ Some event) × _). fit k event old.0) (λ (last : (own_event place node happened ≡ event) × _). subst (λ (x : Own Happened). FitsFrame x.happened) last.0 more)
    (at_push own (own_event place node happened) k event there)

-- each letter has six bytes at least
letters_long : (outputs : List Sent) → 6 * length outputs ≤ length (flat_map sent_spelling outputs)
unfolding be2 be4
letters_long [] = omega arith
letters_long (sent ∷ outputs) = let rest = letters_long outputs in let all = length-append (sent_spelling sent) (flat_map sent_spelling outputs) in omega arith

-- so an event of few bytes has few letters
pub brief_fits : (happened : Happened) → event_size happened ≤ 200 → FitsFrame happened
brief_fits happened small = let parts = event_parts happened in let letters = letters_long happened.outputs in record { few = omega arith; small = omega arith }

-- what is so at each index is so of all
pub all_got : {A : Type 0} (P : A → Type 0) (xs : List A) → ((k : ℕ) (x : A) → slice_get xs k ≡ Some x → P x) → AllByRecursion P xs
all_got P [] h = tt
all_got P (x ∷ xs) h = (h zero x refl, all_got P xs (λ k y there. h (suc k) y there))

module _ {A : Type 0} (passes : List (PassSeat A × Account)) where
  pub all_fit : ((k : ℕ) (pass : PassSeat A × Account) → slice_get passes k ≡ Some pass → AllFit pass.0.me.0.own)
      → (events : List Event) → AreAllEvents passes events → AllByRecursion (λ (event : Event). FitsFrame event.happened) events
  all_fit fit events are = all_got (λ (event : Event). FitsFrame event.happened) events (λ place event there.
      let one = are.all place event there in
      subst (λ (e : Event). FitsFrame e.happened) (sym one.event_is) (fit one.k one.pass one.there one.j one.own one.among))
