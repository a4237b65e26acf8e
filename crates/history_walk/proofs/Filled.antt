-- Letters that were sent are those that written events name.
use Rattle.std.proofs.Common.{◌≡◌, ℕ, zero, suc, List, [], ◌∷◌, map, slice_get, Option, Some, None, refl, sym, ap, subst, ◌∙◌}
use Rattle.std.specs.Prelude.{is_some, if◌then◌else◌, ◌↔◌}
use Rattle.std.proofs.lemmas.Option.{none-some, same_Some}
use Rattle.history_frame.specs.declared.events.Event.{Event}
use Rattle.history_frame.specs.declared.events.Sent.{Sent}
use Rattle.history_frame.specs.declared.inputs.Input.TheVariants.{Deliver}
use Rattle.log_base.specs.ClusterShape.{Shape}
use Rattle.message_frame.specs.declared.messages.Message.{Message}
use Rattle.node_model.specs.Histories.{IsDelivered, IsSent, letters_of}
use Rattle.history_walk.specs.Filling.{IsFilled, filling, message_in, named_message, outputs_in}
use Rattle.history_walk.specs.declared.walker.Following.{Following}
use Rattle.history_walk.specs.declared.walker.Following.TheVariants.{Follows, Breaks}
use Rattle.history_walk.specs.Letters.{IsLetterAt}

-- an element of a mapped list
mapped : {A B : Type 0} (f : A → B) (xs : List A) (k : ℕ) (y : B) → slice_get (map f xs) k ≡ Some y → (x : A) × (slice_get xs k ≡ Some x) × (f x ≡ y)
mapped f [] k y e = absurd (none-some y e)
mapped f (x ∷ xs) zero y e = (x, refl, same_Some (f x) y e)
mapped f (x ∷ xs) (suc k) y e = mapped f xs k y e

map_at : {A B : Type 0} (f : A → B) (xs : List A) (k : ℕ) (x : A) → slice_get xs k ≡ Some x → slice_get (map f xs) k ≡ Some (f x)
map_at f [] k x e = absurd (none-some x e)
map_at f (z ∷ xs) zero x e = ap (λ y. Some (f y)) (same_Some z x e)
map_at f (z ∷ xs) (suc k) x e = map_at f xs k x e

module _ (events : List Event) (node place index : ℕ) where
  letter_at : (message : Message) → IsSent events node place index message → IsLetterAt (map letters_of events) node place index message
  letter_at message sent = record { outputs = sent.event.happened.outputs; at = map_at letters_of events place sent.event sent.at; is = sent.output }

  sent_at : (message : Message) → IsLetterAt (map letters_of events) node place index message → IsSent events node place index message
  sent_at message found =
      let event = mapped letters_of events place found.outputs found.at in
      record { event = event.0; at = event.1; output = ap (λ (l : List Sent). slice_get l index) event.2 ∙ found.is }

  named : (message : Message) → IsSent events node place index message → named_message events place index ≡ Some message
  named message sent =
      ap (λ (o : Option Event). message_in (slice_get (outputs_in o) index)) sent.at ∙ ap message_in sent.output

  -- the letter was found, or there is none
  pub letter_filled : (config : Shape) (sent : List (List Sent)) (told : Option Message) (message : Message) → sent ≡ map letters_of events
      → IsLetterAt sent node place index message → IsFilled config node events (Deliver place index told) (Some (Deliver place index (Some message)))
  letter_filled config sent told message e found =
      let it = sent_at message (subst (λ (l : List (List Sent)). IsLetterAt l node place index message) e found) in
      (ap (λ (m : Option Message). Deliver place index m) (sym (named message it)), it)

  pub letter_none : (config : Shape) (sent : List (List Sent)) (told : Option Message) → sent ≡ map letters_of events
      → ((message : Message) → IsLetterAt sent node place index message → ⊥) → IsFilled config node events (Deliver place index told) None
  letter_none config sent told e none = λ offered. at (named_message events place index) offered
    where
      at : (m : Option Message) → IsDelivered events node (Deliver place index m) → ⊥
      at None offered = offered
      at (Some message) offered = none message (subst (λ (l : List (List Sent)). IsLetterAt l node place index message) (sym e) (letter_at message offered))

  -- it was put in its place, where there is one
  pub letter_told : (config : Shape) (sent : List (List Sent)) (before told : Option Message) (following : Following) → sent ≡ map letters_of events
      → ((message : Message) → (told ≡ Some message) ↔ IsLetterAt sent node place index message) → following ≡ (if is_some told then Follows else Breaks)
      → IsFilled config node events (Deliver place index before) (filling following (Deliver place index told))
  letter_told config sent before None following e at is =
      subst (λ (f : Following). IsFilled config node events (Deliver place index before) (filling f (Deliver place index None))) (sym is)
      (letter_none config sent before e (λ message found. none-some message ((at message).1 found)))
  letter_told config sent before (Some message) following e at is =
      subst (λ (f : Following). IsFilled config node events (Deliver place index before) (filling f (Deliver place index (Some message)))) (sym is)
      (letter_filled config sent before message e ((at message).0 refl))
