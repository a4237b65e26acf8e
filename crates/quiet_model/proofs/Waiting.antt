-- A letter of some kind waits in a list of letters.
use Rattle.std.proofs.Common.{◌⊎◌, List, [], ◌∷◌, ◌++◌, inl, inr}
use Rattle.history_frame.specs.declared.events.Sent.{Sent}

abbrev pub Waits : (Sent → Type 0) → List Sent → Type 0
Waits P [] = ⊥
Waits P (x ∷ xs) = P x ⊎ Waits P xs

pub waits_left : (P : Sent → Type 0) (xs ys : List Sent) → Waits P xs → Waits P (xs ++ ys)
waits_left P [] ys h = absurd h
waits_left P (x ∷ xs) ys (inl h) = inl h
waits_left P (x ∷ xs) ys (inr h) = inr (waits_left P xs ys h)

pub waits_right : (P : Sent → Type 0) (xs ys : List Sent) → Waits P ys → Waits P (xs ++ ys)
waits_right P [] ys h = h
waits_right P (x ∷ xs) ys h = inr (waits_right P xs ys h)
