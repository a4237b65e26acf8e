-- A legal list of events, event by event.
use Rattle.std.proofs.Common.{◌≡◌, ℕ, zero, suc, Bool, true, false, cond, ◌⊎◌, inl, inr, List, [], ◌∷◌, ◌++◌, take, slice_get, Some, nat_eq, refl, sym, ap, subst}
use Rattle.log_base.specs.Machines.{Letter, Meanings, Event, of_node, state_after, IsOutput, IsNext, IsLegal}

module _ {X : Type 0} where
  -- what stands at a place of a list with one more at its end: what stood there, with the same before it, or the last
  pub at_push : (xs : List X) (x : X) (k : ℕ) (y : X) → slice_get (xs ++ x ∷ []) k ≡ Some y
      → ((slice_get xs k ≡ Some y) × (take k (xs ++ x ∷ []) ≡ take k xs)) ⊎ ((x ≡ y) × (take k (xs ++ x ∷ []) ≡ xs))
  at_push [] x zero y h = inr (cc, refl)
  at_push [] x (suc k) y h = cc
  at_push (z ∷ xs) x zero y h = inl (h, refl)
  at_push (z ∷ xs) x (suc k) y h = elim (at_push xs x k y h) [
    | inl p ↦ inl (p.0, ap (λ (l : List X). z ∷ l) p.1)
    | inr p ↦ inr (p.0, ap (λ (l : List X). z ∷ l) p.1)
  ]

  -- a place of a list, and what stands before it, stay when the list grows
  pub at_longer : (xs ys : List X) (k : ℕ) (y : X) → slice_get xs k ≡ Some y
      → (slice_get (xs ++ ys) k ≡ Some y) × (take k (xs ++ ys) ≡ take k xs)
  at_longer [] ys k y h = cc
  at_longer (x ∷ xs) ys zero y h = (h, refl)
  at_longer (x ∷ xs) ys (suc k) y h =
      let rest = at_longer xs ys k y h in (rest.0, ap (λ (l : List X). x ∷ l) rest.1)

  -- the last of a list stands at the list's end, after the others
  pub last_place : (xs : List X) (x : X) → (k : ℕ) × (slice_get (xs ++ x ∷ []) k ≡ Some x) × (take k (xs ++ x ∷ []) ≡ xs)
  last_place [] x = (zero, refl, refl)
  last_place (y ∷ xs) x =
      let rest = last_place xs x in (suc rest.0, rest.1, ap (λ (l : List X). y ∷ l) rest.2)

module _ {H : Type 0} where
  -- an event of the node itself, or of another
  pub of_node-here : (node : ℕ) (log : List (Event H)) (event : Event H) → nat_eq event.node node ≡ true
      → of_node node (log ++ event ∷ []) ≡ of_node node log ++ event.happened ∷ []
  of_node-here node [] event e = ap (λ (b : Bool). cond b (event.happened ∷ []) []) e
  of_node-here node (first ∷ log) event e = next (nat_eq first.node node) (of_node-here node log event e)
    where
      next : (b : Bool) → of_node node (log ++ event ∷ []) ≡ of_node node log ++ event.happened ∷ []
          → cond b (first.happened ∷ of_node node (log ++ event ∷ [])) (of_node node (log ++ event ∷ []))
          ≡ cond b (first.happened ∷ of_node node log) (of_node node log) ++ event.happened ∷ []
      next true h = ap (λ (l : List H). first.happened ∷ l) h
      next false h = h

  pub of_node-else : (node : ℕ) (log : List (Event H)) (event : Event H) → nat_eq event.node node ≡ false
      → of_node node (log ++ event ∷ []) ≡ of_node node log
  of_node-else node [] event e = ap (λ (b : Bool). cond b (event.happened ∷ []) []) e
  of_node-else node (first ∷ log) event e =
      ap (λ (l : List H). cond (nat_eq first.node node) (first.happened ∷ l) l) (of_node-else node log event e)

module _ {S I H : Type 0} (m : Meanings S I H) where
  pub state_after-push : (start : S) (happened : List H) (last : H) → state_after m start (happened ++ last ∷ []) ≡ m.after (state_after m start happened) last
  state_after-push start [] last = refl
  state_after-push start (h ∷ happened) last = state_after-push (m.after start h) happened last

  -- an output stays one
  pub output_longer : (log more : List (Event H)) (node : ℕ) (letter : Letter) → IsOutput m log node letter → IsOutput m (log ++ more) node letter
  output_longer log more node letter h = (h.0, (at_longer log more letter.0 h.0 h.1).0, h.2)

  -- no event is legal, and so is one more that may come next
  pub legal_none : (starts : List S) → IsLegal m starts []
  legal_none starts k event h = cc

  pub legal_push : (starts : List S) (log : List (Event H)) (event : Event H) → IsLegal m starts log → IsNext m starts log event → IsLegal m starts (log ++ event ∷ [])
  legal_push starts log event legal last k other h = elim (at_push log event k other h) [
    | inl p ↦ subst (λ (before : List (Event H)). IsNext m starts before other) (sym p.1) (legal k other p.0)
    | inr p ↦ subst (λ (before : List (Event H)). IsNext m starts before other) (sym p.1) (subst (λ (e : Event H). IsNext m starts log e) p.0 last)
  ]

  -- the way back: the events before the last are legal, and the last may come after them
  pub legal_before : (starts : List S) (log : List (Event H)) (event : Event H) → IsLegal m starts (log ++ event ∷ []) → IsLegal m starts log
  legal_before starts log event legal k other h =
      let place = at_longer log (event ∷ []) k other h in
      subst (λ (before : List (Event H)). IsNext m starts before other) place.1 (legal k other place.0)

  pub legal_last : (starts : List S) (log : List (Event H)) (event : Event H) → IsLegal m starts (log ++ event ∷ []) → IsNext m starts log event
  legal_last starts log event legal =
      let place = last_place log event in
      subst (λ (before : List (Event H)). IsNext m starts before event) place.2 (legal place.0 event place.1)
