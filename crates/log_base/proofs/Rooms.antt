-- What a letter takes of the spare buffers, and what a row of letters needs of them.
use Rattle.std.proofs.Common.{◌≡◌, ℕ, suc, ◌+◌, ◌<◌, ◌≤◌, Bool, true, false, not, cond, ◌||◌, List, [], ◌∷◌, ◌++◌, length, get_or, refl, ◌∙◌, ap, subst, arith, nat_le, IsTrue}
use Rattle.std.specs.List.{list_any, position_or_len, remove}
use borrow.Author.Tests.{leb-true, leb-false}
use Rattle.std.proofs.lemmas.List.Folds.{list_any-append}
use Rattle.log_base.specs.Outgoing.{HasRoom, rooms_after, have_rooms, HasRooms}

module _ (n : ℕ) where
  -- the place of the first buffer with room, or their number
  abbrev pub first_with_room : List ℕ → ℕ
  first_with_room spares = position_or_len (λ spare. nat_le n spare) spares

  -- it is one of them
  pub first-within : (spares : List ℕ) → HasRoom n spares → first_with_room spares < length spares
  first-within [] h = cc
  first-within (spare ∷ spares) h = next (nat_le n spare) (list_any (nat_le n) spares) (first_with_room spares) (length spares) h (first-within spares)
    where
      next : (b any : Bool) (at len : ℕ) → IsTrue (b || any) → (IsTrue any → at < len) → cond (not b) (1 + at) 0 < suc len
      next true any at len h below = omega arith
      next false any at len h below = let k = below h in omega arith

  -- it has room
  pub first-room : (spares : List ℕ) (d : ℕ) → HasRoom n spares → n ≤ get_or spares (first_with_room spares) d
  first-room [] d h = cc
  first-room (spare ∷ spares) d h = next (nat_le n spare) (list_any (nat_le n) spares) (first_with_room spares) (leb-true n spare) h (first-room spares d)
    where
      next : (b any : Bool) (at : ℕ) → (b ≡ true → n ≤ spare) → IsTrue (b || any) → (IsTrue any → n ≤ get_or spares at d)
          → n ≤ get_or (spare ∷ spares) (cond (not b) (1 + at) 0) d
      next true any at fits h other = fits refl
      next false any at fits h other =
          let e : suc at ≡ 1 + at = omega arith in
          subst (λ (k : ℕ). n ≤ get_or (spare ∷ spares) k d) e (other h)

  -- and without it the others' rooms are those after the letter
  pub first-removed : (spares : List ℕ) → remove spares (first_with_room spares) ≡ rooms_after n spares
  first-removed [] = refl
  first-removed (spare ∷ spares) = next (nat_le n spare) (first_with_room spares) (rooms_after n spares) (first-removed spares)
    where
      next : (b : Bool) (at : ℕ) (after : List ℕ) → remove spares at ≡ after
          → remove (spare ∷ spares) (cond (not b) (1 + at) 0) ≡ cond b spares (spare ∷ after)
      next true at after h = refl
      next false at after h =
          let e : suc at ≡ 1 + at = omega arith in
          subst (λ (k : ℕ). remove (spare ∷ spares) k ≡ spare ∷ after) e (ap (λ (l : List ℕ). spare ∷ l) h)

-- a number is at most itself
at_most_itself : (n : ℕ) → nat_le n n ≡ true
at_most_itself n = test (nat_le n n) refl
  where
    test : (b : Bool) → nat_le n n ≡ b → b ≡ true
    test true e = refl
    test false e = absurd (omega (arith, leb-false n n e))

-- a new spare buffer has room
pub HasRoom-new : (n : ℕ) (rooms : List ℕ) → HasRoom n (rooms ++ n ∷ [])
HasRoom-new n rooms = list_any-append (nat_le n) rooms (n ∷ []) ∙ last (nat_le n n) (list_any (nat_le n) rooms) (at_most_itself n)
  where
    last : (b any : Bool) → b ≡ true → (any || (b || false)) ≡ true
    last true true e = refl
    last true false e = refl
    last false any e = cc

-- what follows from a choice, and a choice from another
from_choice : {P : Type 0} (b p q : Bool) → IsTrue (cond b p q) → (IsTrue p → P) → (IsTrue q → P) → P
from_choice true p q h f g = f h
from_choice false p q h f g = g h

choice : (b p q p' q' : Bool) → IsTrue (cond b p q) → (IsTrue p → IsTrue p') → (IsTrue q → IsTrue q') → IsTrue (cond b p' q')
choice true p q p' q' h f g = f h
choice false p q p' q' h f g = g h

choice_of : (b p q : Bool) → IsTrue p → IsTrue q → IsTrue (cond b p q)
choice_of true p q f g = f
choice_of false p q f g = g

older_by : (rooms : List ℕ) (room : ℕ) → ((n : ℕ) (sizes : List ℕ) → HasRooms (n ∷ sizes) rooms → HasRooms sizes rooms)
    → (sizes : List ℕ) → HasRooms sizes rooms → HasRooms sizes (room ∷ rooms)
older_by rooms room fewer [] h = refl
older_by rooms room fewer (n ∷ sizes) h = choice_of (nat_le n room) (have_rooms sizes rooms) (have_rooms (n ∷ sizes) rooms) (fewer n sizes h) h

-- without the first letter
pub HasRooms-fewer : (rooms : List ℕ) (n : ℕ) (sizes : List ℕ) → HasRooms (n ∷ sizes) rooms → HasRooms sizes rooms
HasRooms-fewer [] n sizes h = cc
HasRooms-fewer (room ∷ rooms) n sizes h =
    older_by rooms room (HasRooms-fewer rooms) sizes
    (from_choice (nat_le n room) (have_rooms sizes rooms) (have_rooms (n ∷ sizes) rooms) h (λ k. k) (λ k. HasRooms-fewer rooms n sizes k))

-- with one more buffer, older than the others
pub HasRooms-older : (rooms : List ℕ) (room : ℕ) (sizes : List ℕ) → HasRooms sizes rooms → HasRooms sizes (room ∷ rooms)
HasRooms-older rooms room sizes h = older_by rooms room (HasRooms-fewer rooms) sizes h

-- the first letter finds room
pub HasRooms-first : (rooms : List ℕ) (n : ℕ) (sizes : List ℕ) → HasRooms (n ∷ sizes) rooms → HasRoom n rooms
HasRooms-first [] n sizes h = cc
HasRooms-first (room ∷ rooms) n sizes h = next (nat_le n room) h (HasRooms-first rooms n sizes)
  where
    next : (b : Bool) → IsTrue (cond b (have_rooms sizes rooms) (have_rooms (n ∷ sizes) rooms))
        → (HasRooms (n ∷ sizes) rooms → HasRoom n rooms) → IsTrue (b || list_any (nat_le n) rooms)
    next true h other = refl
    next false h other = other h

-- and after it the others find theirs
pub HasRooms-after : (rooms : List ℕ) (n : ℕ) (sizes : List ℕ) → HasRooms (n ∷ sizes) rooms → HasRooms sizes (rooms_after n rooms)
HasRooms-after [] n sizes h = cc
HasRooms-after (room ∷ rooms) n sizes h =
    next (nat_le n room) h (λ k. HasRooms-older (rooms_after n rooms) room sizes (HasRooms-after rooms n sizes k))
  where
    next : (b : Bool) → IsTrue (cond b (have_rooms sizes rooms) (have_rooms (n ∷ sizes) rooms))
        → (HasRooms (n ∷ sizes) rooms → HasRooms sizes (room ∷ rooms_after n rooms)) → HasRooms sizes (cond b rooms (room ∷ rooms_after n rooms))
    next true h other = h
    next false h other = other h

-- the first letter may be shorter
pub HasRooms-shorter : (rooms : List ℕ) (m n : ℕ) (sizes : List ℕ) → m ≤ n → HasRooms (n ∷ sizes) rooms → HasRooms (m ∷ sizes) rooms
HasRooms-shorter [] m n sizes less h = cc
HasRooms-shorter (room ∷ rooms) m n sizes less h = next (nat_le m room) (nat_le n room) refl refl h (HasRooms-shorter rooms m n sizes less)
  where
    next : (b c : Bool) → nat_le m room ≡ b → nat_le n room ≡ c → IsTrue (cond c (have_rooms sizes rooms) (have_rooms (n ∷ sizes) rooms))
        → (HasRooms (n ∷ sizes) rooms → HasRooms (m ∷ sizes) rooms) → IsTrue (cond b (have_rooms sizes rooms) (have_rooms (m ∷ sizes) rooms))
    next true true e f h other = h
    next true false e f h other = HasRooms-fewer rooms n sizes h
    next false false e f h other = other h
    next false true e f h other = absurd (omega (arith, leb-false m room e, leb-true n room f))

-- a new spare buffer serves one letter more, at the end
pub HasRooms-new : (rooms : List ℕ) (n : ℕ) (sizes : List ℕ) → HasRooms sizes rooms → HasRooms (sizes ++ n ∷ []) (rooms ++ n ∷ [])
HasRooms-new [] n [] h = ap (λ b. cond b true false) (at_most_itself n)
HasRooms-new [] n (size ∷ sizes) h = cc
HasRooms-new (room ∷ rooms) n [] h = choice_of (nat_le n room) true (have_rooms (n ∷ []) (rooms ++ n ∷ [])) refl (HasRooms-new rooms n [] refl)
HasRooms-new (room ∷ rooms) n (size ∷ sizes) h =
    choice (nat_le size room) (have_rooms sizes rooms) (have_rooms (size ∷ sizes) rooms)
    (have_rooms (sizes ++ n ∷ []) (rooms ++ n ∷ [])) (have_rooms (size ∷ sizes ++ n ∷ []) (rooms ++ n ∷ [])) h
    (λ k. HasRooms-new rooms n sizes k) (λ k. HasRooms-new rooms n (size ∷ sizes) k)
