-- Room for letters: the first of several have it, and a letter may be shorter.
use Rattle.std.proofs.Common.{ℕ, ◌≤◌, Bool, true, false, cond, List, [], ◌∷◌, ◌++◌, refl, arith, length-append, nat_le, IsTrue}
use Rattle.log_base.specs.Outgoing.{HasRooms, have_rooms}
use Rattle.log_base.proofs.Rooms.{HasRooms-shorter}
use Rattle.event_letters.specs.Letters.{EventLetters, HasSpace}
use Rattle.storage_node.proofs.Elements.{all-front}

rooms-front : (rooms xs ys : List ℕ) → HasRooms (xs ++ ys) rooms → HasRooms xs rooms
rooms-front rooms [] ys h = refl
rooms-front [] (x ∷ xs) ys h = cc
rooms-front (room ∷ rooms) (x ∷ xs) ys h = next (nat_le x room) h (rooms-front rooms xs ys) (rooms-front rooms (x ∷ xs) ys)
  where
    next : (b : Bool) → IsTrue (cond b (have_rooms (xs ++ ys) rooms) (have_rooms (x ∷ (xs ++ ys)) rooms)) → (HasRooms (xs ++ ys) rooms → HasRooms xs rooms)
        → (HasRooms (x ∷ (xs ++ ys)) rooms → HasRooms (x ∷ xs) rooms) → IsTrue (cond b (have_rooms xs rooms) (have_rooms (x ∷ xs) rooms))
    next true h f g = f h
    next false h f g = g h

-- the first letters have room
pub space-front : (letters : EventLetters) (rooms xs ys : List ℕ) → HasSpace letters rooms (xs ++ ys) → HasSpace letters rooms xs
space-front letters rooms xs ys h = record {
  many = omega (arith, h.many, length-append xs ys);
  each = all-front (λ size. size ≤ letters.longest) xs ys h.each;
  spares = rooms-front rooms xs ys h.spares;
}

-- the first letter has room, also where it is shorter
pub space-first : (letters : EventLetters) (rooms : List ℕ) (m n : ℕ) (sizes : List ℕ) → m ≤ n → HasSpace letters rooms (n ∷ sizes) → HasSpace letters rooms (m ∷ [])
space-first letters rooms m n sizes le h =
    let one = space-front letters rooms (n ∷ []) sizes h in
    record { many = one.many; each = (omega (arith, le, one.each.0), tt); spares = HasRooms-shorter rooms m n [] le one.spares }

-- no letter has room
pub space-none : (letters : EventLetters) (rooms : List ℕ) → HasSpace letters rooms []
space-none letters rooms = record { many = omega arith; each = tt; spares = refl }
