-- Room for letters: what a letter takes of it, and what making room adds.
use Rattle.std.proofs.Common.{◌≡◌, ℕ, zero, suc, ◌+◌, ◌≤◌, Bool, true, false, cond, ◌||◌, nat_le, IsTrue, List, [], ◌∷◌, ◌++◌, replicate, sym, refl, subst, ap, arith}
use Rattle.std.specs.List.{AllByRecursion, list_any}
use Rattle.std.proofs.lemmas.List.{append_assoc, append-nil, length-append, length-replicate}
use Rattle.log_base.specs.Outgoing.{HasRoom, HasRooms, have_rooms, rooms_after}
use Rattle.log_base.proofs.Rooms.{HasRooms-first, HasRooms-after, HasRooms-shorter, HasRooms-new}
use Rattle.event_letters.specs.Letters.{EventLetters, HasSpace}

-- each of some sizes is at most a limit
abbrev AtMost : ℕ → List ℕ → Type 0
AtMost limit sizes = AllByRecursion (λ size. size ≤ limit) sizes

raised : (less more : ℕ) (sizes : List ℕ) → less ≤ more → AtMost less sizes → AtMost more sizes
raised less more [] le h = tt
raised less more (size ∷ sizes) le h = (omega (arith, le, h.0), raised less more sizes le h.1)

joined : (limit : ℕ) (sizes others : List ℕ) → AtMost limit sizes → AtMost limit others → AtMost limit (sizes ++ others)
joined limit [] others h k = k
joined limit (size ∷ sizes) others h k = (h.0, joined limit sizes others h.1 k)

repeated : (limit count size : ℕ) → size ≤ limit → AtMost limit (replicate count size)
repeated limit zero size le = tt
repeated limit (suc count) size le = (le, repeated limit count size le)

-- a spare buffer for each new letter
pub with_more : (count size : ℕ) (sizes rooms : List ℕ) → HasRooms sizes rooms → HasRooms (sizes ++ replicate count size) (rooms ++ replicate count size)
with_more zero size sizes rooms h =
    subst (λ (l : List ℕ). HasRooms l (rooms ++ [])) (sym (append-nil sizes)) (subst (λ (l : List ℕ). HasRooms sizes l) (sym (append-nil rooms)) h)
with_more (suc count) size sizes rooms h =
    let more = with_more count size (sizes ++ size ∷ []) (rooms ++ size ∷ []) (HasRooms-new rooms size sizes h) in
    subst (λ (l : List ℕ). HasRooms l (rooms ++ size ∷ replicate count size)) (append_assoc sizes (size ∷ []) (replicate count size))
    (subst (λ (l : List ℕ). HasRooms ((sizes ++ size ∷ []) ++ replicate count size) l) (append_assoc rooms (size ∷ []) (replicate count size)) more)

-- one buffer more
pub replicate-push : (count size : ℕ) → replicate count size ++ size ∷ [] ≡ replicate (suc count) size
replicate-push zero size = refl
replicate-push (suc count) size = ap (λ (l : List ℕ). size ∷ l) (replicate-push count size)

-- a letter alone finds its buffer
pub first_room : (letters : EventLetters) (rooms : List ℕ) (size : ℕ) → HasSpace letters rooms (size ∷ []) → HasRoom size rooms
first_room letters rooms size h = HasRooms-first rooms size [] h.spares

-- and after a letter there is room for the others
pub after_letter : (old new : EventLetters) (rooms : List ℕ) (n size : ℕ) (sizes : List ℕ) → n ≤ size → old.room ≤ new.room + 1 → old.longest ≤ new.longest
    → HasSpace old rooms (size ∷ sizes) → HasSpace new (rooms_after n rooms) sizes
after_letter old new rooms n size sizes less room longest h = record {
  many = let k = h.many in omega (arith, k, room);
  each = raised old.longest new.longest sizes longest h.each.1;
  spares = HasRooms-after rooms n sizes (HasRooms-shorter rooms n size sizes less h.spares);
}

-- room that was made
pub made_room : (old new : EventLetters) (rooms : List ℕ) (count size : ℕ) (sizes : List ℕ) → old.room + count ≤ new.room → old.longest ≤ new.longest → size ≤ new.longest
    → HasSpace old rooms sizes → HasSpace new (rooms ++ replicate count size) (sizes ++ replicate count size)
made_room old new rooms count size sizes room longest fits h = record {
  many = omega (arith, room, h.many, length-append sizes (replicate count size), length-replicate count size);
  each = joined new.longest sizes (replicate count size) (raised old.longest new.longest sizes longest h.each) (repeated new.longest count size fits);
  spares = with_more count size sizes rooms h.spares;
}

-- no letters need no room
pub no_letters : (letters : EventLetters) (rooms : List ℕ) → HasSpace letters rooms []
no_letters letters rooms = record { many = omega arith; each = tt; spares = refl }

-- a letter that is first finds its buffer, and room for it alone is there
pub first_finds : (letters : EventLetters) (rooms : List ℕ) (size : ℕ) (sizes : List ℕ) → HasSpace letters rooms (size ∷ sizes) → HasRoom size rooms
first_finds letters rooms size sizes h = HasRooms-first rooms size sizes h.spares

alone : (size : ℕ) (rooms : List ℕ) → HasRoom size rooms → HasRooms (size ∷ []) rooms
alone size [] h = cc
alone size (room ∷ rooms) h = next (nat_le size room) h (alone size rooms)
  where
    next : (b : Bool) → IsTrue (b || list_any (nat_le size) rooms) → (HasRoom size rooms → HasRooms (size ∷ []) rooms)
        → IsTrue (cond b true (have_rooms (size ∷ []) rooms))
    next true k other = refl
    next false k other = other k

pub first_alone : (letters : EventLetters) (rooms : List ℕ) (size : ℕ) (sizes : List ℕ) → HasSpace letters rooms (size ∷ sizes) → HasSpace letters rooms (size ∷ [])
first_alone letters rooms size sizes h = record {
  many = let k = h.many in omega arith;
  each = (h.each.0, tt);
  spares = alone size rooms (first_finds letters rooms size sizes h);
}
