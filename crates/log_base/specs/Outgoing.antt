-- Letters on their way out, and the spare buffers that later letters fill.
use Rattle.std.specs.Prelude.{ℕ, List, [], ◌∷◌, nat_le, Bool, true, false, if◌then◌else◌, IsTrue, slice_index_or}
use Rattle.std.specs.List.{list_any}

-- The letters in order, each with its addressee, and the sizes of the spare buffers, the oldest first.
pub record Outgoing : Type 0 where
  pub letters : List (ℕ × List ℕ)
  pub rooms : List ℕ

-- the letter at a place
abbrev pub letter_at : ℕ → List (ℕ × List ℕ) → ℕ × List ℕ
letter_at i letters = slice_index_or letters i (0, [])

-- a spare buffer has room for n bytes
abbrev pub HasRoom : ℕ → List ℕ → Type 0
HasRoom n rooms = IsTrue (list_any (nat_le n) rooms)

-- the spare buffers without the oldest that has room for n bytes
abbrev pub rooms_after : ℕ → List ℕ → List ℕ
rooms_after n [] = []
rooms_after n (room ∷ rooms) = if nat_le n room then rooms else room ∷ rooms_after n rooms

-- Letters of these sizes, one after another, find a spare buffer each: the first letter takes the oldest that
-- has room, and those after that one have room for the others.
abbrev pub have_rooms : List ℕ → List ℕ → Bool
have_rooms [] rooms = true
have_rooms (n ∷ sizes) [] = false
have_rooms (n ∷ sizes) (room ∷ rooms) = if nat_le n room then have_rooms sizes rooms else have_rooms (n ∷ sizes) rooms

abbrev pub HasRooms : List ℕ → List ℕ → Type 0
HasRooms sizes rooms = IsTrue (have_rooms sizes rooms)
