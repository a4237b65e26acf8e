-- How many bytes letters count with.
use Rattle.std.specs.Prelude.{ℕ, ◌+◌, List, [], ◌∷◌, length}

-- the letters of an event in its frame: each has its addressee, its length and its bytes
abbrev pub letters_size : List (ℕ × List ℕ) → ℕ
letters_size [] = 0
letters_size (letter ∷ letters) = 6 + length letter.1 + letters_size letters
