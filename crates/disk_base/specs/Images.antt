-- What a write does to the bytes of a disk, and what a crash may leave of the writes since the last sync.
use Rattle.std.specs.Prelude.{◌≡◌, ◌⊎◌, ℕ, ◌+◌, ◌<◌, ◌≤◌, max, List, [], ◌∷◌, ◌++◌, length, take, drop, Option, Some}

-- the bytes after a write from a place, over what was there and past the old end
abbrev pub overwritten : List ℕ → ℕ → List ℕ → List ℕ
overwritten old at bytes = take at old ++ bytes ++ drop (at + length bytes) old

-- the bytes of a read from a place
abbrev pub read_at : List ℕ → ℕ → ℕ → List ℕ
read_at bytes at count = take count (drop at bytes)

-- What a crash may leave of a write of n bytes from a place: any bytes in the written range and past the
-- old end, any length from the old to the new, and the other bytes as they were.
pub record Torn (at n : ℕ) (old new : List ℕ) : Type 0 where
  pub before : take at new ≡ take at old
  pub after : drop (at + n) new ≡ drop (at + n) old
  pub no_shorter : length old ≤ length new
  pub no_longer : length new ≤ max (length old) (at + n)

-- where a write began, and how many bytes it had
pub record Range : Type 0 where
  pub at : ℕ
  pub count : ℕ

-- what a crash may leave of several writes, the first of them first: of each any part
abbrev pub TornBy : List Range → List ℕ → List ℕ → Type 0
TornBy [] old new = new ≡ old
TornBy (range ∷ ranges) old new = (between : List ℕ) × Torn range.at range.count old between × TornBy ranges between new

-- the place is in none of the ranges
abbrev pub IsOutside : List Range → ℕ → Type 0
IsOutside [] k = Unit {0}
IsOutside (range ∷ ranges) k = ((k < range.at) ⊎ (range.at + range.count ≤ k)) × IsOutside ranges k

-- the greater of a length and the ends of the ranges
abbrev pub end_of : List Range → ℕ → ℕ
end_of [] n = n
end_of (range ∷ ranges) n = end_of ranges (max n (range.at + range.count))

-- each new image is an old image after this step
abbrev pub Follows : (List ℕ → List ℕ → Type 0) → (List ℕ → Type 0) → (List ℕ → Type 0) → Type 0
Follows step old new = (c : List ℕ) → new c → (d : List ℕ) × old d × step d c

-- a crash may leave what it might have left before, and nothing else
pub record SameImages (old new : List ℕ → Type 0) : Type 0 where
  pub kept : (c : List ℕ) → old c → new c
  pub no_other : (c : List ℕ) → new c → old c

-- a crash may leave nothing that it might not have left before
abbrev pub AddsNoImage : (List ℕ → Type 0) → (List ℕ → Type 0) → Type 0
AddsNoImage old new = (c : List ℕ) → new c → old c

-- a crash leaves what a read gives, and nothing else
abbrev pub OnlyWhatIsRead : Option (List ℕ) → (List ℕ → Type 0) → Type 0
OnlyWhatIsRead reads images = (c : List ℕ) → images c → reads ≡ Some c
