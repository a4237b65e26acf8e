-- Majorities: more than half of the orderers, which are numbered from 0.
use Rattle.std.specs.Prelude.{ℕ, zero, suc, ◌+◌, ◌/◌, List, Bool, true, false, nat_le, if◌then◌else◌, slice_index_or, slice_set, replicate}

-- how many numbers below one pass a test
abbrev pub tally : (ℕ → Bool) → ℕ → ℕ
tally test zero = 0
tally test (suc n) = (if test n then 1 else 0) + tally test n

-- whether a majority of so many orderers passes a test
unfoldable pub is_majority : ℕ → (ℕ → Bool) → Bool
is_majority orderers test = nat_le (orderers / 2 + 1) (tally test orderers)

-- marks for up to seven orderers, none of them set
unfoldable pub no_marks : List Bool
no_marks = replicate 7 false

abbrev pub is_marked : List Bool → ℕ → Bool
is_marked marks orderer = slice_index_or marks orderer false

abbrev pub marked : List Bool → ℕ → List Bool
marked marks orderer = slice_set marks orderer true

-- how many of the orderers are marked, and whether they are a majority
abbrev pub count_marks : ℕ → List Bool → ℕ
count_marks orderers marks = tally (is_marked marks) orderers

abbrev pub most : ℕ → List Bool → Bool
most orderers marks = is_majority orderers (is_marked marks)
