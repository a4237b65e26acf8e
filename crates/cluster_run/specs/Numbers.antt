-- Elements behind their numbers.
use Rattle.std.specs.Prelude.{ℕ, suc, List, [], ◌∷◌}

-- elements, each behind its number, from one on
abbrev pub numbered_from : {T : Type 0} → ℕ → List T → List (ℕ × T)
numbered_from number [] = []
numbered_from number (x ∷ xs) = (number, x) ∷ numbered_from (suc number) xs
