-- Elements of lists, and the value in a place of a list.
use Rattle.std.specs.Prelude.{◌≡◌, ◌⊎◌, ℕ, zero, suc, List, [], ◌∷◌, ◌++◌}

-- x is an element
abbrev pub In : {A : Type 0} → A → List A → Type 0
In x [] = ⊥
In x (y ∷ ys) = (x ≡ y) ⊎ In x ys

-- x stands in a place
abbrev pub IsIn : {A : Type 0} → List A → ℕ → A → Type 0
IsIn [] place x = ⊥
IsIn (y ∷ ys) zero x = y ≡ x
IsIn (y ∷ ys) (suc place) x = IsIn ys place x

-- the list begins with another one
abbrev pub IsPrefix : {A : Type 0} → List A → List A → Type 0
IsPrefix {A} front list = (rest : List A) × (front ++ rest ≡ list)
