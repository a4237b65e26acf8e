-- What holds of each element of a list, by its parts and at its places.
use Rattle.std.proofs.Common.{◌≡◌, ℕ, zero, suc, ◌<◌, List, [], ◌∷◌, ◌++◌, length, get_or, set, take, drop, map, sym, ap, ◌∙◌, arith}
use Rattle.std.specs.List.{AllByRecursion}
use Rattle.std.specs.Prelude.{Result, Ok, Err, OnOk}
use Rattle.std.proofs.lemmas.List.{map-id}
use Rattle.std.proofs.Math.Seq.{drop-cons}
use Rattle.std.proofs.lemmas.List.{take-append-drop}

module _ {X : Type 0} (P : X → Type 0) where
  pub all-front : (xs ys : List X) → AllByRecursion P (xs ++ ys) → AllByRecursion P xs
  all-front [] ys h = tt
  all-front (x ∷ xs) ys h = (h.0, all-front xs ys h.1)

  pub all-back : (xs ys : List X) → AllByRecursion P (xs ++ ys) → AllByRecursion P ys
  all-back [] ys h = h
  all-back (x ∷ xs) ys h = all-back xs ys h.1

  pub all-joined : (xs ys : List X) → AllByRecursion P xs → AllByRecursion P ys → AllByRecursion P (xs ++ ys)
  all-joined [] ys h k = k
  all-joined (x ∷ xs) ys h k = (h.0, all-joined xs ys h.1 k)

  pub all-at : (xs : List X) (k : ℕ) (d : X) → AllByRecursion P xs → k < length xs → P (get_or xs k d)
  all-at [] k d h lt = absurd (omega arith)
  all-at (x ∷ xs) zero d h lt = h.0
  all-at (x ∷ xs) (suc k) d h lt = all-at xs k d h.1 (omega arith)

  pub all-set : (xs : List X) (k : ℕ) (y : X) → AllByRecursion P xs → P y → AllByRecursion P (set xs k y)
  all-set [] k y h p = tt
  all-set (x ∷ xs) zero y h p = (p, h.1)
  all-set (x ∷ xs) (suc k) y h p = (h.0, all-set xs k y h.1 p)

  -- what holds at each place holds of each
  pub all-from_at : (xs : List X) (d : X) → ((k : ℕ) → k < length xs → P (get_or xs k d)) → AllByRecursion P xs
  all-from_at [] d h = tt
  all-from_at (x ∷ xs) d h = (h 0 (omega arith), all-from_at xs d (λ k lt. h (suc k) (omega arith)))

-- what was yielded so far, the element that comes, and the others
pub split-here : {X : Type 0} (xs all : List X) (x : X) → map (λ (y : X). y) xs ≡ take (length xs) all → length xs < length all → x ≡ get_or all (length xs) x
    → all ≡ xs ++ x ∷ drop (suc (length xs)) all
split-here xs all x so_far lt here =
    let front : xs ≡ take (length xs) all = sym (map-id xs) ∙ so_far in
    let back : drop (length xs) all ≡ x ∷ drop (suc (length xs)) all = drop-cons all (length xs) x lt ∙ ap (λ y. y ∷ drop (suc (length xs)) all) (sym here) in
    sym (take-append-drop (length xs) all) ∙ ap (λ l. l ++ drop (length xs) all) (sym front) ∙ ap (λ l. xs ++ l) back

pub taken-all : {X : Type 0} (xs all : List X) → map (λ (y : X). y) xs ≡ all → xs ≡ all
taken-all xs all e = sym (map-id xs) ∙ e

-- what follows where a call succeeded
pub on-ok : {T E : Type 0} (result : Result T E) (P Q : Type 0) → (P → Q) → OnOk result P → OnOk result Q
on-ok (Ok value) P Q f h = f h
on-ok (Err error) P Q f h = h
