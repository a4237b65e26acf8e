-- Elements of lists: of joined lists, and those that a test finds.
use Rattle.std.proofs.Common.{◌≡◌, ◌<◌, ◌⊎◌, ℕ, zero, suc, Bool, true, false, ◌||◌, List, [], ◌∷◌, ◌++◌, length, slice_get, Some, refl, sym, ap, subst, inl, inr, ⊎_elim, arith, ◌∙◌}
use Rattle.std.specs.List.{list_any}
use Rattle.agreement_law.specs.Elements.{In, IsIn}

pub in_append : {A : Type 0} (x : A) (xs ys : List A) → In x (xs ++ ys) → In x xs ⊎ In x ys
in_append x [] ys h = inr h
in_append x (y ∷ xs) ys (inl e) = inl (inl e)
in_append x (y ∷ xs) ys (inr h) = ⊎_elim (λ a. inl (inr a)) (λ b. inr b) (in_append x xs ys h)

pub in_left : {A : Type 0} (x : A) (xs ys : List A) → In x xs → In x (xs ++ ys)
in_left x [] ys h = absurd h
in_left x (y ∷ xs) ys (inl e) = inl e
in_left x (y ∷ xs) ys (inr h) = inr (in_left x xs ys h)

pub in_right : {A : Type 0} (x : A) (xs ys : List A) → In x ys → In x (xs ++ ys)
in_right x [] ys h = h
in_right x (y ∷ xs) ys h = inr (in_right x xs ys h)

pub or_cases : (a b : Bool) → (a || b) ≡ true → (a ≡ true) ⊎ (b ≡ true)
or_cases true b e = inl refl
or_cases false b e = inr e

pub or_none : (a b : Bool) → (a || b) ≡ false → (a ≡ false) × (b ≡ false)
or_none true b e = (e, absurd (cc))
or_none false b e = (refl, e)

pub any_found : {A : Type 0} (t : A → Bool) (xs : List A) → list_any t xs ≡ true → (x : A) × In x xs × (t x ≡ true)
any_found t [] e = absurd (cc)
any_found {A} t (x ∷ xs) e = at (any_found t xs) (or_cases (t x) (list_any t xs) e)
  where
    at : (list_any t xs ≡ true → (y : A) × In y xs × (t y ≡ true)) → (t x ≡ true) ⊎ (list_any t xs ≡ true) → (y : A) × In y (x ∷ xs) × (t y ≡ true)
    at rest (inl h) = (x, inl refl, h)
    at rest (inr h) = let r = rest h in (r.0, inr r.1, r.2)

pub any_none : {A : Type 0} (t : A → Bool) (xs : List A) → list_any t xs ≡ false → (x : A) → In x xs → t x ≡ false
any_none t [] e x h = absurd h
any_none t (y ∷ xs) e x (inl h) = ap t h ∙ (or_none (t y) (list_any t xs) e).0
any_none t (y ∷ xs) e x (inr h) = any_none t xs (or_none (t y) (list_any t xs) e).1 x h

pub any_here : {A : Type 0} (t : A → Bool) (xs : List A) (x : A) → In x xs → t x ≡ true → list_any t xs ≡ true
any_here t [] x h e = absurd h
any_here t (y ∷ xs) x (inl h) e = subst (λ b. (b || list_any t xs) ≡ true) (sym (sym (ap t h) ∙ e)) refl
any_here t (y ∷ xs) x (inr h) e = subst (λ b. (t y || b) ≡ true) (sym (any_here t xs x h e)) (right (t y))
  where
    right : (b : Bool) → (b || true) ≡ true
    right true = refl
    right false = refl

pub got_in : {A : Type 0} (xs : List A) (k : ℕ) (x : A) → slice_get xs k ≡ Some x → In x xs
got_in [] k x e = absurd (cc)
got_in (y ∷ xs) zero x e = inl (cc)
got_in (y ∷ xs) (suc k) x e = inr (got_in xs k x e)

pub got_is_in : {A : Type 0} (xs : List A) (k : ℕ) (x : A) → slice_get xs k ≡ Some x → IsIn xs k x
got_is_in [] k x e = absurd (cc)
got_is_in (y ∷ xs) zero x e = cc
got_is_in (y ∷ xs) (suc k) x e = got_is_in xs k x e

pub is_in_below : {A : Type 0} (xs : List A) (k : ℕ) (x : A) → IsIn xs k x → k < length xs
is_in_below [] k x h = absurd h
is_in_below (y ∷ xs) zero x h = omega arith
is_in_below (y ∷ xs) (suc k) x h = let r : k < length xs = is_in_below xs k x h in omega arith

-- a list with one more element at its end
pub is_in_push : {A : Type 0} (xs : List A) (y : A) (k : ℕ) (x : A) → IsIn (xs ++ y ∷ []) k x → IsIn xs k x ⊎ ((k ≡ length xs) × (y ≡ x))
is_in_push [] y zero x h = inr (refl, h)
is_in_push [] y (suc k) x h = absurd h
is_in_push (z ∷ xs) y zero x h = inl h
is_in_push {A} (z ∷ xs) y (suc k) x h = at (is_in_push xs y k x h)
  where
    at : IsIn xs k x ⊎ ((k ≡ length xs) × (y ≡ x)) → IsIn xs k x ⊎ ((suc k ≡ suc (length xs)) × (y ≡ x))
    at (inl a) = inl a
    at (inr b) = inr (ap suc b.0, b.1)

-- each place below the length has a value
pub has_place : {A : Type 0} (xs : List A) (k : ℕ) → k < length xs → (x : A) × IsIn xs k x
has_place [] k h = absurd (omega arith)
has_place (y ∷ xs) zero h = (y, refl)
has_place (y ∷ xs) (suc k) h = has_place xs k (omega arith)

pub is_in_one : {A : Type 0} (xs : List A) (k : ℕ) (x y : A) → IsIn xs k x → IsIn xs k y → x ≡ y
is_in_one [] k x y h g = absurd h
is_in_one (z ∷ xs) zero x y h g = cc
is_in_one (z ∷ xs) (suc k) x y h g = is_in_one xs k x y h g
