-- Lists: one element replaced, and what holds of every front.
use Rattle.std.proofs.Common.{◌≡◌, ◌<◌, ◌+◌, ◌||◌, ℕ, zero, suc, Bool, true, false, List, [], ◌∷◌, ◌++◌, length, get_or, take, slice_get, Some, refl, sym, ap, subst, inl, inr, arith, ◌∙◌}
use Rattle.std.specs.List.{list_any}
use Rattle.std.proofs.Math.ListN.{set}
use Rattle.std.proofs.Math.Seq.{take-append_seam}
use Rattle.std.proofs.lemmas.Bool.{cases_eq}
use Rattle.std.proofs.lemmas.List.{length-append, take-append-le}

-- a choice of two
either_false : (a b : Bool) → a ≡ false → b ≡ false → (a || b) ≡ false
either_false true b p q = p
either_false false b p q = q

parts_false : (a b : Bool) → (a || b) ≡ false → (a ≡ false) × (b ≡ false)
parts_false true b p = absurd (cc)
parts_false false b p = (refl, p)

module _ {A : Type 0} where
  pub get_set_same : (xs : List A) (i : ℕ) (x : A) → i < length xs → slice_get (set xs i x) i ≡ Some x
  get_set_same [] i x h = absurd (omega arith)
  get_set_same (y ∷ xs) zero x h = refl
  get_set_same (y ∷ xs) (suc i) x h = get_set_same xs i x (omega arith)

  pub get_set_other : (xs : List A) (i j : ℕ) (x : A) → (i ≡ j → ⊥) → slice_get (set xs i x) j ≡ slice_get xs j
  get_set_other [] i j x h = refl
  get_set_other (y ∷ xs) zero zero x h = absurd (h refl)
  get_set_other (y ∷ xs) zero (suc j) x h = refl
  get_set_other (y ∷ xs) (suc i) zero x h = refl
  get_set_other (y ∷ xs) (suc i) (suc j) x h = get_set_other xs i j x (λ e. h (ap suc e))

  -- what holds of each shorter front, and of the whole, holds of each shorter front of one element more
  pub fronts_push : (P : List A → Type 0) (xs : List A) (x : A) → ((n : ℕ) → n < length xs → P (take n xs)) → P xs
      → (n : ℕ) → n < length (xs ++ x ∷ []) → P (take n (xs ++ x ∷ []))
  fronts_push P xs x before here n h = elim (cases_eq n (length xs)) [
    | inl same ↦ subst P (sym (ap (λ (k : ℕ). take k (xs ++ x ∷ [])) same)) (subst P (sym (take-append_seam xs (x ∷ []))) here)
    | inr other ↦
        let below : n < length xs = omega (arith, length-append xs (x ∷ [])) in
        subst P (sym (take-append-le n xs (x ∷ []) (omega arith))) (before n below)
  ]

  -- no element of a front passes a test, nor does the next one
  none_so_far : (passes : A → Bool) (xs : List A) (i : ℕ) (x : A) → i < length xs → x ≡ get_or xs i x → list_any passes (take i xs) ≡ false → passes x ≡ false
      → list_any passes (take (suc i) xs) ≡ false
  none_so_far passes [] i x h e before here = absurd (omega arith)
  none_so_far passes (y ∷ xs) zero x h e before here = either_false (passes y) false (ap passes (sym e) ∙ here) refl
  none_so_far passes (y ∷ xs) (suc i) x h e before here =
      let parts = parts_false (passes y) (list_any passes (take i xs)) before in
      either_false (passes y) (list_any passes (take (suc i) xs)) parts.0 (none_so_far passes xs i x (omega arith) e parts.1 here)

  pub none_push : (passes : A → Bool) (xs : List A) (i : ℕ) (x : A) → i < length xs → x ≡ get_or xs i x → list_any passes (take i xs) ≡ false → passes x ≡ false
      → list_any passes (take (i + 1) xs) ≡ false
  none_push passes xs i x h e before here =
      let next : suc i ≡ i + 1 = omega arith in
      subst (λ (n : ℕ). list_any passes (take n xs) ≡ false) next (none_so_far passes xs i x h e before here)

  pub one_here : (passes : A → Bool) (xs : List A) (i : ℕ) (x : A) → i < length xs → x ≡ get_or xs i x → passes x ≡ true → list_any passes xs ≡ true
  one_here passes [] i x h e here = absurd (omega arith)
  one_here passes (y ∷ xs) zero x h e here = ap (λ (b : Bool). b || list_any passes xs) (ap passes (sym e) ∙ here)
  one_here passes (y ∷ xs) (suc i) x h e here = ap (λ (b : Bool). passes y || b) (one_here passes xs i x (omega arith) e here) ∙ or_true (passes y)
    where
      or_true : (b : Bool) → (b || true) ≡ true
      or_true true = refl
      or_true false = refl

  pub none_of_all : (passes : A → Bool) (xs : List A) (n : ℕ) → n ≡ length xs → list_any passes (take n xs) ≡ false → list_any passes xs ≡ false
  none_of_all passes xs n e h = subst (λ (l : List A). list_any passes l ≡ false) (ap (λ (k : ℕ). take k xs) e ∙ take_all xs) h
    where
      take_all : (ys : List A) → take (length ys) ys ≡ ys
      take_all [] = refl
      take_all (y ∷ ys) = ap (λ (l : List A). y ∷ l) (take_all ys)
