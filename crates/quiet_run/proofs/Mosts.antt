-- The first of the greatest of some numbers.
use Rattle.std.proofs.Common.{◌≡◌, ◌<◌, ◌≤◌, ◌+◌, ℕ, zero, suc, List, [], ◌∷◌, length, get_or, map, refl, inl, inr, arith, subst, sym}
use Rattle.std.specs.Prelude.{slice_index}
use Rattle.std.proofs.lemmas.Bool.{cases_eq}

-- among the first so many
pub record IsMostBelow (counts : List ℕ) (size count at : ℕ) : Type 0 where
  pub within : at < size
  pub passed : at < count
  pub most : (k : ℕ) → k < count → slice_index counts k ≤ slice_index counts at
  pub first : (k : ℕ) → k < at → slice_index counts k < slice_index counts at

module _ (counts : List ℕ) (size count at : ℕ) (h : IsMostBelow counts size count at) (inside : count < size) where
  -- the next one is greater
  pub greater_next : slice_index counts at < slice_index counts count → IsMostBelow counts size (count + 1) count
  greater_next above = record {
    within = inside;
    passed = omega arith;
    most = λ k below. elim (cases_eq k count) [
      | inl same ↦ subst (λ (n : ℕ). slice_index counts n ≤ slice_index counts count) (sym same) (omega arith)
      | inr other ↦ let low : k < count = omega arith in let up = h.most k low in omega (arith, up, above)
    ];
    first = λ k low. let up = h.most k low in omega (arith, up, above);
  }

  -- it is not
  pub same_next : slice_index counts count ≤ slice_index counts at → IsMostBelow counts size (count + 1) at
  same_next below = record {
    within = h.within;
    passed = let p = h.passed in omega (arith, p);
    most = λ k low. elim (cases_eq k count) [
      | inl same ↦ subst (λ (n : ℕ). slice_index counts n ≤ slice_index counts at) (sym same) below
      | inr other ↦ h.most k (omega arith)
    ];
    first = h.first;
  }

pub most_at_first : (counts : List ℕ) (size : ℕ) → 0 < size → IsMostBelow counts size 1 0
most_at_first counts size some = record {
  within = some;
  passed = omega arith;
  most = λ k low. let none : k ≡ 0 = omega arith in subst (λ (n : ℕ). slice_index counts n ≤ slice_index counts 0) (sym none) (omega arith);
  first = λ k low. absurd (omega arith);
}

-- an element of a list, and its number
pub counted_at : {A : Type 0} (count : A → ℕ) (xs : List A) (i : ℕ) (x : A) → i < length xs → count (get_or xs i x) ≡ slice_index (map count xs) i
counted_at count [] i x h = absurd (omega arith)
counted_at count (y ∷ xs) zero x h = refl
counted_at count (y ∷ xs) (suc i) x h = counted_at count xs i x (omega arith)
