-- What stands at each place of merged lengths.
use Rattle.std.proofs.Common.{◌≡◌, ℕ, zero, suc, ◌+◌, Bool, true, false, ltb, ◌<◌, ◌≤◌, List, [], ◌∷◌, length, get_or, max, min, refl, sym, subst, set, ◌∙◌, arith}
use Rattle.std.proofs.lemmas.List.{ext_get_or, get_or-set_other, get_or-set_same}
use Rattle.std.proofs.lemmas.Bool.{ltb-true, ltb-false}
use Rattle.aggregator.specs.Hearing.{greater_of, lesser_of}

pub get_or-greater_of : (xs ys : List ℕ) (k : ℕ) → get_or (greater_of xs ys) k 0 ≡ max (get_or xs k 0) (get_or ys k 0)
get_or-greater_of [] ys k = omega arith
get_or-greater_of (x ∷ xs) [] k = omega arith
get_or-greater_of (x ∷ xs) (y ∷ ys) zero = refl
get_or-greater_of (x ∷ xs) (y ∷ ys) (suc k) = get_or-greater_of xs ys k

pub get_or-lesser_of : (xs ys : List ℕ) (k : ℕ) → get_or (lesser_of xs ys) k 0 ≡ min (get_or xs k 0) (get_or ys k 0)
get_or-lesser_of [] ys k = omega arith
get_or-lesser_of (x ∷ xs) [] k = omega arith
get_or-lesser_of (x ∷ xs) (y ∷ ys) zero = refl
get_or-lesser_of (x ∷ xs) (y ∷ ys) (suc k) = get_or-lesser_of xs ys k

pub length-greater_of : (xs ys : List ℕ) → length (greater_of xs ys) ≡ max (length xs) (length ys)
length-greater_of [] ys = omega arith
length-greater_of (x ∷ xs) [] = omega arith
length-greater_of (x ∷ xs) (y ∷ ys) = let rest : length (greater_of xs ys) ≡ max (length xs) (length ys) = length-greater_of xs ys in omega arith

pub length-lesser_of : (xs ys : List ℕ) → length (lesser_of xs ys) ≡ min (length xs) (length ys)
length-lesser_of [] ys = omega arith
length-lesser_of (x ∷ xs) [] = omega arith
length-lesser_of (x ∷ xs) (y ∷ ys) = let rest : length (lesser_of xs ys) ≡ min (length xs) (length ys) = length-lesser_of xs ys in omega arith

pub is_greater : (now xs ys : List ℕ) → length now ≡ 32 → length xs ≡ 32 → length ys ≡ 32
    → ((k : ℕ) → k < 32 → get_or now k 0 ≡ max (get_or xs k 0) (get_or ys k 0)) → now ≡ greater_of xs ys
is_greater now xs ys n a b each =
    let same : length now ≡ length (greater_of xs ys) = omega (arith, length-greater_of xs ys) in
    ext_get_or 0 now (greater_of xs ys) same (λ k below. each k (omega arith) ∙ sym (get_or-greater_of xs ys k))

pub is_lesser : (now xs ys : List ℕ) → length now ≡ 32 → length xs ≡ 32 → length ys ≡ 32
    → ((k : ℕ) → k < 32 → get_or now k 0 ≡ min (get_or xs k 0) (get_or ys k 0)) → now ≡ lesser_of xs ys
is_lesser now xs ys n a b each =
    let same : length now ≡ length (lesser_of xs ys) = omega (arith, length-lesser_of xs ys) in
    ext_get_or 0 now (lesser_of xs ys) same (λ k below. each k (omega arith) ∙ sym (get_or-lesser_of xs ys k))

-- one more place is merged
pub raised : (now xs ys : List ℕ) (i v k : ℕ) → i < length now
    → ((j : ℕ) → j < i → get_or now j 0 ≡ max (get_or xs j 0) (get_or ys j 0))
    → v ≡ max (get_or xs i 0) (get_or ys i 0)
    → k < i + 1 → get_or (set now i v) k 0 ≡ max (get_or xs k 0) (get_or ys k 0)
raised now xs ys i v k within each is below = by (ltb k i) (ltb-true k i) (ltb-false k i)
  where
    by : (before : Bool) → (before ≡ true → k < i) → (before ≡ false → i ≤ k) → get_or (set now i v) k 0 ≡ max (get_or xs k 0) (get_or ys k 0)
    by true less more =
        let before : k < i = less refl in
        get_or-set_other now i k v 0 (λ same. omega arith) ∙ each k before
    by false less more =
        let after : i ≤ k = more refl in
        let here : k ≡ i = omega arith in
        subst (λ (n : ℕ). get_or (set now i v) n 0 ≡ max (get_or xs n 0) (get_or ys n 0)) (sym here) (get_or-set_same now i v 0 within ∙ is)
