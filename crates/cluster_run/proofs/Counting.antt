-- How many items of a lane come before an item.
use Rattle.std.proofs.Common.{◌≡◌, ◌≢◌, ◌≤◌, ◌==◌, ℕ, zero, suc, Bool, true, false, cond, List, [], ◌∷◌, length, take, slice_get, Some, eq-eqb, refl, sym, ap, ◌∙◌, arith}
use Rattle.std.specs.List.{filter}
use Rattle.std.proofs.lemmas.Bool.{eqb-true}
use Rattle.std.proofs.lemmas.List.{take_all}
use Rattle.std.proofs.lemmas.Option.{none-some, same_Some}
use Rattle.cluster_run.specs.Ordering.{count_before}

abbrev pub is_of : ℕ → ℕ → Bool
is_of lane other = other == lane

grow : (b : Bool) (x : ℕ) (ys zs : List ℕ) → length ys ≡ suc (length zs) → length (cond b (x ∷ ys) ys) ≡ suc (length (cond b (x ∷ zs) zs))
grow true x ys zs h = ap suc h
grow false x ys zs h = h

stay : (b : Bool) (x : ℕ) (ys zs : List ℕ) → length ys ≡ length zs → length (cond b (x ∷ ys) ys) ≡ length (cond b (x ∷ zs) zs)
stay true x ys zs h = ap suc h
stay false x ys zs h = h

not_counted : (x lane : ℕ) (b : Bool) → (x == lane) ≡ b → x ≢ lane → length (cond b (x ∷ []) []) ≡ 0
not_counted x lane true e other = absurd (other (eqb-true x lane e))
not_counted x lane false e other = refl

-- an item of the lane counts, and no other
pub count_same : (lanes : List ℕ) (lane k here : ℕ) → slice_get lanes k ≡ Some here → here ≡ lane → count_before lanes lane (suc k) ≡ suc (count_before lanes lane k)
count_same [] lane k here there e = absurd (none-some here there)
count_same (x ∷ xs) lane zero here there e = ap (λ (b : Bool). length (cond b (x ∷ []) [])) (eq-eqb x lane (same_Some x here there ∙ e))
count_same (x ∷ xs) lane (suc k) here there e =
    grow (is_of lane x) x (filter (is_of lane) (take (suc k) xs)) (filter (is_of lane) (take k xs)) (count_same xs lane k here there e)

pub count_other : (lanes : List ℕ) (lane k here : ℕ) → slice_get lanes k ≡ Some here → here ≢ lane → count_before lanes lane (suc k) ≡ count_before lanes lane k
count_other [] lane k here there e = absurd (none-some here there)
count_other (x ∷ xs) lane zero here there e = not_counted x lane (is_of lane x) refl (λ same. e (sym (same_Some x here there) ∙ same))
count_other (x ∷ xs) lane (suc k) here there e =
    stay (is_of lane x) x (filter (is_of lane) (take (suc k) xs)) (filter (is_of lane) (take k xs)) (count_other xs lane k here there e)

-- no more than all
more : (b : Bool) (x : ℕ) (ys zs : List ℕ) → length ys ≤ length zs → length (cond b (x ∷ ys) ys) ≤ length (cond b (x ∷ zs) zs)
more true x ys zs h = omega arith
more false x ys zs h = h

pub count_most : (lanes : List ℕ) (lane k : ℕ) → count_before lanes lane k ≤ length (filter (is_of lane) lanes)
count_most [] lane zero = omega arith
count_most [] lane (suc k) = omega arith
count_most (x ∷ xs) lane zero = omega arith
count_most (x ∷ xs) lane (suc k) = more (is_of lane x) x (filter (is_of lane) (take k xs)) (filter (is_of lane) xs) (count_most xs lane k)

pub count_all : (lanes : List ℕ) (lane : ℕ) → count_before lanes lane (length lanes) ≡ length (filter (is_of lane) lanes)
count_all lanes lane = ap (λ (l : List ℕ). length (filter (is_of lane) l)) (take_all (length lanes) lanes (omega arith))
