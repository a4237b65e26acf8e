-- Majorities meet.
use Rattle.std.proofs.Common.{◌≡◌, ◌<◌, ◌≤◌, ◌+◌, ◌/◌, ◌⊎◌, ℕ, zero, suc, Bool, true, false, cond, List, [], ◌∷◌, slice_index_or, replicate, refl, ap, inl, inr, ⊎_elim, arith, le-leb, leb-true}
use Rattle.paxos_model.specs.Majority.{tally, is_majority, is_marked, marked, no_marks}
use Rattle.agreement_law.specs.Quorum.{MostOf}

abbrev Shared : (ℕ → Bool) → (ℕ → Bool) → ℕ → Type 0
Shared p q n = (i : ℕ) × (i < n) × (p i ≡ true) × (q i ≡ true)

-- two tests that more than n pass together share one number below n
pub shared : (p q : ℕ → Bool) (n : ℕ) → n < tally p n + tally q n → (i : ℕ) × (i < n) × (p i ≡ true) × (q i ≡ true)
shared p q zero h = absurd (omega arith)
shared p q (suc n) h = at (shared p q n) (p n) refl (q n) refl
  where
    up : Shared p q n → Shared p q (suc n)
    up r = (r.0, omega (arith, r.1), r.2, r.3)

    at : (n < tally p n + tally q n → Shared p q n) → (a : Bool) → p n ≡ a → (b : Bool) → q n ≡ b → Shared p q (suc n)
    at rest true e true f = (n, omega arith, e, f)
    at rest true e false f = up (rest (let g = rw (e, f) at h in omega (arith, g)))
    at rest false e true f = up (rest (let g = rw (e, f) at h in omega (arith, g)))
    at rest false e false f = up (rest (let g = rw (e, f) at h in omega (arith, g)))

pub meet : (n : ℕ) (P Q : ℕ → Type 0) → MostOf n P → MostOf n Q → (i : ℕ) × (i < n) × P i × Q i
meet n P Q a b =
    let r = shared a.among b.among n (omega (arith, a.many, b.many)) in
    (r.0, r.1, a.all r.0 r.1 r.2, b.all r.0 r.1 r.3)

pub most_weaker : (n : ℕ) (P Q : ℕ → Type 0) → ((i : ℕ) → i < n → P i → Q i) → MostOf n P → MostOf n Q
most_weaker n P Q f a = record { among = a.among; many = a.many; all = λ i l e. f i l (a.all i l e) }

pub most_in : (n : ℕ) (t : ℕ → Bool) (P : ℕ → Type 0) → is_majority n t ≡ true → ((i : ℕ) → i < n → t i ≡ true → P i) → MostOf n P
unfolding is_majority
most_in n t P h f = record { among = t; many = leb-true (n / 2 + 1) (tally t n) h; all = f }

-- more pass a weaker test
pub tally_more : (p q : ℕ → Bool) (n : ℕ) → ((i : ℕ) → i < n → p i ≡ true → q i ≡ true) → tally p n ≤ tally q n
tally_more p q zero f = omega arith
tally_more p q (suc n) f = at (tally_more p q n (λ i l. f i (omega arith))) (p n) refl
  where
    at : tally p n ≤ tally q n → (a : Bool) → p n ≡ a → cond (p n) 1 0 + tally p n ≤ cond (q n) 1 0 + tally q n
    at r true e = rw (e, f n (omega arith) e) (omega arith)
    at r false e = rw e (omega arith)

pub majority_of : (n : ℕ) (t : ℕ → Bool) (P : ℕ → Type 0) → MostOf n P → ((i : ℕ) → i < n → P i → t i ≡ true) → is_majority n t ≡ true
unfolding is_majority
majority_of n t P m f =
    let more : tally m.among n ≤ tally t n = tally_more m.among t n (λ i l e. f i l (m.all i l e)) in
    le-leb (n / 2 + 1) (tally t n) (omega (arith, m.many))

-- one more mark
pub marked_more : (marks : List Bool) (who i : ℕ) → is_marked (marked marks who) i ≡ true → (i ≡ who) ⊎ (is_marked marks i ≡ true)
marked_more [] who i h = inr h
marked_more (m ∷ marks) zero zero h = inl refl
marked_more (m ∷ marks) zero (suc i) h = inr h
marked_more (m ∷ marks) (suc who) zero h = inr h
marked_more (m ∷ marks) (suc who) (suc i) h = ⊎_elim (λ e. inl (ap suc e)) (λ g. inr g) (marked_more marks who i h)

blank : (n i : ℕ) → slice_index_or (replicate n false) i false ≡ true → ⊥
blank zero i h = absurd (cc)
blank (suc n) zero h = absurd (cc)
blank (suc n) (suc i) h = blank n i h

pub unmarked : (i : ℕ) → is_marked no_marks i ≡ true → ⊥
unfolding no_marks
unmarked i h = blank 7 i h
