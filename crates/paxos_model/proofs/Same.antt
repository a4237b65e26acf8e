-- Two values are the same where the test says so.
use Rattle.std.proofs.Common.{◌≡◌, ◌==◌, ◌↔◌, ℕ, Bool, true, false, IsTrue, List, [], ◌∷◌, refl, sym, ap, ap₂, ◌∙◌, eqb-true, eq-eqb}
use Rattle.std.proofs.lemmas.Bool.{and_from, and_parts}
use Rattle.record_frame.specs.declared.values.Value.{Value}
use Rattle.record_frame.specs.declared.values.Value.TheVariants.{Noop, Cut, Add, Finalise, Trim}
use Rattle.paxos_model.specs.Values.{same_numbers, same_value}

pub same_numbers-true : (xs ys : List ℕ) → same_numbers xs ys ≡ true → xs ≡ ys
same_numbers-true [] [] e = refl
same_numbers-true [] (y ∷ ys) e = absurd (cc)
same_numbers-true (x ∷ xs) [] e = absurd (cc)
same_numbers-true (x ∷ xs) (y ∷ ys) e =
    let parts = and_parts _ _ e in
    ap₂ (λ a (rest : List ℕ). a ∷ rest) (eqb-true x y parts.0) (same_numbers-true xs ys parts.1)

pub same_numbers-refl : (xs : List ℕ) → same_numbers xs xs ≡ true
same_numbers-refl [] = refl
same_numbers-refl (x ∷ xs) = and_from (x == x) (same_numbers xs xs) (eq-eqb x x refl) (same_numbers-refl xs)

pub same_value-true : (a b : Value) → same_value a b ≡ true → a ≡ b
same_value-true Noop Noop e = refl
same_value-true (Cut a) (Cut b) e =
    let parts = and_parts _ _ e in
    let count = eqb-true a.count b.count parts.0 in
    let lengths = same_numbers-true a.length b.length parts.1 in
    λ j. Cut (record { count = count j; length = lengths j })
same_value-true (Add a) (Add b) e = let s = eqb-true a.0 b.0 e in λ j. Add (record { 0 = s j })
same_value-true (Finalise a) (Finalise b) e = let s = eqb-true a.0 b.0 e in λ j. Finalise (record { 0 = s j })
same_value-true (Trim a) (Trim b) e = let s = eqb-true a.0 b.0 e in λ j. Trim (record { 0 = s j })
same_value-true Noop (Cut b) e = absurd (cc)
same_value-true Noop (Add b) e = absurd (cc)
same_value-true Noop (Finalise b) e = absurd (cc)
same_value-true Noop (Trim b) e = absurd (cc)
same_value-true (Cut a) Noop e = absurd (cc)
same_value-true (Cut a) (Add b) e = absurd (cc)
same_value-true (Cut a) (Finalise b) e = absurd (cc)
same_value-true (Cut a) (Trim b) e = absurd (cc)
same_value-true (Add a) Noop e = absurd (cc)
same_value-true (Add a) (Cut b) e = absurd (cc)
same_value-true (Add a) (Finalise b) e = absurd (cc)
same_value-true (Add a) (Trim b) e = absurd (cc)
same_value-true (Finalise a) Noop e = absurd (cc)
same_value-true (Finalise a) (Cut b) e = absurd (cc)
same_value-true (Finalise a) (Add b) e = absurd (cc)
same_value-true (Finalise a) (Trim b) e = absurd (cc)
same_value-true (Trim a) Noop e = absurd (cc)
same_value-true (Trim a) (Cut b) e = absurd (cc)
same_value-true (Trim a) (Add b) e = absurd (cc)
same_value-true (Trim a) (Finalise b) e = absurd (cc)

pub same_value-refl : (a : Value) → same_value a a ≡ true
same_value-refl Noop = refl
same_value-refl (Cut a) = and_from (a.count == a.count) (same_numbers a.length a.length) (eq-eqb a.count a.count refl) (same_numbers-refl a.length)
same_value-refl (Add a) = eq-eqb a.0 a.0 refl
same_value-refl (Finalise a) = eq-eqb a.0 a.0 refl
same_value-refl (Trim a) = eq-eqb a.0 a.0 refl

-- what a test for sameness gives
pub same_value-tested : (tested : Bool) (a b : Value) → IsTrue tested ↔ (a ≡ b) → tested ≡ same_value a b
same_value-tested true a b says = sym (ap (same_value a) (sym (says.0 refl)) ∙ same_value-refl a)
same_value-tested false a b says = differ (same_value a b) refl
  where
    differ : (same : Bool) → same_value a b ≡ same → false ≡ same
    differ false e = refl
    differ true e = says.1 (same_value-true a b e)
