-- A value that is read is spelled so, and what is spelled is read.
use Rattle.std.proofs.Common.{◌≡◌, ℕ, ◌+◌, ◌≤◌, ◌⊎◌, Bool, true, false, cond, eqb, ltb, List, [], ◌∷◌, ◌++◌, length, Result, Ok, Err, refl, sym, ap, subst, ◌∙◌, arith, inl, inr}
use Rattle.std.proofs.lemmas.Bool.{eqb-true, ltb-false, le-ltb}
use Rattle.std.proofs.lemmas.List.{append_cancel_left}
use Rattle.std.specs.Prelude.{IfOk}
use Rattle.log_base.specs.Wide.{IsBytes, be2, be8}
use Rattle.log_base.specs.declared.numbers.Shard.{Shard}
use Rattle.record_frame.specs.declared.refusals.Refusal.{Refusal}
use Rattle.record_frame.specs.declared.refusals.Refusal.TheVariants.{BadKind, BadNumber}
use Rattle.record_frame.specs.declared.values.Value.{Value}
use Rattle.record_frame.specs.declared.values.Value.TheVariants.{Noop, Cut, Add, Finalise, Trim}
use Rattle.record_frame.specs.Fields.{◌>>=◌, StandsAt, u8_at, u16_at, u64_at}
use Rattle.record_frame.specs.Values.{IsValue, value_spelling, lengths_spelling, lengths_at, shard_at, value_fields_at, value_at}
use Rattle.record_frame.proofs.FieldLaws.{bind_ok, passes, given, ok_is, StandsAt-then, StandsAt-front, StandsAt-back, front_stands, u8_takes, u16_takes, u64_takes, u8_again, u16_again, u64_again}
use Rattle.record_frame.proofs.LengthLaws.{lengths_take, lengths_again}

-- which way a test went
chosen : {A : Type 0} (b : Bool) (x y z : A) → cond b x y ≡ z → ((b ≡ true) × (x ≡ z)) ⊎ ((b ≡ false) × (y ≡ z))
chosen true x y z e = inl (refl, e)
chosen false x y z e = inr (refl, e)

pub shard_takes : (bytes : List ℕ) (at : ℕ) (x : Shard × ℕ) → IsBytes bytes → shard_at bytes at ≡ Ok x → StandsAt bytes at (be2 x.0.0) x.1 × (x.0.0 ≤ 7)
unfolding shard_at
shard_takes bytes at x fits e =
    let a = bind_ok (u16_at bytes at) (λ shard. cond (ltb 7 shard.0) (Err (BadNumber at)) (Ok (record { 0 = shard.0 }, shard.1))) x e in
    let p = passes (ltb 7 a.0.0) (BadNumber at) (Ok (record { 0 = a.0.0 }, a.0.1)) x a.2 in
    let made : Shard × ℕ = (record { 0 = a.0.0 }, a.0.1) in
    subst (λ (y : Shard × ℕ). StandsAt bytes at (be2 y.0.0) y.1 × (y.0.0 ≤ 7)) (ok_is made x p.1) ((u16_takes bytes at a.0 fits a.1).0, ltb-false _ _ p.0)

pub shard_again : (bytes : List ℕ) (at next : ℕ) (shard : Shard) → shard.0 ≤ 7 → StandsAt bytes at (be2 shard.0) next → shard_at bytes at ≡ Ok (shard, next)
unfolding shard_at
shard_again bytes at next shard small stands =
    let short = le-ltb 7 shard.0 small in
    rw (u16_again bytes at shard.0 next (omega (arith, small)) stands, short) refl

-- ---- the fields, by the kind

-- a value whose kind and fields these are
pub record FieldsTaken (kind : ℕ) (bytes : List ℕ) (at : ℕ) (found : Value × ℕ) : Type 0 where
  pub value : IsValue found.0
  pub fields : List ℕ
  pub spelling : value_spelling found.0 ≡ kind ∷ fields
  pub stands : StandsAt bytes at fields found.1

abbrev noop_read : ℕ → Result (Value × ℕ) Refusal
noop_read at = Ok (Noop, at)

abbrev cut_read : List ℕ → ℕ → Result (Value × ℕ) Refusal
cut_read bytes at = lengths_at 32 bytes at >>= λ lengths. Ok (Cut lengths.0, lengths.1)

abbrev add_read : List ℕ → ℕ → Result (Value × ℕ) Refusal
add_read bytes at = shard_at bytes at >>= λ shard. Ok (Add shard.0, shard.1)

abbrev finalise_read : List ℕ → ℕ → Result (Value × ℕ) Refusal
finalise_read bytes at = shard_at bytes at >>= λ shard. Ok (Finalise shard.0, shard.1)

abbrev trim_read : List ℕ → ℕ → Result (Value × ℕ) Refusal
trim_read bytes at = u64_at bytes at >>= λ position. Ok (Trim (record { 0 = position.0 }), position.1)

abbrev from_trim : ℕ → List ℕ → ℕ → Result (Value × ℕ) Refusal
from_trim kind bytes at = cond (eqb kind 4) (trim_read bytes at) (Err (BadKind kind))

abbrev from_finalise : ℕ → List ℕ → ℕ → Result (Value × ℕ) Refusal
from_finalise kind bytes at = cond (eqb kind 3) (finalise_read bytes at) (from_trim kind bytes at)

abbrev from_add : ℕ → List ℕ → ℕ → Result (Value × ℕ) Refusal
from_add kind bytes at = cond (eqb kind 2) (add_read bytes at) (from_finalise kind bytes at)

abbrev from_cut : ℕ → List ℕ → ℕ → Result (Value × ℕ) Refusal
from_cut kind bytes at = cond (eqb kind 1) (cut_read bytes at) (from_add kind bytes at)

noop_takes : (bytes : List ℕ) (at : ℕ) (x : Value × ℕ) → at ≤ length bytes → noop_read at ≡ Ok x → FieldsTaken 0 bytes at x
noop_takes bytes at x within e =
    subst (FieldsTaken 0 bytes at) (ok_is (Noop, at) x e)
    (record { value = tt; fields = []; spelling = refl; stands = record { parts = refl; end = omega arith; within = within } })

cut_takes : (bytes : List ℕ) (at : ℕ) (x : Value × ℕ) → IsBytes bytes → cut_read bytes at ≡ Ok x → FieldsTaken 1 bytes at x
cut_takes bytes at x fits e =
    let a = bind_ok (lengths_at 32 bytes at) (λ lengths. Ok (Cut lengths.0, lengths.1)) x e in
    let t = lengths_take 32 bytes at a.0 (omega arith) fits a.1 in
    subst (FieldsTaken 1 bytes at) (ok_is (Cut a.0.0, a.0.1) x a.2) (record { value = t.0; fields = lengths_spelling a.0.0; spelling = refl; stands = t.1 })

add_takes : (bytes : List ℕ) (at : ℕ) (x : Value × ℕ) → IsBytes bytes → add_read bytes at ≡ Ok x → FieldsTaken 2 bytes at x
add_takes bytes at x fits e =
    let a = bind_ok (shard_at bytes at) (λ shard. Ok (Add shard.0, shard.1)) x e in
    let t = shard_takes bytes at a.0 fits a.1 in
    subst (FieldsTaken 2 bytes at) (ok_is (Add a.0.0, a.0.1) x a.2) (record { value = t.1; fields = be2 a.0.0.0; spelling = refl; stands = t.0 })

finalise_takes : (bytes : List ℕ) (at : ℕ) (x : Value × ℕ) → IsBytes bytes → finalise_read bytes at ≡ Ok x → FieldsTaken 3 bytes at x
finalise_takes bytes at x fits e =
    let a = bind_ok (shard_at bytes at) (λ shard. Ok (Finalise shard.0, shard.1)) x e in
    let t = shard_takes bytes at a.0 fits a.1 in
    subst (FieldsTaken 3 bytes at) (ok_is (Finalise a.0.0, a.0.1) x a.2) (record { value = t.1; fields = be2 a.0.0.0; spelling = refl; stands = t.0 })

trim_takes : (bytes : List ℕ) (at : ℕ) (x : Value × ℕ) → IsBytes bytes → trim_read bytes at ≡ Ok x → FieldsTaken 4 bytes at x
trim_takes bytes at x fits e =
    let a = bind_ok (u64_at bytes at) (λ position. Ok (Trim (record { 0 = position.0 }), position.1)) x e in
    let t = u64_takes bytes at a.0 fits a.1 in
    subst (FieldsTaken 4 bytes at) (ok_is (Trim (record { 0 = a.0.0 }), a.0.1) x a.2) (record { value = t.1; fields = be8 a.0.0; spelling = refl; stands = t.0 })

-- the kind that passed its test
of_kind : (kind n : ℕ) (bytes : List ℕ) (at : ℕ) (x : Value × ℕ) → eqb kind n ≡ true → FieldsTaken n bytes at x → FieldsTaken kind bytes at x
of_kind kind n bytes at x same taken = subst (λ (k : ℕ). FieldsTaken k bytes at x) (sym (eqb-true kind n same)) taken

value_fields_take : (kind : ℕ) (bytes : List ℕ) (at : ℕ) (x : Value × ℕ) → IsBytes bytes → at ≤ length bytes → value_fields_at kind bytes at ≡ Ok x → FieldsTaken kind bytes at x
unfolding value_fields_at
value_fields_take kind bytes at x fits within e =
    elim (chosen (eqb kind 0) (noop_read at) (from_cut kind bytes at) (Ok x) e) [
      | inl a ↦ of_kind kind 0 bytes at x a.0 (noop_takes bytes at x within a.1)
      | inr a ↦ elim (chosen (eqb kind 1) (cut_read bytes at) (from_add kind bytes at) (Ok x) a.1) [
        | inl b ↦ of_kind kind 1 bytes at x b.0 (cut_takes bytes at x fits b.1)
        | inr b ↦ elim (chosen (eqb kind 2) (add_read bytes at) (from_finalise kind bytes at) (Ok x) b.1) [
          | inl c ↦ of_kind kind 2 bytes at x c.0 (add_takes bytes at x fits c.1)
          | inr c ↦ elim (chosen (eqb kind 3) (finalise_read bytes at) (from_trim kind bytes at) (Ok x) c.1) [
            | inl d ↦ of_kind kind 3 bytes at x d.0 (finalise_takes bytes at x fits d.1)
            | inr d ↦ elim (chosen (eqb kind 4) (trim_read bytes at) (Err (BadKind kind)) (Ok x) d.1) [
              | inl f ↦ of_kind kind 4 bytes at x f.0 (trim_takes bytes at x fits f.1)
              | inr f ↦ absurd (refused (BadKind kind) x f.1)
            ]
          ]
        ]
      ]
    ]
  where
    refused : {A : Type 0} (refusal : Refusal) (x : A) → Err refusal ≡ given x → ⊥
    refused refusal x e = cc

pub value_takes : (bytes : List ℕ) (at next : ℕ) (value : Value) → IsBytes bytes → value_at bytes at ≡ Ok (value, next) → IsValue value × StandsAt bytes at (value_spelling value) next
unfolding value_at
value_takes bytes at next value fits e =
    let a = bind_ok (u8_at bytes at) (λ kind. value_fields_at kind.0 bytes kind.1) (value, next) e in
    let first = u8_takes bytes at a.0 fits a.1 in
    let t = value_fields_take a.0.0 bytes a.0.1 (value, next) fits first.0.within a.2 in
    (t.value, subst (λ (l : List ℕ). StandsAt bytes at l next) (sym t.spelling) (StandsAt-then bytes at a.0.1 next (a.0.0 ∷ []) t.fields first.0 t.stands))

-- ---- what is spelled is read

pub value_again : (bytes : List ℕ) (at next : ℕ) (value : Value) → IsValue value → StandsAt bytes at (value_spelling value) next → value_at bytes at ≡ Ok (value, next)
unfolding value_at value_fields_at
value_again bytes at next Noop is stands =
    rw (u8_again bytes at 0 next (omega arith) stands) refl
value_again bytes at next (Cut lengths) is stands =
    rw (
      u8_again bytes at 1 (at + 1) (omega arith) (StandsAt-front bytes at next (1 ∷ []) (lengths_spelling lengths) stands),
      lengths_again 32 bytes (at + 1) next lengths (omega arith) is (StandsAt-back bytes at next (1 ∷ []) (lengths_spelling lengths) stands),
    ) refl
value_again bytes at next (Add shard) is stands =
    rw (
      u8_again bytes at 2 (at + 1) (omega arith) (StandsAt-front bytes at next (2 ∷ []) (be2 shard.0) stands),
      shard_again bytes (at + 1) next shard is (StandsAt-back bytes at next (2 ∷ []) (be2 shard.0) stands),
    ) refl
value_again bytes at next (Finalise shard) is stands =
    rw (
      u8_again bytes at 3 (at + 1) (omega arith) (StandsAt-front bytes at next (3 ∷ []) (be2 shard.0) stands),
      shard_again bytes (at + 1) next shard is (StandsAt-back bytes at next (3 ∷ []) (be2 shard.0) stands),
    ) refl
value_again bytes at next (Trim position) is stands =
    rw (
      u8_again bytes at 4 (at + 1) (omega arith) (StandsAt-front bytes at next (4 ∷ []) (be8 position.0) stands),
      u64_again bytes (at + 1) position.0 next is (StandsAt-back bytes at next (4 ∷ []) (be8 position.0) stands),
    ) refl

pub values_apart : (one other : Value) (x y : List ℕ) → IsValue one → IsValue other → value_spelling one ++ x ≡ value_spelling other ++ y → (one ≡ other) × (x ≡ y)
values_apart one other x y is_one is_other e =
    let first = value_again (value_spelling one ++ x) 0 _ one is_one (front_stands _ (value_spelling one) x refl) in
    let second = value_again (value_spelling one ++ x) 0 _ other is_other (front_stands _ (value_spelling other) y e) in
    let both = ok_is (one, length (value_spelling one)) (other, length (value_spelling other)) (sym first ∙ second) in
    let same : one ≡ other = ap (λ (p : Value × ℕ). p.0) both in
    (same, append_cancel_left (value_spelling one) x y (e ∙ ap (λ (z : Value). value_spelling z ++ y) (sym same)))

-- ---- what reading gives

pub value_is_found : (bytes : List ℕ) (at : ℕ) (r : Result (Value × ℕ) Refusal) → IsBytes bytes → r ≡ value_at bytes at
    → IfOk r (λ x. IsValue x.0 × StandsAt bytes at (value_spelling x.0) x.1)
value_is_found bytes at (Ok x) fits e = value_takes bytes at x.1 x.0 fits (sym e)
value_is_found bytes at (Err refusal) fits e = tt

pub value_behind_kind : (bytes : List ℕ) (at kind place : ℕ) (r : Result (Value × ℕ) Refusal) → IsBytes bytes → given (kind, place) ≡ u8_at bytes at → r ≡ value_fields_at kind bytes place
    → IfOk r (λ x. IsValue x.0 × StandsAt bytes at (value_spelling x.0) x.1)
unfolding value_at
value_behind_kind bytes at kind place r fits first e =
    let same : value_fields_at kind bytes place ≡ value_at bytes at = rw (← first) refl in
    value_is_found bytes at r fits (e ∙ same)

pub value_is_only : (bytes rest : List ℕ) (value : Value) → IsValue value → bytes ≡ value_spelling value ++ rest → value_at bytes 0 ≡ Ok (value, length (value_spelling value))
value_is_only bytes rest value is e = value_again bytes 0 _ value is (front_stands bytes (value_spelling value) rest e)
