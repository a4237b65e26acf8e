-- Things of several kinds, each behind the byte of its kind.
use Rattle.std.proofs.Common.{◌≡◌, ℕ, ◌+◌, ◌<◌, ◌≤◌, Bool, true, false, cond, eqb, List, [], ◌∷◌, ◌++◌, length, Result, Ok, Err, refl, sym, subst, arith}
use Rattle.std.proofs.lemmas.Bool.{eqb-true}
use Rattle.log_base.specs.Wide.{IsBytes}
use Rattle.record_frame.specs.declared.refusals.Refusal.{Refusal}
use Rattle.record_frame.specs.declared.refusals.Refusal.TheVariants.{BadKind}
use Rattle.record_frame.specs.Fields.{◌>>=◌, StandsAt, u8_at}
use Rattle.record_frame.proofs.FieldLaws.{bind_ok, given, ok_is, StandsAt-then, StandsAt-front, StandsAt-back, u8_takes, u8_again}
use Rattle.message_frame.proofs.Groups.{Reads, two_at, three_at, two_take, three_take}
use Rattle.message_frame.proofs.Parts.{IsPart}

-- a thing whose kind and fields these are
pub record Taken {M : Type 0} (Is : M → Type 0) (text : M → List ℕ) (kind : ℕ) (bytes : List ℕ) (at : ℕ) (found : M × ℕ) : Type 0 where
  pub is : Is found.0
  pub fields : List ℕ
  pub spelling : text found.0 ≡ kind ∷ fields
  pub stands : StandsAt bytes at fields found.1

module _ {M : Type 0} (Is : M → Type 0) (text : M → List ℕ) where
  -- the fields by their kind, or by one of the kinds that are left
  pub by_kind : (kind n : ℕ) (first rest : Result (M × ℕ) Refusal) (bytes : List ℕ) (at : ℕ) (x : M × ℕ) → cond (eqb kind n) first rest ≡ Ok x
      → (first ≡ Ok x → Taken Is text n bytes at x) → (rest ≡ Ok x → Taken Is text kind bytes at x) → Taken Is text kind bytes at x
  by_kind kind n first rest bytes at x e this others = by_test (eqb kind n) refl e
    where
      by_test : (b : Bool) → eqb kind n ≡ b → cond b first rest ≡ Ok x → Taken Is text kind bytes at x
      by_test true is h = subst (λ (k : ℕ). Taken Is text k bytes at x) (sym (eqb-true kind n is)) (this h)
      by_test false is h = others h

  pub no_kind : (kind : ℕ) (bytes : List ℕ) (at : ℕ) (x : M × ℕ) → Err (BadKind kind) ≡ given x → Taken Is text kind bytes at x
  no_kind kind bytes at x e = absurd cc

  pub bare_kind : (kind : ℕ) (m : M) (bytes : List ℕ) (at : ℕ) (x : M × ℕ) → at ≤ length bytes → Is m → text m ≡ kind ∷ [] → given (m, at) ≡ Ok x → Taken Is text kind bytes at x
  bare_kind kind m bytes at x within is spelled e =
      subst (Taken Is text kind bytes at) (ok_is (m, at) x e)
      (record { is = is; fields = []; spelling = spelled; stands = record { parts = refl; end = omega arith; within = within } })

  pub one_kind : {A : Type 0} {p : Reads A} {IsA : A → Type 0} {a_text : A → List ℕ} (kind : ℕ) → IsPart p IsA a_text → (make : A → M) → ((a : A) → IsA a → Is (make a))
      → ((a : A) → text (make a) ≡ kind ∷ a_text a) → (bytes : List ℕ) (at : ℕ) (x : M × ℕ) → IsBytes bytes → at ≤ length bytes → (p bytes at >>= λ a. Ok (make a.0, a.1)) ≡ Ok x → Taken Is text kind bytes at x
  one_kind {A} {p} {IsA} {a_text} kind part make is spelled bytes at x fits within e =
      let a = bind_ok (p bytes at) (λ a. Ok (make a.0, a.1)) x e in
      let t = part.takes bytes at a.0 fits within a.1 in
      subst (Taken Is text kind bytes at) (ok_is (make a.0.0, a.0.1) x a.2) (record { is = is a.0.0 t.0; fields = a_text a.0.0; spelling = spelled a.0.0; stands = t.1 })

  pub two_kind : {A B : Type 0} {p : Reads A} {IsA : A → Type 0} {a_text : A → List ℕ} {q : Reads B} {IsB : B → Type 0} {b_text : B → List ℕ} (kind : ℕ) → IsPart p IsA a_text → IsPart q IsB b_text
      → (make : A → B → M) → ((a : A) (b : B) → IsA a → IsB b → Is (make a b)) → ((a : A) (b : B) → text (make a b) ≡ kind ∷ (a_text a ++ b_text b))
      → (bytes : List ℕ) (at : ℕ) (x : M × ℕ) → IsBytes bytes → at ≤ length bytes → two_at p q make bytes at ≡ Ok x → Taken Is text kind bytes at x
  two_kind {a_text} {b_text} kind one two make is spelled bytes at x fits within e =
      two_take one two make bytes at x fits within e (Taken Is text kind bytes at)
      (λ a b next is_a is_b stands. record { is = is a b is_a is_b; fields = a_text a ++ b_text b; spelling = spelled a b; stands = stands })

  pub three_kind : {A B C : Type 0} {p : Reads A} {IsA : A → Type 0} {a_text : A → List ℕ} {q : Reads B} {IsB : B → Type 0} {b_text : B → List ℕ} {r : Reads C} {IsC : C → Type 0} {c_text : C → List ℕ}
      (kind : ℕ) → IsPart p IsA a_text → IsPart q IsB b_text → IsPart r IsC c_text
      → (make : A → B → C → M) → ((a : A) (b : B) (c : C) → IsA a → IsB b → IsC c → Is (make a b c)) → ((a : A) (b : B) (c : C) → text (make a b c) ≡ kind ∷ (a_text a ++ (b_text b ++ c_text c)))
      → (bytes : List ℕ) (at : ℕ) (x : M × ℕ) → IsBytes bytes → at ≤ length bytes → three_at p q r make bytes at ≡ Ok x → Taken Is text kind bytes at x
  three_kind {a_text} {b_text} {c_text} kind one two three make is spelled bytes at x fits within e =
      three_take one two three make bytes at x fits within e (Taken Is text kind bytes at)
      (λ a b c next is_a is_b is_c stands. record { is = is a b c is_a is_b is_c; fields = a_text a ++ (b_text b ++ c_text c); spelling = spelled a b c; stands = stands })

  -- the kind that was read, and the fields behind it
  pub kind_takes : (read : ℕ → Reads M) (bytes : List ℕ) (at : ℕ) (x : M × ℕ) → IsBytes bytes
      → ((kind : ℕ) (place : ℕ) → place ≤ length bytes → read kind bytes place ≡ Ok x → Taken Is text kind bytes place x)
      → (u8_at bytes at >>= λ kind. read kind.0 bytes kind.1) ≡ Ok x → Is x.0 × StandsAt bytes at (text x.0) x.1
  kind_takes read bytes at x fits takes e =
      let a = bind_ok (u8_at bytes at) (λ kind. read kind.0 bytes kind.1) x e in
      let first = u8_takes bytes at a.0 fits a.1 in
      let t = takes a.0.0 a.0.1 first.0.within a.2 in
      (t.is, subst (λ (l : List ℕ). StandsAt bytes at l x.1) (sym t.spelling) (StandsAt-then bytes at a.0.1 x.1 (a.0.0 ∷ []) t.fields first.0 t.stands))

-- a thing is read where its kind and its fields are
pub kind_again : {M : Type 0} (read : ℕ → Reads M) (kind : ℕ) (fields bytes : List ℕ) (at next : ℕ) (m : M) → kind < 256 → StandsAt bytes at (kind ∷ fields) next
    → (StandsAt bytes (at + 1) fields next → read kind bytes (at + 1) ≡ Ok (m, next)) → (u8_at bytes at >>= λ found. read found.0 bytes found.1) ≡ Ok (m, next)
kind_again read kind fields bytes at next m small stands again =
    rw (u8_again bytes at kind (at + 1) small (StandsAt-front bytes at next (kind ∷ []) fields stands)) (again (StandsAt-back bytes at next (kind ∷ []) fields stands))
