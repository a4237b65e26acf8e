-- Two or three parts behind each other, which are made into one thing.
use Rattle.std.proofs.Common.{◌≡◌, ℕ, ◌+◌, ◌≤◌, List, ◌++◌, length, Result, Ok, refl, subst}
use Rattle.log_base.specs.Wide.{IsBytes}
use Rattle.record_frame.specs.declared.refusals.Refusal.{Refusal}
use Rattle.record_frame.specs.Fields.{◌>>=◌, StandsAt}
use Rattle.record_frame.proofs.FieldLaws.{bind_ok, ok_is, StandsAt-then, StandsAt-front, StandsAt-back}
use Rattle.record_frame.proofs.Reasons.{NeedsNone}
use Rattle.message_frame.proofs.Parts.{IsPart, bind, gives}

-- a part as it is read from a place
abbrev pub Reads : Type 0 → Type 0
Reads A = List ℕ → ℕ → Result (A × ℕ) Refusal

abbrev pub two_at : {A B M : Type 0} → Reads A → Reads B → (A → B → M) → Reads M
two_at p q make bytes at = p bytes at >>= λ a. q bytes a.1 >>= λ b. Ok (make a.0 b.0, b.1)

abbrev pub three_at : {A B C M : Type 0} → Reads A → Reads B → Reads C → (A → B → C → M) → Reads M
three_at p q r make bytes at = p bytes at >>= λ a. q bytes a.1 >>= λ b. r bytes b.1 >>= λ c. Ok (make a.0 b.0 c.0, c.1)

-- what holds of each thing that its parts make holds of what is read
pub two_take : {A B M : Type 0} {p : Reads A} {IsA : A → Type 0} {a_text : A → List ℕ} {q : Reads B} {IsB : B → Type 0} {b_text : B → List ℕ}
    → IsPart p IsA a_text → IsPart q IsB b_text → (make : A → B → M) (bytes : List ℕ) (at : ℕ) (x : M × ℕ) → IsBytes bytes → at ≤ length bytes
    → two_at p q make bytes at ≡ Ok x
    → (P : M × ℕ → Type 0) → ((a : A) (b : B) (next : ℕ) → IsA a → IsB b → StandsAt bytes at (a_text a ++ b_text b) next → P (make a b, next)) → P x
two_take {A} {B} {M} {p} {IsA} {a_text} {q} {IsB} {b_text} one two make bytes at x fits within e P made =
    let a = bind_ok (p bytes at) (λ a. q bytes a.1 >>= λ b. Ok (make a.0 b.0, b.1)) x e in
    let first = one.takes bytes at a.0 fits within a.1 in
    let b = bind_ok (q bytes a.0.1) (λ b. Ok (make a.0.0 b.0, b.1)) x a.2 in
    let second = two.takes bytes a.0.1 b.0 fits first.1.within b.1 in
    subst P (ok_is (make a.0.0 b.0.0, b.0.1) x b.2) (made a.0.0 b.0.0 b.0.1 first.0 second.0 (StandsAt-then bytes at a.0.1 b.0.1 (a_text a.0.0) (b_text b.0.0) first.1 second.1))

pub two_again : {A B M : Type 0} {p : Reads A} {IsA : A → Type 0} {a_text : A → List ℕ} {q : Reads B} {IsB : B → Type 0} {b_text : B → List ℕ}
    → IsPart p IsA a_text → IsPart q IsB b_text → (make : A → B → M) (bytes : List ℕ) (at next : ℕ) (a : A) (b : B) → IsA a → IsB b → StandsAt bytes at (a_text a ++ b_text b) next
    → two_at p q make bytes at ≡ Ok (make a b, next)
two_again {A} {B} {M} {p} {IsA} {a_text} {q} {IsB} {b_text} one two make bytes at next a b is_a is_b stands =
    rw (
      one.again bytes at (at + length (a_text a)) a is_a (StandsAt-front bytes at next (a_text a) (b_text b) stands),
      two.again bytes (at + length (a_text a)) next b is_b (StandsAt-back bytes at next (a_text a) (b_text b) stands),
    ) refl

pub two_need_none : {A B M : Type 0} {p : Reads A} {IsA : A → Type 0} {a_text : A → List ℕ} {q : Reads B} {IsB : B → Type 0} {b_text : B → List ℕ}
    → IsPart p IsA a_text → IsPart q IsB b_text → (make : A → B → M) (bytes : List ℕ) (at : ℕ) → NeedsNone (two_at p q make bytes at)
two_need_none one two make bytes at = bind _ _ (one.needs_none bytes at) (λ a. bind _ _ (two.needs_none bytes a.1) (λ b. gives _))

pub three_take : {A B C M : Type 0} {p : Reads A} {IsA : A → Type 0} {a_text : A → List ℕ} {q : Reads B} {IsB : B → Type 0} {b_text : B → List ℕ} {r : Reads C} {IsC : C → Type 0} {c_text : C → List ℕ}
    → IsPart p IsA a_text → IsPart q IsB b_text → IsPart r IsC c_text → (make : A → B → C → M) (bytes : List ℕ) (at : ℕ) (x : M × ℕ) → IsBytes bytes → at ≤ length bytes
    → three_at p q r make bytes at ≡ Ok x
    → (P : M × ℕ → Type 0) → ((a : A) (b : B) (c : C) (next : ℕ) → IsA a → IsB b → IsC c → StandsAt bytes at (a_text a ++ (b_text b ++ c_text c)) next → P (make a b c, next)) → P x
three_take {A} {B} {C} {M} {p} {IsA} {a_text} {q} {IsB} {b_text} {r} {IsC} {c_text} one two three make bytes at x fits within e P made =
    let a = bind_ok (p bytes at) (λ a. two_at q r (make a.0) bytes a.1) x e in
    let first = one.takes bytes at a.0 fits within a.1 in
    two_take two three (make a.0.0) bytes a.0.1 x fits first.1.within a.2 P
    (λ b c next is_b is_c stands. made a.0.0 b c next first.0 is_b is_c (StandsAt-then bytes at a.0.1 next (a_text a.0.0) (b_text b ++ c_text c) first.1 stands))

pub three_again : {A B C M : Type 0} {p : Reads A} {IsA : A → Type 0} {a_text : A → List ℕ} {q : Reads B} {IsB : B → Type 0} {b_text : B → List ℕ} {r : Reads C} {IsC : C → Type 0} {c_text : C → List ℕ}
    → IsPart p IsA a_text → IsPart q IsB b_text → IsPart r IsC c_text → (make : A → B → C → M) (bytes : List ℕ) (at next : ℕ) (a : A) (b : B) (c : C) → IsA a → IsB b → IsC c
    → StandsAt bytes at (a_text a ++ (b_text b ++ c_text c)) next → three_at p q r make bytes at ≡ Ok (make a b c, next)
three_again {A} {B} {C} {M} {p} {IsA} {a_text} {q} {IsB} {b_text} {r} {IsC} {c_text} one two three make bytes at next a b c is_a is_b is_c stands =
    let first = one.again bytes at (at + length (a_text a)) a is_a (StandsAt-front bytes at next (a_text a) (b_text b ++ c_text c) stands) in
    rw first (two_again two three (make a) bytes (at + length (a_text a)) next b c is_b is_c (StandsAt-back bytes at next (a_text a) (b_text b ++ c_text c) stands))

pub three_need_none : {A B C M : Type 0} {p : Reads A} {IsA : A → Type 0} {a_text : A → List ℕ} {q : Reads B} {IsB : B → Type 0} {b_text : B → List ℕ} {r : Reads C} {IsC : C → Type 0} {c_text : C → List ℕ}
    → IsPart p IsA a_text → IsPart q IsB b_text → IsPart r IsC c_text → (make : A → B → C → M) (bytes : List ℕ) (at : ℕ) → NeedsNone (three_at p q r make bytes at)
three_need_none one two three make bytes at = bind _ _ (one.needs_none bytes at) (λ a. two_need_none two three (make a.0) bytes a.1)
