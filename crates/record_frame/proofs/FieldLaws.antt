-- A field that is read stands there, and what stands there is read.
use Rattle.std.proofs.Common.{◌≡◌, ℕ, zero, suc, ◌+◌, ◌^◌, ◌<◌, ◌≤◌, Bool, true, false, cond, eqb, List, [], ◌∷◌, ◌++◌, length, get_or, take, drop, Result, Ok, Err, refl, sym, ap, subst, ◌∙◌, append_assoc, eq-eqb, arith}
use Rattle.std.proofs.lemmas.Bool.{ltb-false, le-ltb, eqb-true}
use Rattle.std.proofs.lemmas.List.{take_at, drop_at, take-append-drop, drop-drop, length-append, length-drop, length-take-le}
use Rattle.log_base.specs.Wide.{IsBytes, be2, be4, be8, number2, number4, number8}
use Rattle.log_base.proofs.Cuts.{drop-split}
use Rattle.log_base.proofs.Wide.{length-be2, length-be4, length-be8, be2-number2, be4-number4, be8-number8, number2-be2, number4-be4, number8-be8, number2-lt, number4-lt, number8-lt}
use Rattle.record_frame.specs.declared.refusals.Refusal.{Refusal}
use Rattle.record_frame.specs.declared.refusals.Refusal.TheVariants.{BadKind}
use Rattle.record_frame.specs.Fields.{◌>>=◌, StandsAt, end_at, u8_at, u16_at, u32_at, u64_at, kind_at}

-- the value of a step that was not refused
pub bind_ok : {A B : Type 0} (r : Result A Refusal) (f : A → Result B Refusal) (y : B) → (r >>= f) ≡ Ok y → (x : A) × (r ≡ Ok x) × (f x ≡ Ok y)
bind_ok (Ok x) f y e = (x, refl, e)
bind_ok (Err refusal) f y e = absurd cc

-- a test that did not refuse
pub passes : {A : Type 0} (b : Bool) (refusal : Refusal) (r : Result A Refusal) (y : A) → cond b (Err refusal) r ≡ Ok y → (b ≡ false) × (r ≡ Ok y)
passes true refusal r y e = absurd cc
passes false refusal r y e = (refl, e)

-- reading that gives this
abbrev pub given : {A : Type 0} → A → Result A Refusal
given x = Ok x

pub ok_is : {A : Type 0} (x y : A) → given x ≡ given y → x ≡ y
ok_is x y e = cc

-- ---- texts behind one another

pub StandsAt-then : (bytes : List ℕ) (a b c : ℕ) (x y : List ℕ) → StandsAt bytes a x b → StandsAt bytes b y c → StandsAt bytes a (x ++ y) c
StandsAt-then bytes a b c x y first second = record {
  parts = first.parts ∙ ap (λ (l : List ℕ). x ++ l) second.parts ∙ sym (append_assoc x y (drop c bytes));
  end = omega (arith, first.end, second.end, length-append x y);
  within = second.within;
}

pub StandsAt-front : (bytes : List ℕ) (a c : ℕ) (x y : List ℕ) → StandsAt bytes a (x ++ y) c → StandsAt bytes a x (a + length x)
StandsAt-front bytes a c x y both =
    let rest : drop (a + length x) bytes ≡ y ++ drop c bytes = sym (drop-drop (length x) a bytes) ∙ ap (drop (length x)) (both.parts ∙ append_assoc x y (drop c bytes)) ∙ drop_at x (y ++ drop c bytes) (length x) refl in
    record {
      parts = both.parts ∙ append_assoc x y (drop c bytes) ∙ ap (λ (l : List ℕ). x ++ l) (sym rest);
      end = refl;
      within = omega (arith, both.end, both.within, length-append x y);
    }

pub StandsAt-back : (bytes : List ℕ) (a c : ℕ) (x y : List ℕ) → StandsAt bytes a (x ++ y) c → StandsAt bytes (a + length x) y c
StandsAt-back bytes a c x y both = record {
  parts = sym (drop-drop (length x) a bytes) ∙ ap (drop (length x)) (both.parts ∙ append_assoc x y (drop c bytes)) ∙ drop_at x (y ++ drop c bytes) (length x) refl;
  end = omega (arith, both.end, length-append x y);
  within = both.within;
}

-- what stands between two places
pub take_stands : (bytes : List ℕ) (at n : ℕ) → at + n ≤ length bytes → StandsAt bytes at (take n (drop at bytes)) (at + n)
take_stands bytes at n within =
    let size : length (take n (drop at bytes)) ≡ n = length-take-le n (drop at bytes) (omega (arith, length-drop at bytes)) in
    record { parts = drop-split bytes at n; end = ap (λ (k : ℕ). at + k) (sym size); within = within }

-- a text at a place is what stands between its ends
pub stands_take : (bytes : List ℕ) (at next : ℕ) (text : List ℕ) → StandsAt bytes at text next → take (length text) (drop at bytes) ≡ text
stands_take bytes at next text stands = ap (take (length text)) stands.parts ∙ take_at text (drop next bytes) (length text) refl

-- all of the bytes behind a text at the front
pub front_stands : (bytes text rest : List ℕ) → bytes ≡ text ++ rest → StandsAt bytes 0 text (length text)
front_stands bytes text rest e = record {
  parts = e ∙ ap (λ (l : List ℕ). text ++ l) (sym (ap (drop (length text)) e ∙ drop_at text rest (length text) refl));
  end = omega arith;
  within = omega (arith, ap length e, length-append text rest);
}

-- ---- ends

pub end_takes : (width : ℕ) (bytes : List ℕ) (at next : ℕ) → end_at width bytes at ≡ Ok next → (at + width ≡ next) × (next ≤ length bytes)
unfolding end_at
end_takes width bytes at next e =
    let p = passes _ _ (Ok (at + width)) next e in
    let is : at + width ≡ next = ok_is (at + width) next p.1 in
    (is, omega (arith, is, ltb-false _ _ p.0))

pub end_again : (width : ℕ) (bytes : List ℕ) (at : ℕ) → at + width ≤ length bytes → end_at width bytes at ≡ Ok (at + width)
unfolding end_at
end_again width bytes at within =
    let long = le-ltb (length bytes) (at + width) within in
    rw long refl

-- ---- numbers

-- how a number of a width is spelled and read
pub record IsField (width limit : ℕ) (spelled : ℕ → List ℕ) (number : List ℕ → ℕ → ℕ) : Type 0 where
  pub size : (x : ℕ) → length (spelled x) ≡ width
  pub back : (bytes : List ℕ) (at : ℕ) → IsBytes bytes → at + width ≤ length bytes → spelled (number bytes at) ≡ take width (drop at bytes)
  pub again : (x at : ℕ) (front rest : List ℕ) → length front ≡ at → x < limit → number (front ++ (spelled x ++ rest)) at ≡ x
  pub below : (bytes : List ℕ) (at : ℕ) → IsBytes bytes → number bytes at < limit

byte_again : (front rest : List ℕ) (x at : ℕ) → length front ≡ at → get_or (front ++ (x ∷ rest)) at 0 ≡ x
byte_again [] rest x zero e = refl
byte_again [] rest x (suc at) e = absurd (omega arith)
byte_again (b ∷ front) rest x zero e = absurd (omega arith)
byte_again (b ∷ front) rest x (suc at) e = byte_again front rest x at (omega arith)

byte_back : (bytes : List ℕ) (at : ℕ) → at + 1 ≤ length bytes → get_or bytes at 0 ∷ [] ≡ take 1 (drop at bytes)
byte_back [] at within = absurd (omega arith)
byte_back (b ∷ bytes) zero within = refl
byte_back (b ∷ bytes) (suc at) within = byte_back bytes at (omega arith)

pub byte_field : IsField 1 256 (λ x. x ∷ []) (λ bytes at. get_or bytes at 0)
byte_field = record {
  size = λ x. refl;
  back = λ bytes at fits within. byte_back bytes at within;
  again = λ x at front rest e lt. byte_again front rest x at e;
  below = λ bytes at fits. fits at;
}

pub field2 : IsField 2 (2 ^ 16) be2 number2
field2 = record { size = length-be2; back = be2-number2; again = number2-be2; below = number2-lt }

pub field4 : IsField 4 (2 ^ 32) be4 number4
field4 = record { size = length-be4; back = be4-number4; again = number4-be4; below = number4-lt }

pub field8 : IsField 8 (2 ^ 64) be8 number8
field8 = record { size = length-be8; back = be8-number8; again = number8-be8; below = number8-lt }

abbrev read_at : ℕ → (List ℕ → ℕ → ℕ) → List ℕ → ℕ → Result (ℕ × ℕ) Refusal
read_at width number bytes at = end_at width bytes at >>= λ next. Ok (number bytes at, next)

-- a number that is read stands there
pub field_takes : (width limit : ℕ) (spelled : ℕ → List ℕ) (number : List ℕ → ℕ → ℕ) → IsField width limit spelled number
    → (bytes : List ℕ) (at : ℕ) (x : ℕ × ℕ) → IsBytes bytes → read_at width number bytes at ≡ Ok x
    → StandsAt bytes at (spelled x.0) x.1 × (x.0 < limit)
field_takes width limit spelled number field bytes at x fits e =
    let a = bind_ok (end_at width bytes at) (λ next. Ok (number bytes at, next)) x e in
    let ends = end_takes width bytes at a.0 a.1 in
    let stands : StandsAt bytes at (take width (drop at bytes)) (at + width) = take_stands bytes at width (omega (arith, ends.0, ends.1)) in
    let text = field.back bytes at fits (omega (arith, ends.0, ends.1)) in
    let here : StandsAt bytes at (spelled (number bytes at)) a.0 =
    subst (λ (next : ℕ). StandsAt bytes at (spelled (number bytes at)) next) ends.0 (subst (λ (l : List ℕ). StandsAt bytes at l (at + width)) (sym text) stands) in
    subst (λ (y : ℕ × ℕ). StandsAt bytes at (spelled y.0) y.1 × (y.0 < limit)) (ok_is (number bytes at, a.0) x a.2) (here, field.below bytes at fits)

-- a number that stands there is read
pub field_again : (width limit : ℕ) (spelled : ℕ → List ℕ) (number : List ℕ → ℕ → ℕ) → IsField width limit spelled number
    → (bytes : List ℕ) (at n next : ℕ) → n < limit → StandsAt bytes at (spelled n) next → read_at width number bytes at ≡ Ok (n, next)
field_again width limit spelled number field bytes at n next lt stands =
    let size = field.size n in
    let next_is : at + width ≡ next = omega (arith, stands.end, size) in
    let whole : bytes ≡ take at bytes ++ (spelled n ++ drop next bytes) = sym (take-append-drop at bytes) ∙ ap (λ (l : List ℕ). take at bytes ++ l) stands.parts in
    let front : length (take at bytes) ≡ at = length-take-le at bytes (omega (arith, stands.within, stands.end)) in
    let is : number bytes at ≡ n = ap (λ (l : List ℕ). number l at) whole ∙ field.again n at (take at bytes) (drop next bytes) front lt in
    let ends : end_at width bytes at ≡ Ok next = end_again width bytes at (omega (arith, stands.within, next_is)) ∙ ap (λ (k : ℕ). given k) next_is in
    rw (ends, is) refl

pub u8_takes : (bytes : List ℕ) (at : ℕ) (x : ℕ × ℕ) → IsBytes bytes → u8_at bytes at ≡ Ok x → StandsAt bytes at (x.0 ∷ []) x.1 × (x.0 < 256)
unfolding u8_at
u8_takes bytes at x fits e = field_takes 1 256 (λ n. n ∷ []) (λ l i. get_or l i 0) byte_field bytes at x fits e

pub u16_takes : (bytes : List ℕ) (at : ℕ) (x : ℕ × ℕ) → IsBytes bytes → u16_at bytes at ≡ Ok x → StandsAt bytes at (be2 x.0) x.1 × (x.0 < 2 ^ 16)
unfolding u16_at
u16_takes bytes at x fits e = field_takes 2 (2 ^ 16) be2 number2 field2 bytes at x fits e

pub u32_takes : (bytes : List ℕ) (at : ℕ) (x : ℕ × ℕ) → IsBytes bytes → u32_at bytes at ≡ Ok x → StandsAt bytes at (be4 x.0) x.1 × (x.0 < 2 ^ 32)
unfolding u32_at
u32_takes bytes at x fits e = field_takes 4 (2 ^ 32) be4 number4 field4 bytes at x fits e

pub u64_takes : (bytes : List ℕ) (at : ℕ) (x : ℕ × ℕ) → IsBytes bytes → u64_at bytes at ≡ Ok x → StandsAt bytes at (be8 x.0) x.1 × (x.0 < 2 ^ 64)
unfolding u64_at
u64_takes bytes at x fits e = field_takes 8 (2 ^ 64) be8 number8 field8 bytes at x fits e

pub u8_again : (bytes : List ℕ) (at n next : ℕ) → n < 256 → StandsAt bytes at (n ∷ []) next → u8_at bytes at ≡ Ok (n, next)
unfolding u8_at
u8_again bytes at n next lt stands = field_again 1 256 (λ x. x ∷ []) (λ l i. get_or l i 0) byte_field bytes at n next lt stands

pub u16_again : (bytes : List ℕ) (at n next : ℕ) → n < 2 ^ 16 → StandsAt bytes at (be2 n) next → u16_at bytes at ≡ Ok (n, next)
unfolding u16_at
u16_again bytes at n next lt stands = field_again 2 (2 ^ 16) be2 number2 field2 bytes at n next lt stands

pub u32_again : (bytes : List ℕ) (at n next : ℕ) → n < 2 ^ 32 → StandsAt bytes at (be4 n) next → u32_at bytes at ≡ Ok (n, next)
unfolding u32_at
u32_again bytes at n next lt stands = field_again 4 (2 ^ 32) be4 number4 field4 bytes at n next lt stands

pub u64_again : (bytes : List ℕ) (at n next : ℕ) → n < 2 ^ 64 → StandsAt bytes at (be8 n) next → u64_at bytes at ≡ Ok (n, next)
unfolding u64_at
u64_again bytes at n next lt stands = field_again 8 (2 ^ 64) be8 number8 field8 bytes at n next lt stands

-- ---- kinds

pub kind_takes : (kind : ℕ) (bytes : List ℕ) (at next : ℕ) → IsBytes bytes → kind_at kind bytes at ≡ Ok next → StandsAt bytes at (kind ∷ []) next
unfolding kind_at
kind_takes kind bytes at next fits e =
    let a = bind_ok (u8_at bytes at) (λ found. cond (eqb found.0 kind) (Ok found.1) (Err (BadKind found.0))) next e in
    let first = u8_takes bytes at a.0 fits a.1 in
    let p = is_kind (eqb a.0.0 kind) (BadKind a.0.0) a.0.1 next a.2 in
    let same : a.0.0 ≡ kind = eqb-true _ _ p.0 in
    subst (λ (k : ℕ). StandsAt bytes at (k ∷ []) next) same (subst (λ (place : ℕ). StandsAt bytes at (a.0.0 ∷ []) place) p.1 first.0)
  where
    is_kind : (b : Bool) (refusal : Refusal) (x y : ℕ) → cond b (Ok x) (Err refusal) ≡ Ok y → (b ≡ true) × (x ≡ y)
    is_kind true refusal x y h = (refl, ok_is x y h)
    is_kind false refusal x y h = absurd cc

pub kind_again : (kind : ℕ) (bytes : List ℕ) (at next : ℕ) → kind < 256 → StandsAt bytes at (kind ∷ []) next → kind_at kind bytes at ≡ Ok next
unfolding kind_at
kind_again kind bytes at next lt stands =
    let same = eq-eqb kind kind refl in
    rw (u8_again bytes at kind next lt stands, same) refl
