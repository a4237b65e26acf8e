-- How many bytes two texts share at their fronts.
use Rattle.std.proofs.Common.{◌≡◌, ◌≢◌, ℕ, zero, suc, ◌+◌, ◌-◌, ◌<◌, ◌≤◌, List, [], ◌∷◌, ◌++◌, length, take, drop, ◌⊎◌, refl, sym, ◌∙◌, ap, subst, nat_eq, cond, Bool, arith}
use Rattle.std.proofs.lemmas.Bool.{ne_eqb}
use Rattle.std.proofs.lemmas.Bool.Decides.{eqb_tells}
use Rattle.std.proofs.Common.{eq-eqb, inl, inr}
use Rattle.std.proofs.lemmas.List.{length-drop, take_all}
use Rattle.std.proofs.lemmas.List.Sums.{common_prefix_len-le}
use Rattle.fault_script.specs.Longest.{shared}

-- two numbers are the same or not
pub same_or_other : (n m : ℕ) → (n ≡ m) ⊎ (n ≢ m)
same_or_other n m = elim (eqb_tells n m) [ inl same ↦ inl same.1 | inr other ↦ inr other.1 ]

pub shared-cons_same : (x y : ℕ) (a b : List ℕ) → x ≡ y → shared (x ∷ a) (y ∷ b) ≡ 1 + shared a b
shared-cons_same x y a b same = ap (λ (t : Bool). cond t (1 + shared a b) 0) (eq-eqb x y same)

pub shared-cons_other : (x y : ℕ) (a b : List ℕ) → x ≢ y → shared (x ∷ a) (y ∷ b) ≡ 0
shared-cons_other x y a b other = ap (λ (t : Bool). cond t (1 + shared a b) 0) (ne_eqb x y other)

pub shared-le : (a b : List ℕ) → (shared a b ≤ length a) × (shared a b ≤ length b)
shared-le a b = common_prefix_len-le nat_eq a b

-- behind the same front
pub shared-append : (w a b : List ℕ) → shared (w ++ a) (w ++ b) ≡ length w + shared a b
shared-append [] a b = omega arith
shared-append (x ∷ w) a b = omega (arith, shared-cons_same x x (w ++ a) (w ++ b) refl, shared-append w a b)

-- a text shares all of its front
pub shared-front : (w b : List ℕ) → shared (w ++ b) w ≡ length w
shared-front [] b = elim b as (λ v. shared v [] ≡ 0) [ [] ↦ refl | c ∷ cs ↦ refl ]
shared-front (x ∷ w) b = omega (arith, shared-cons_same x x (w ++ b) w refl, shared-front w b)

-- the rest doesn't count where the front isn't shared as a whole
pub shared-short : (text w b : List ℕ) → shared text w < length w → shared text (w ++ b) ≡ shared text w
shared-short text [] b less = absurd (omega arith)
shared-short [] (x ∷ w) b less = refl
shared-short (c ∷ text) (x ∷ w) b less =
    elim (same_or_other c x) [
      | inl same ↦
          let a = shared-cons_same c x text w same in
          let e = shared-cons_same c x text (w ++ b) same in
          let shorter : shared text w < length w = omega arith in
          omega (arith, shared-short text w b shorter)
      | inr other ↦ shared-cons_other c x text (w ++ b) other ∙ sym (shared-cons_other c x text w other)
    ]

-- a front that is shared as a whole
pub shared-whole : (text w : List ℕ) → length w ≤ shared text w → text ≡ w ++ drop (length w) text
shared-whole text [] all = refl
shared-whole [] (x ∷ w) all = absurd (omega arith)
shared-whole (c ∷ text) (x ∷ w) all =
    elim (same_or_other c x) [
      | inl same ↦
          let a = shared-cons_same c x text w same in
          let shorter : length w ≤ shared text w = omega arith in
          cc (shared-whole text w shorter)
      | inr other ↦ let e = shared-cons_other c x text w other in absurd (omega arith)
    ]

-- a front of the text that a line begins with is shared
pub front-shared : (text line rest : List ℕ) (n : ℕ) → n ≤ length text → line ≡ take n text ++ rest → n ≤ shared text line
front-shared text line rest zero within is = omega arith
front-shared [] line rest (suc n) within is = absurd (omega arith)
front-shared (c ∷ text) [] rest (suc n) within is = absurd (cc)
front-shared (c ∷ text) (x ∷ line) rest (suc n) within is =
    let same : c ≡ x = cc in
    let rest_is : line ≡ take n text ++ rest = cc in
    omega (arith, shared-cons_same c x text line same, front-shared text line rest n (omega arith) rest_is)

-- a line begins with what it shares
pub shared-begins : (text line : List ℕ) (n : ℕ) → n ≤ shared text line → line ≡ take n text ++ drop n line
shared-begins text line zero less = refl
shared-begins [] line (suc n) less = absurd (omega arith)
shared-begins (c ∷ text) [] (suc n) less = absurd (omega arith)
shared-begins (c ∷ text) (x ∷ line) (suc n) less =
    elim (same_or_other c x) [
      | inl same ↦
          let e = shared-cons_same c x text line same in
          let shorter : n ≤ shared text line = omega arith in
          cc (shared-begins text line n shorter)
      | inr other ↦ let e = shared-cons_other c x text line other in absurd (omega arith)
    ]

-- what stands behind a word that is there as a whole
pub word_there : (text word is_word : List ℕ) (count : ℕ) → is_word ≡ word → count ≡ shared text is_word → length is_word ≤ count
    → (count ≡ length word) × (text ≡ word ++ take (length text - count) (drop count text))
word_there text word is_word count same is all =
    let whole : length word ≤ shared text word = subst (λ (w : List ℕ). length w ≤ shared text w) same (omega arith) in
    let long : count ≡ length word = is ∙ ap (shared text) same ∙ (let le = shared-le text word in omega arith) in
    let rest : take (length text - count) (drop count text) ≡ drop count text = take_all (length text - count) (drop count text) (omega (arith, length-drop count text)) in
    (long, shared-whole text word whole ∙ ap (λ (n : ℕ). word ++ drop n text) (sym long) ∙ ap (λ (t : List ℕ). word ++ t) (sym rest))
