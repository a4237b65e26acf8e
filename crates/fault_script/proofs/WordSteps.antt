-- A word at the front of each line: it is not there as a whole, or what stands behind it decides.
use Rattle.std.proofs.Common.{◌≡◌, ℕ, ◌+◌, ◌<◌, List, ◌++◌, length, sym, ◌∙◌, ap, arith}
use Rattle.std.proofs.lemmas.List.{append_cancel_left}
use Rattle.fault_script.specs.Longest.{Longest, shared}
use Rattle.fault_script.proofs.SharedFronts.{shared-append, shared-front, shared-short}

pub word_stops : {A : Type 0} (fits : A → Type 0) (line : A → List ℕ) (text word : List ℕ) → shared text word < length word
    → (a : A) → fits a → Longest fits (λ a. word ++ line a) text (shared text word)
word_stops fits line text word less a a_fits = record {
  none = λ b b_fits is. let whole = ap (λ (t : List ℕ). shared t word) is ∙ shared-front word (line b) in omega arith;
  most = λ b b_fits. omega (arith, shared-short text word (line b) less);
  some = (a, a_fits, shared-short text word (line a) less);
}

-- what lines share behind the word
pub behind_word : (text word rest line : List ℕ) → text ≡ word ++ rest → shared text (word ++ line) ≡ length word + shared rest line
behind_word text word rest line is = ap (λ (t : List ℕ). shared t (word ++ line)) is ∙ shared-append word rest line

pub word_goes : {A : Type 0} (fits : A → Type 0) (line : A → List ℕ) (text word rest : List ℕ) (at : ℕ) → text ≡ word ++ rest
    → Longest fits line rest at → Longest fits (λ a. word ++ line a) text (length word + at)
word_goes fits line text word rest at is stops = record {
  none = λ a a_fits same. stops.none a a_fits (append_cancel_left word rest (line a) (sym is ∙ same));
  most = λ a a_fits. omega (arith, behind_word text word rest (line a) is, stops.most a a_fits);
  some = (stops.some.0, stops.some.1, behind_word text word rest (line stops.some.0) is ∙ ap (λ (n : ℕ). length word + n) stops.some.2);
}
