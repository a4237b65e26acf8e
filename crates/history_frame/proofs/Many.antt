-- Things one behind the other: those that are read stand there, and those that stand there are read.
use Rattle.std.proofs.Common.{◌≡◌, ℕ, zero, suc, ◌+◌, ◌≤◌, List, [], ◌∷◌, ◌++◌, length, Result, Ok, refl, sym, ap, subst, ◌∙◌, arith}
use Rattle.std.specs.List.{flat_map, AllByRecursion}
use Rattle.std.proofs.lemmas.List.Concat.{flat_map-cons}
use Rattle.log_base.specs.Wide.{IsBytes}
use Rattle.record_frame.specs.declared.refusals.Refusal.{Refusal}
use Rattle.record_frame.specs.Fields.{◌>>=◌, StandsAt}
use Rattle.record_frame.proofs.FieldLaws.{bind_ok, given, ok_is, StandsAt-then, StandsAt-front, StandsAt-back}
use Rattle.message_frame.proofs.Parts.{IsPart}
use Rattle.history_frame.proofs.Loops.{IsMany}

-- things that are read
pub record ManyTaken {A : Type 0} (Is : A → Type 0) (text : A → List ℕ) (count : ℕ) (bytes : List ℕ) (at : ℕ) (found : List A × ℕ) : Type 0 where
  pub size : length found.0 ≡ count
  pub each : AllByRecursion Is found.0
  pub stands : StandsAt bytes at (flat_map text found.0) found.1

module _ {A : Type 0} {one : List ℕ → ℕ → Result (A × ℕ) Refusal} {many : ℕ → List ℕ → ℕ → Result (List A × ℕ) Refusal} {Is : A → Type 0} {text : A → List ℕ}
    (is : IsMany one many) (part : IsPart one Is text) where
  pub many_take : (count : ℕ) (bytes : List ℕ) (at : ℕ) (x : List A × ℕ) → IsBytes bytes → at ≤ length bytes → many count bytes at ≡ Ok x → ManyTaken Is text count bytes at x
  many_take zero bytes at x fits within e =
      subst (ManyTaken Is text 0 bytes at) (ok_is ([], at) x (sym (is.none bytes at) ∙ e))
      (record { size = refl; each = tt; stands = record { parts = refl; end = omega arith; within = within } })
  many_take (suc count) bytes at x fits within e =
      let a = bind_ok (one bytes at) (λ first. many count bytes first.1 >>= λ others. Ok (first.0 ∷ others.0, others.1)) x (sym (is.more count bytes at) ∙ e) in
      let b = bind_ok (many count bytes a.0.1) (λ others. Ok (a.0.0 ∷ others.0, others.1)) x a.2 in
      let first = part.takes bytes at a.0 fits within a.1 in
      let others = many_take count bytes a.0.1 b.0 fits first.1.within b.1 in
      let both = StandsAt-then bytes at a.0.1 b.0.1 (text a.0.0) (flat_map text b.0.0) first.1 others.stands in
      let made : List A × ℕ = (a.0.0 ∷ b.0.0, b.0.1) in
      let taken : ManyTaken Is text (suc count) bytes at made = record {
        size = ap suc others.size;
        each = (first.0, others.each);
        stands = rw flat_map-cons both;
      } in
      subst (ManyTaken Is text (suc count) bytes at) (ok_is made x b.2) taken

  pub many_again : (xs : List A) (bytes : List ℕ) (at next : ℕ) → AllByRecursion Is xs → StandsAt bytes at (flat_map text xs) next → many (length xs) bytes at ≡ Ok (xs, next)
  many_again [] bytes at next each stands =
      let end : at ≡ next = omega (arith, stands.end) in
      is.none bytes at ∙ ap (λ (k : ℕ). given ([], k)) end
  many_again (x ∷ xs) bytes at next each stands =
      let both : StandsAt bytes at (text x ++ flat_map text xs) next = subst (λ (l : List ℕ). StandsAt bytes at l next) (flat_map-cons text x xs) stands in
      let first = part.again bytes at (at + length (text x)) x each.0 (StandsAt-front bytes at next (text x) (flat_map text xs) both) in
      let others = many_again xs bytes (at + length (text x)) next each.1 (StandsAt-back bytes at next (text x) (flat_map text xs) both) in
      is.more (length xs) bytes at ∙ rw (first, others) refl
