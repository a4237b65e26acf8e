-- The kinds of lines that are tried so far.
use Rattle.std.proofs.Common.{◌≡◌, ◌≢◌, ℕ, ◌+◌, ◌<◌, ◌≤◌, ◌⊎◌, List, [], ◌∷◌, length, take, drop, get_or, max, inl, inr, refl, sym, ◌∙◌, ap, subst, arith}
use Rattle.std.proofs.lemmas.Bool.{cases_lt}
use Rattle.log_base.specs.ClusterShape.{Shape}
use Rattle.fault_script.specs.declared.fault.Fault.{Fault}
use Rattle.fault_script.specs.declared.fault.Fault.TheVariants as fault
use Rattle.fault_script.specs.declared.kind.Kind.{Kind}
use Rattle.fault_script.specs.declared.kind.Kind.TheVariants.{Hold, Settle, Tick, Deliver, Drop, Again, Stop, StopAfter, Lose, Restart, Lead, Resubmit}
use Rattle.fault_script.specs.Lines.{Begins, IsFault, fault_line}
use Rattle.fault_script.specs.Grammar.{fault_of}
use Rattle.fault_script.specs.Longest.{StopsKind, shared}
use Rattle.fault_script.proofs.KindLaws.{fault-is, kind_of, line-is, line-parts, numbers_of, parts-fit}
use Rattle.fault_script.proofs.SharedFronts.{front-shared, same_or_other, shared-begins, shared-le}

-- the place of a kind among all
abbrev pub place_of : Kind → ℕ
place_of Hold = 0
place_of Settle = 1
place_of Tick = 2
place_of Deliver = 3
place_of Drop = 4
place_of Again = 5
place_of Stop = 6
place_of StopAfter = 7
place_of Lose = 8
place_of Restart = 9
place_of Lead = 10
place_of Resubmit = 11

abbrev pub all_kinds : List Kind
all_kinds = Hold ∷ Settle ∷ Tick ∷ Deliver ∷ Drop ∷ Again ∷ Stop ∷ StopAfter ∷ Lose ∷ Restart ∷ Lead ∷ Resubmit ∷ []

at_place : (kind default : Kind) → (get_or all_kinds (place_of kind) default ≡ kind) × (place_of kind < 12)
at_place Hold default = (refl, omega arith)
at_place Settle default = (refl, omega arith)
at_place Tick default = (refl, omega arith)
at_place Deliver default = (refl, omega arith)
at_place Drop default = (refl, omega arith)
at_place Again default = (refl, omega arith)
at_place Stop default = (refl, omega arith)
at_place StopAfter default = (refl, omega arith)
at_place Lose default = (refl, omega arith)
at_place Restart default = (refl, omega arith)
at_place Lead default = (refl, omega arith)
at_place Resubmit default = (refl, omega arith)

-- the text is no line of these kinds, and no more of it begins one; so much of it begins some line
pub record KindsSoFar (shape : Shape) (text : List ℕ) (index at : ℕ) : Type 0 where
  pub begins : (f : Fault) × IsFault shape f × (at ≤ shared text (fault_line f))
  pub none : (f : Fault) → IsFault shape f → place_of (kind_of f) < index → text ≢ fault_line f
  pub most : (f : Fault) → IsFault shape f → place_of (kind_of f) < index → shared text (fault_line f) ≤ at

pub no_kind : (shape : Shape) (text : List ℕ) → KindsSoFar shape text 0 0
no_kind shape text = record {
  begins = (fault.Hold, tt, omega arith);
  none = λ f is less. absurd (omega arith);
  most = λ f is less. absurd (omega arith);
}

-- a fault of the kind that stops
of_kind : (shape : Shape) (text : List ℕ) (at : ℕ) (kind : Kind) (f : Fault) → StopsKind shape kind text at → IsFault shape f → kind_of f ≡ kind
    → (text ≢ fault_line f) × (shared text (fault_line f) ≤ at)
of_kind shape text at kind f stops is same =
    let own : StopsKind shape (kind_of f) text at = subst (λ (k : Kind). StopsKind shape k text at) (sym same) stops in (
      λ text_is. own.none (numbers_of f) (parts-fit shape f is) (text_is ∙ line-parts f),
      subst (λ (line : List ℕ). shared text line ≤ at) (sym (line-parts f)) (own.most (numbers_of f) (parts-fit shape f is)),
    )

-- one kind more
pub next_kind : (shape : Shape) (text : List ℕ) (index at begun : ℕ) (default : Kind) → KindsSoFar shape text index at
    → StopsKind shape (get_or all_kinds index default) text begun → KindsSoFar shape text (index + 1) (max at begun)
next_kind shape text index at begun default so_far stops =
    let kind = get_or all_kinds index default in
    let here : (f : Fault) → IsFault shape f → place_of (kind_of f) < index + 1
    → (place_of (kind_of f) < index) ⊎ ((text ≢ fault_line f) × (shared text (fault_line f) ≤ begun))
    = λ f is less. elim (same_or_other (place_of (kind_of f)) index) [
      | inl same ↦ inr (of_kind shape text begun kind f stops is
          (sym (at_place (kind_of f) default).0 ∙ ap (λ (n : ℕ). get_or all_kinds n default) same))
      | inr other ↦ inl (omega arith)
    ] in
    let more : (at < begun) ⊎ (begun ≤ at) = cases_lt at begun in
    record {
      begins = elim more [
        | inl greater ↦
            let n = stops.some.0 in (
              fault_of kind n,
              fault-is shape kind n stops.some.1,
              subst (λ (line : List ℕ). max at begun ≤ shared text line) (sym (line-is kind n)) (omega (arith, stops.some.2)),
            )
        | inr less ↦ (so_far.begins.0, so_far.begins.1, omega (arith, so_far.begins.2))
      ];
      none = λ f is less. elim (here f is less) [ inl before ↦ so_far.none f is before | inr now ↦ now.0 ];
      most = λ f is less. elim (here f is less) [ inl before ↦ omega (arith, so_far.most f is before) | inr now ↦ omega (arith, now.1) ];
    }

-- what stands of the text and the place
pub within_text : (shape : Shape) (text : List ℕ) (at index : ℕ) → KindsSoFar shape text index at → at ≤ length text
within_text shape text at index so_far = omega (arith, so_far.begins.2, shared-le text (fault_line so_far.begins.0))

pub begins_some : (shape : Shape) (text : List ℕ) (at index : ℕ) → KindsSoFar shape text index at → Begins shape (take at text)
begins_some shape text at index so_far =
    let f = so_far.begins.0 in
    (f, drop at (fault_line f), so_far.begins.1, shared-begins text (fault_line f) at so_far.begins.2)

pub none_longer : (shape : Shape) (text : List ℕ) (at index : ℕ) → KindsSoFar shape text index at → 12 ≤ index
    → (n : ℕ) → n ≤ length text → Begins shape (take n text) → n ≤ at
none_longer shape text at index so_far all n within begins =
    let f = begins.0 in
    let low = (at_place (kind_of f) Hold).1 in
    let reached = front-shared text (fault_line f) begins.1 n within begins.3 in
    let most = so_far.most f begins.2 (omega arith) in
    omega arith
