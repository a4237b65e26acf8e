-- A short file gets its first closed gate.
use Rattle.std.proofs.Common.{◌≡◌, ◌⊎◌, inl, inr, ⊎_elim, ℕ, ◌<◌, List, [], ◌∷◌, length, Option, None, Some, IfSome, Result, Ok, refl, sym, ◌∙◌, subst, arith}
use Rattle.std.specs.Option.{option_map}
use Rattle.std.proofs.lemmas.Bool.{cases_lt}
use Rattle.std.proofs.lemmas.List.Elements.{All-nil}
use Rattle.disk_base.specs.Images.{OnlyWhatIsRead, overwritten}
use Rattle.disk_base.specs.Moments.{Elapses}
use Rattle.segment_journal.specs.Journalled.{IsPayload}
use Rattle.segment_journal.specs.File.{recovered, HasStart, Holds}
use Rattle.segment_journal.specs.Kept.{TornImages, AlikeImages}
use Rattle.segment_journal.proofs.Recovery.{recovered-short, recovered-holds}
use Rattle.segment_journal.proofs.Crash.{torn-start, written-start}
use Rattle.segment_journal.proofs.Puts.{only}

-- a file that has no start is short, and holds nothing
pub short-file : (bytes : List ℕ) → (HasStart bytes → ⊥) → length bytes < 6
short-file bytes lacks = ⊎_elim (λ short. short) (λ long. absurd (lacks (λ short. absurd (omega arith)))) (cases_lt (length bytes) 6)

pub same-ok : (a b : List (List ℕ)) → ◌≡◌ {A = Result (List (List ℕ)) ℕ} (Ok a) (Ok b) → a ≡ b
same-ok a b is = cc is

pub no-payloads : (bytes : List ℕ) (list : List (List ℕ)) → (HasStart bytes → ⊥) → recovered bytes ≡ Ok list → list ≡ []
no-payloads bytes list lacks is = same-ok list [] (sym is ∙ recovered-short bytes (short-file bytes lacks))

pub now-begun : (before after : Option (List ℕ)) (list : List (List ℕ)) → after ≡ option_map (λ old. overwritten old 0 (0 ∷ [])) before → list ≡ [] → IfSome after (Holds list)
now-begun None after list written none = subst (λ (o : Option (List ℕ)). IfSome o (Holds list)) (sym written) tt
now-begun (Some old) after list written none =
    subst (λ (o : Option (List ℕ)). IfSome o (Holds list)) (sym written) (subst (λ (l : List (List ℕ)). Holds l (overwritten old 0 (0 ∷ []))) (sym none) (written-start old))

pub recovered-now : (reads : Option (List ℕ)) (list : List (List ℕ)) → list ≡ [] → IfSome reads (Holds list) → IfSome reads (λ bytes. recovered bytes ≡ Ok list)
recovered-now None list none held = tt
recovered-now (Some bytes) list none held =
    recovered-holds list bytes (subst (λ (l : List (List ℕ)). Rattle.segment_journal.specs.Journalled.AllPayloads l) (sym none) (All-nil IsPayload)) held

-- each image is what was read, and as short
pub short-images : (before after : Option (List ℕ)) (images : List ℕ → Type 0) (bytes : List ℕ) → OnlyWhatIsRead after images → after ≡ before → IfSome before (λ old. bytes ≡ old) → length bytes < 6
    → (c : List ℕ) → images c → length c < 6
short-images None after images bytes stable same is short c image = only after images (λ (d : List ℕ). length d < 6) stable (subst (λ (o : Option (List ℕ)). IfSome o (λ d. length d < 6)) (sym same) tt) c image
short-images (Some old) after images bytes stable same is short c image =
    only after images (λ (d : List ℕ). length d < 6) stable (subst (λ (o : Option (List ℕ)). IfSome o (λ d. length d < 6)) (sym same) (subst (λ (d : List ℕ). length d < 6) is short)) c image

-- the first closed gate changes nothing that is recovered
pub begun-alike : (old mid : List ℕ → Type 0) → ((c : List ℕ) → mid c → old c) → ((c : List ℕ) → mid c → length c < 6) → (c : List ℕ) → mid c ⊎ TornImages 0 1 mid c → AlikeImages old c
begun-alike old mid among short c (inl image) = (c, among c image, refl)
begun-alike old mid among short c (inr torn) = (torn.0, among torn.0 torn.1, torn-start torn.0 c (short torn.0 torn.1) torn.2)

-- two calls, one after the other
pub elapses-then : (first then last : ℕ) (past since latest : ℕ → List ℕ → Type 0) (images more all : List ℕ → Type 0) → Elapses first then past since images → Elapses then last since latest more
    → ((c : List ℕ) → images c → all c) → ((c : List ℕ) → more c → all c) → Elapses first last past latest all
elapses-then first then last past since latest images more all one two some others = record {
  later = omega (arith, one.later, two.later);
  nothing_else = λ t c le left. ⊎_elim (λ was. ⊎_elim (λ before. inl before) (λ image. inr (some c image)) (one.nothing_else t c le was)) (λ image. inr (others c image)) (two.nothing_else t c (omega (arith, le, one.later)) left);
  keeps = λ t c le left. two.keeps t c (omega (arith, le, one.later)) (one.keeps t c le left);
}
