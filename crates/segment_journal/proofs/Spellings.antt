-- What is recovered was spelled so, and each gate stands at its place.
use Rattle.std.proofs.Common.{◌≡◌, ◌≢◌, ⊎_elim, ℕ, zero, suc, ◌+◌, ◌<◌, ◌≤◌, List, [], ◌∷◌, ◌++◌, length, take, drop, Option, None, Some, Result, Ok, Err, refl, sym, ap, ◌∙◌, subst, arith, append_assoc}
use Rattle.std.proofs.lemmas.List.{length-take-le, length-drop, take-append-drop, drop_at}
use Rattle.std.proofs.lemmas.List.Elements.{All-nil, All-cons}
use Rattle.std.proofs.lemmas.Bool.{cases_eq}
use Rattle.log_base.specs.Wide.{IsBytes}
use Rattle.log_base.proofs.Wide.{IsBytes-tail, IsBytes-drop}
use Rattle.segment_journal.specs.Journalled.{IsPayload, AllPayloads}
use Rattle.segment_journal.specs.File.{recorded, spelled, place_of, payload_behind, after_one, gated, recovered, EndsClosed}
use Rattle.segment_journal.proofs.Recovery.{spelled-append, gated-behind, gated-open, gated-broken, gated-closed, recovered-long}
use Rattle.segment_journal.proofs.ReadingLemmas.{payload-parts, body-of}

-- from the place of a gate on stand the payloads from there on
pub from-gate : (payloads : List (List ℕ)) (rest : List ℕ) (k : ℕ) → drop (place_of payloads k) (spelled payloads ++ rest) ≡ spelled (drop k payloads) ++ rest
from-gate payloads rest k =
    ap (λ (l : List ℕ). drop (place_of payloads k) (l ++ rest)) (ap spelled (sym (take-append-drop k payloads)) ∙ spelled-append (take k payloads) (drop k payloads))
    ∙ ap (λ (l : List ℕ). drop (place_of payloads k) l) (append_assoc (spelled (take k payloads)) (spelled (drop k payloads)) rest)
    ∙ drop_at (spelled (take k payloads)) (spelled (drop k payloads) ++ rest) (place_of payloads k) refl

abbrev Outcome : Type 0
Outcome = Result (List (List ℕ)) ℕ

same-ok : (a b : List (List ℕ)) → ◌≡◌ {A = Outcome} (Ok a) (Ok b) → a ≡ b
same-ok a b is = cc is

never-err : (at : ℕ) (payloads : List (List ℕ)) → ◌≡◌ {A = Outcome} (Err at) (Ok payloads) → ⊥
never-err at payloads is = cc is

-- the payloads behind the first
record HasRest (payload : List ℕ) (rest : Outcome) (payloads : List (List ℕ)) : Type 0 where
  others : List (List ℕ)
  is : rest ≡ Ok others
  all : payloads ≡ payload ∷ others

has-rest : (payload : List ℕ) (rest : Outcome) (payloads : List (List ℕ)) → after_one payload rest ≡ Ok payloads → HasRest payload rest payloads
has-rest payload (Ok others) payloads is = record { others = others; is = refl; all = sym (same-ok (payload ∷ others) payloads is) }
has-rest payload (Err at) payloads is = absurd (never-err at payloads is)

pub record IsSpelled (payloads : List (List ℕ)) (bytes : List ℕ) : Type 0 where
  pub ends : EndsClosed payloads bytes
  pub each : AllPayloads payloads

closed-spelled : (gate : ℕ) (rest : List ℕ) (payloads : List (List ℕ)) → gate ≢ 1 → payloads ≡ [] → IsSpelled payloads (gate ∷ rest)
closed-spelled gate rest payloads closed none =
    subst (λ (l : List (List ℕ)). IsSpelled l (gate ∷ rest)) (sym none) (record { ends = record { gate = gate; rest = rest; spells = refl; closed = closed }; each = All-nil IsPayload })

IsBytes-take : (n : ℕ) (xs : List ℕ) → IsBytes xs → IsBytes (take n xs)
IsBytes-take zero xs bytes i = omega arith
IsBytes-take (suc n) [] bytes i = omega arith
IsBytes-take (suc n) (x ∷ xs) bytes zero = bytes 0
IsBytes-take (suc n) (x ∷ xs) bytes (suc i) = IsBytes-take n xs (IsBytes-tail x xs bytes) i

is-payload : (rest payload : List ℕ) → IsBytes rest → payload_behind rest ≡ Some payload → IsPayload payload
is-payload rest payload bytes found =
    let whole = payload-parts rest payload found in
    record { bytes = subst IsBytes (sym whole.is) (IsBytes-take (length payload) (drop 4 rest) (IsBytes-drop 4 rest bytes)); size = whole.fits }

-- a whole payload before others that are spelled
open-spelled : (rest payload : List ℕ) (others : List (List ℕ)) → IsBytes rest → payload_behind rest ≡ Some payload → IsSpelled others (drop (4 + length payload) rest) → IsSpelled (payload ∷ others) (1 ∷ rest)
open-spelled rest payload others bytes found behind = record {
  ends = record {
    gate = behind.ends.gate;
    rest = behind.ends.rest;
    spells =
        ap (λ (l : List ℕ). 1 ∷ l) (sym (take-append-drop (4 + length payload) rest) ∙ ap (λ (l : List ℕ). l ++ drop (4 + length payload) rest) (body-of rest payload bytes found))
        ∙ ap (λ (l : List ℕ). recorded payload ++ l) behind.ends.spells
        ∙ sym (append_assoc (recorded payload) (spelled others) (behind.ends.gate ∷ behind.ends.rest));
    closed = behind.ends.closed;
  };
  each = All-cons IsPayload payload others (is-payload rest payload bytes found) behind.each;
}

abbrev Shorter : ℕ → Type 0
Shorter most = (bytes : List ℕ) (at : ℕ) (payloads : List (List ℕ)) → length bytes < most → IsBytes bytes → gated bytes at 0 ≡ Ok payloads → IsSpelled payloads bytes

behind-gate : (rest : List ℕ) (at : ℕ) (payloads : List (List ℕ)) (found : Option (List ℕ)) → payload_behind rest ≡ found → IsBytes rest → gated (1 ∷ rest) at 0 ≡ Ok payloads → Shorter (suc (length rest)) → IsSpelled payloads (1 ∷ rest)
behind-gate rest at payloads None found bytes is shorter = absurd (never-err at payloads (sym (gated-broken at rest found) ∙ is))
behind-gate rest at payloads (Some payload) found bytes is shorter =
    let n = 4 + length payload in
    let whole = payload-parts rest payload found in
    let size : length (take n rest) ≡ n = length-take-le n rest (omega (arith, whole.there)) in
    let behind : gated rest (at + 1) n ≡ gated (drop n rest) (at + 1 + n) 0 =
    ap (λ (l : List ℕ). gated l (at + 1) n) (sym (take-append-drop n rest))
    ∙ ap (λ (k : ℕ). gated (take n rest ++ drop n rest) (at + 1) k) (sym size)
    ∙ gated-behind (take n rest) (drop n rest) (at + 1)
    ∙ ap (λ (k : ℕ). gated (drop n rest) (at + 1 + k) 0) size in
    let parts = has-rest payload (gated rest (at + 1) n) payloads (sym (gated-open at rest payload found) ∙ is) in
    let others = shorter (drop n rest) (at + 1 + n) parts.others (omega (arith, length-drop n rest)) (IsBytes-drop n rest bytes) (sym behind ∙ parts.is) in
    subst (λ (l : List (List ℕ)). IsSpelled l (1 ∷ rest)) (sym parts.all) (open-spelled rest payload parts.others bytes found others)

spelled-so : (most : ℕ) → Shorter most
unfolding gated
spelled-so zero bytes at payloads short fits is = absurd (omega arith)
spelled-so (suc most) [] at payloads short fits is = absurd (never-err at payloads is)
spelled-so (suc most) (gate ∷ rest) at payloads short fits is = ⊎_elim
    (λ open_gate. subst (λ (g : ℕ). IsSpelled payloads (g ∷ rest)) (sym open_gate)
    (behind-gate rest at payloads (payload_behind rest) refl (IsBytes-tail gate rest fits) (subst (λ (g : ℕ). gated (g ∷ rest) at 0 ≡ Ok payloads) open_gate is)
    (λ bytes there others less bytes_fit was. spelled-so most bytes there others (omega (arith, less, short)) bytes_fit was)))
    (λ closed. closed-spelled gate rest payloads closed (sym (same-ok [] payloads (sym (gated-closed at gate rest closed) ∙ is))))
    (cases_eq gate 1)

pub recovered-spelled : (bytes : List ℕ) (payloads : List (List ℕ)) → IsBytes bytes → 6 ≤ length bytes → recovered bytes ≡ Ok payloads → IsSpelled payloads bytes
recovered-spelled bytes payloads fits long is = spelled-so (suc (length bytes)) bytes 0 payloads (omega arith) fits (sym (recovered-long bytes long) ∙ is)
