-- What is spelled is recovered, whatever stands behind the closed gate.
use Rattle.std.proofs.Common.{◌≡◌, ◌≢◌, ⊎_elim, ℕ, ◌+◌, ◌<◌, ◌≤◌, nat_lt, nat_le, eqb, ◌&&◌, true, false, cond, List, [], ◌∷◌, ◌++◌, length, take, drop, None, Some, Result, Ok, Err, refl, sym, ap, ◌∙◌, arith, All, append_assoc}
use Rattle.std.proofs.lemmas.List.{length-append, take_at, drop_at, append-nil}
use Rattle.std.proofs.lemmas.List.Elements.{All-head, All-tail}
use Rattle.std.proofs.lemmas.Bool.{cond-true, cond-false, lt-ltb, le-leb, le-ltb, ne_eqb, cases_eq}
use Rattle.log_base.specs.Wide.{be4, number4}
use Rattle.log_base.proofs.Wide.{length-be4, number4-be4}
use Rattle.segment_journal.specs.Journalled.{IsPayload}
use Rattle.segment_journal.specs.File.{recorded, spelled, payload_behind, after_one, gated, recovered, Holds}

pub length-recorded : (payload : List ℕ) → length (recorded payload) ≡ 5 + length payload
length-recorded payload = omega (arith, length-be4 (length payload), length-append (be4 (length payload)) payload)

pub spelled-append : (some more : List (List ℕ)) → spelled (some ++ more) ≡ spelled some ++ spelled more
spelled-append [] more = refl
spelled-append (payload ∷ some) more =
    ap (λ (l : List ℕ). recorded payload ++ l) (spelled-append some more) ∙ sym (append_assoc (recorded payload) (spelled some) (spelled more))

pub spelled-push : (payloads : List (List ℕ)) (payload : List ℕ) → spelled (payloads ++ payload ∷ []) ≡ spelled payloads ++ recorded payload
spelled-push payloads payload = spelled-append payloads (payload ∷ []) ∙ ap (λ (l : List ℕ). spelled payloads ++ l) (append-nil (recorded payload))

-- a payload stands behind its open gate, where a byte follows it
pub behind-framed : (payload rest : List ℕ) → length payload ≤ 131072 → 1 ≤ length rest → payload_behind (be4 (length payload) ++ payload ++ rest) ≡ Some payload
unfolding payload_behind
behind-framed payload rest size some =
    let width = length-be4 (length payload) in
    let count : number4 (be4 (length payload) ++ payload ++ rest) 0 ≡ length payload =
    ap (λ (l : List ℕ). number4 l 0) (append_assoc (be4 (length payload)) payload rest) ∙ number4-be4 (length payload) 0 [] (payload ++ rest) refl (omega arith) in
    let long : length (be4 (length payload) ++ payload ++ rest) ≡ 4 + length payload + length rest =
    omega (arith, width, length-append (be4 (length payload) ++ payload) rest, length-append (be4 (length payload)) payload) in
    let there : nat_lt (4 + number4 (be4 (length payload) ++ payload ++ rest) 0) (length (be4 (length payload) ++ payload ++ rest)) ≡ true = lt-ltb _ _ (omega (arith, count, long)) in
    let fits : nat_le (number4 (be4 (length payload) ++ payload ++ rest) 0) 131072 ≡ true = le-leb _ _ (omega (arith, count)) in
    let taken : take (number4 (be4 (length payload) ++ payload ++ rest) 0) (drop 4 (be4 (length payload) ++ payload ++ rest)) ≡ payload =
    ap (λ (n : ℕ). take n (drop 4 (be4 (length payload) ++ payload ++ rest))) count
    ∙ ap (λ (l : List ℕ). take (length payload) (drop 4 l)) (append_assoc (be4 (length payload)) payload rest)
    ∙ ap (λ (l : List ℕ). take (length payload) l) (drop_at (be4 (length payload)) (payload ++ rest) 4 width)
    ∙ take_at payload rest (length payload) refl in
    ap (λ (b : _). cond (b && nat_le (number4 (be4 (length payload) ++ payload ++ rest) 0) 131072) (Some (take (number4 (be4 (length payload) ++ payload ++ rest) 0) (drop 4 (be4 (length payload) ++ payload ++ rest)))) None) there
    ∙ ap (λ (b : _). cond b (Some (take (number4 (be4 (length payload) ++ payload ++ rest) 0) (drop 4 (be4 (length payload) ++ payload ++ rest)))) None) fits
    ∙ ap (λ (l : List ℕ). Some l) taken

-- the bytes before a gate are passed over
pub gated-behind : (front rest : List ℕ) (at : ℕ) → gated (front ++ rest) at (length front) ≡ gated rest (at + length front) 0
unfolding gated
gated-behind [] rest at = ap (λ (n : ℕ). gated rest n 0) (omega arith)
gated-behind (byte ∷ front) rest at = gated-behind front rest (at + 1) ∙ ap (λ (n : ℕ). gated rest n 0) (omega arith)

pub gated-open : (at : ℕ) (bytes payload : List ℕ) → payload_behind bytes ≡ Some payload → gated (1 ∷ bytes) at 0 ≡ after_one payload (gated bytes (at + 1) (4 + length payload))
unfolding gated
gated-open at bytes payload is = rw is refl

pub gated-broken : (at : ℕ) (bytes : List ℕ) → payload_behind bytes ≡ None → gated (1 ∷ bytes) at 0 ≡ Err at
unfolding gated
gated-broken at bytes is = rw is refl

pub gated-closed : (at gate : ℕ) (bytes : List ℕ) → gate ≢ 1 → gated (gate ∷ bytes) at 0 ≡ Ok []
unfolding gated
gated-closed at gate bytes closed = let no : eqb gate 1 ≡ false = ne_eqb gate 1 closed in rw no refl

-- several payloads before the others, where these are whole
abbrev pub after_some : List (List ℕ) → Result (List (List ℕ)) ℕ → Result (List (List ℕ)) ℕ
after_some payloads (Ok others) = Ok (payloads ++ others)
after_some payloads (Err at) = Err at

after_one-some : (payload : List ℕ) (payloads : List (List ℕ)) (rest : Result (List (List ℕ)) ℕ) → after_one payload (after_some payloads rest) ≡ after_some (payload ∷ payloads) rest
after_one-some payload payloads (Ok others) = refl
after_one-some payload payloads (Err at) = refl

after_none : (rest : Result (List (List ℕ)) ℕ) → rest ≡ after_some [] rest
after_none (Ok others) = refl
after_none (Err at) = refl

-- Payloads that are spelled come first, whatever the rest stands for.
pub gated-spelled : (payloads : List (List ℕ)) (rest : List ℕ) (at : ℕ) → All IsPayload payloads → 1 ≤ length rest
    → gated (spelled payloads ++ rest) at 0 ≡ after_some payloads (gated rest (at + length (spelled payloads)) 0)
gated-spelled [] rest at each some = ap (λ (n : ℕ). gated rest n 0) (omega arith) ∙ after_none _
gated-spelled (payload ∷ payloads) rest at each some =
    let more = spelled payloads ++ rest in
    let body = be4 (length payload) ++ payload in
    let head = All-head IsPayload payload payloads each in
    let long : 1 ≤ length more = omega (arith, length-append (spelled payloads) rest) in
    let grouped : spelled (payload ∷ payloads) ++ rest ≡ 1 ∷ (body ++ more) = append_assoc (recorded payload) (spelled payloads) rest in
    let width : length body ≡ 4 + length payload = omega (arith, length-be4 (length payload), length-append (be4 (length payload)) payload) in
    let size : length (spelled (payload ∷ payloads)) ≡ 5 + length payload + length (spelled payloads) = omega (arith, length-recorded payload, length-append (recorded payload) (spelled payloads)) in
    ap (λ (l : List ℕ). gated l at 0) grouped
    ∙ gated-open at (body ++ more) payload (behind-framed payload more head.size long)
    ∙ ap (λ (n : ℕ). after_one payload (gated (body ++ more) (at + 1) n)) (sym width)
    ∙ ap (λ (r : Result (List (List ℕ)) ℕ). after_one payload r) (gated-behind body more (at + 1) ∙ gated-spelled payloads rest (at + 1 + length body) (All-tail IsPayload payload payloads each) some)
    ∙ after_one-some payload payloads _
    ∙ ap (λ (n : ℕ). after_some (payload ∷ payloads) (gated rest n 0)) (omega (arith, width, size))

-- a file of payloads has at least six bytes
long_enough : (payload : List ℕ) (payloads : List (List ℕ)) (gate : ℕ) (rest : List ℕ) → 6 ≤ length (spelled (payload ∷ payloads) ++ gate ∷ rest)
long_enough payload payloads gate rest =
    omega (arith, length-append (spelled (payload ∷ payloads)) (gate ∷ rest), length-append (recorded payload) (spelled payloads), length-recorded payload)

pub recovered-long : (bytes : List ℕ) → 6 ≤ length bytes → recovered bytes ≡ gated bytes 0 0
unfolding recovered
recovered-long bytes long = cond-false (nat_lt (length bytes) 6) _ _ (le-ltb (length bytes) 6 long)

pub recovered-short : (bytes : List ℕ) → length bytes < 6 → recovered bytes ≡ Ok []
unfolding recovered
recovered-short bytes short = cond-true (nat_lt (length bytes) 6) _ _ (lt-ltb (length bytes) 6 short)

-- payloads and a closed gate
gated-holds : (payloads : List (List ℕ)) (gate : ℕ) (rest : List ℕ) → All IsPayload payloads → gate ≢ 1 → gated (spelled payloads ++ gate ∷ rest) 0 0 ≡ Ok payloads
gated-holds payloads gate rest each closed =
    gated-spelled payloads (gate ∷ rest) 0 each (omega arith)
    ∙ ap (after_some payloads) (gated-closed (0 + length (spelled payloads)) gate rest closed)
    ∙ ap (λ (l : List (List ℕ)). Ok l) (append-nil payloads)

pub recovered-closed : (payloads : List (List ℕ)) (gate : ℕ) (rest : List ℕ) → All IsPayload payloads → gate ≢ 1 → recovered (spelled payloads ++ gate ∷ rest) ≡ Ok payloads
recovered-closed [] gate rest each closed = ⊎_elim (λ short. recovered-short (gate ∷ rest) short) (λ long. recovered-long (gate ∷ rest) long ∙ gated-holds [] gate rest each closed) (Rattle.std.proofs.lemmas.Bool.cases_lt (length (gate ∷ rest)) 6)
recovered-closed (payload ∷ payloads) gate rest each closed =
    recovered-long _ (long_enough payload payloads gate rest) ∙ gated-holds (payload ∷ payloads) gate rest each closed

pub recovered-holds : (payloads : List (List ℕ)) (bytes : List ℕ) → All IsPayload payloads → Holds payloads bytes → recovered bytes ≡ Ok payloads
recovered-holds payloads bytes each held = ap recovered held.spells ∙ recovered-closed payloads held.gate held.rest each held.closed

-- payloads, and an open gate behind which there is none
pub recovered-broken : (payloads : List (List ℕ)) (bytes rest : List ℕ) → All IsPayload payloads → 6 ≤ length bytes → bytes ≡ spelled payloads ++ 1 ∷ rest → payload_behind rest ≡ None
    → recovered bytes ≡ Err (length (spelled payloads))
recovered-broken payloads bytes rest each long is none =
    recovered-long bytes long ∙ ap (λ (l : List ℕ). gated l 0 0) is
    ∙ gated-spelled payloads (1 ∷ rest) 0 each (omega arith)
    ∙ ap (after_some payloads) (gated-broken (0 + length (spelled payloads)) rest none)
    ∙ ap (λ (n : ℕ). Err n) (omega arith)
