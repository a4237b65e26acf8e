-- A file is read payload by payload.
use Rattle.std.proofs.Common.{◌≡◌, ℕ, ◌+◌, ◌-◌, ◌<◌, ◌≤◌, nat_lt, nat_le, ◌&&◌, List, [], ◌∷◌, ◌++◌, length, take, drop, get_or, Option, None, Some, Ok, Err, suc, refl, sym, ap, ◌∙◌, arith}
use Rattle.std.proofs.Math.Seq.{take-add}
use Rattle.std.proofs.lemmas.List.{length-append, length-take-le, length-drop, take-append-drop, take_rest, drop_more}
use Rattle.std.proofs.lemmas.Bool.{and_parts}
use Rattle.std.proofs.lemmas.Bool.Decides.{nat_tests}
use Rattle.std.proofs.lemmas.Option.{cond_some}
use Rattle.log_base.specs.Wide.{IsBytes, be4, number4}
use Rattle.log_base.proofs.Wide.{be4-number4, IsBytes-drop}
use Rattle.segment_journal.specs.Journalled.{AllPayloads}
use Rattle.segment_journal.specs.File.{recorded, spelled, payload_behind, recovered, EndsClosed, HasStart, Holds}
use Rattle.segment_journal.proofs.Recovery.{spelled-push, recovered-closed, recovered-broken, length-recorded}

pub record IsWhole (bytes payload : List ℕ) : Type 0 where
  pub count : number4 bytes 0 ≡ length payload
  pub there : 4 + length payload < length bytes
  pub fits : length payload ≤ 131072
  pub is : payload ≡ take (length payload) (drop 4 bytes)

pub payload-parts : (bytes payload : List ℕ) → payload_behind bytes ≡ Some payload → IsWhole bytes payload
unfolding payload_behind
payload-parts bytes payload is =
    let n = number4 bytes 0 in
    let found = cond_some (nat_lt (4 + n) (length bytes) && nat_le n 131072) (take n (drop 4 bytes)) payload is in
    let tests = and_parts (nat_lt (4 + n) (length bytes)) (nat_le n 131072) found.0 in
    let long : 4 + n < length bytes = grind (arith, nat_tests) in
    let small : n ≤ 131072 = grind (arith, nat_tests) in
    let size : length payload ≡ n = ap length (sym found.1) ∙ length-take-le n (drop 4 bytes) (omega (arith, length-drop 4 bytes, long)) in
    record {
      count = sym size;
      there = omega (arith, size, long);
      fits = omega (arith, size, small);
      is = sym found.1 ∙ ap (λ (k : ℕ). take k (drop 4 bytes)) (sym size);
    }

-- what was sought in a part of the file
pub sought : (bytes : List ℕ) (at : ℕ) (found : Option (List ℕ)) → found ≡ payload_behind (take (length bytes - at) (drop at bytes)) → payload_behind (drop at bytes) ≡ found
sought bytes at found is = ap payload_behind (sym (take_rest bytes at)) ∙ sym is

-- the length and the payload are what is recorded behind the gate
pub body-of : (rest payload : List ℕ) → IsBytes rest → payload_behind rest ≡ Some payload → take (4 + length payload) rest ≡ be4 (length payload) ++ payload
body-of rest payload fits found =
    let whole = payload-parts rest payload found in
    let head : take 4 rest ≡ be4 (length payload) = sym (be4-number4 rest 0 fits (omega (arith, whole.there))) ∙ ap be4 whole.count in
    take-add 4 (length payload) rest ∙ ap (λ (l : List ℕ). l ++ take (length payload) (drop 4 rest)) head ∙ ap (λ (l : List ℕ). be4 (length payload) ++ l) (sym whole.is)

-- one payload more was read
pub one-more : (bytes : List ℕ) (payloads : List (List ℕ)) (at : ℕ) (payload : List ℕ) → IsBytes bytes → at < length bytes → get_or bytes at 0 ≡ 1 → take at bytes ≡ spelled payloads
    → payload_behind (drop (at + 1) bytes) ≡ Some payload → (take (at + (5 + length payload)) bytes ≡ spelled (payloads ++ payload ∷ [])) × (at + (5 + length payload) < length bytes)
one-more bytes payloads at payload fits within open_gate so_far found =
    let rest = drop (at + 1) bytes in
    let whole = payload-parts rest payload found in
    let long = length-drop (at + 1) bytes in
    let front : drop at bytes ≡ 1 ∷ rest = drop_more bytes at 0 within ∙ ap (λ (g : ℕ). g ∷ rest) open_gate in
    let body = body-of rest payload (IsBytes-drop (at + 1) bytes fits) found in
    let five : 5 + length payload ≡ suc (4 + length payload) = omega arith in (
      take-add at (5 + length payload) bytes
          ∙ ap (λ (l : List ℕ). l ++ take (5 + length payload) (drop at bytes)) so_far
          ∙ ap (λ (l : List ℕ). spelled payloads ++ take (5 + length payload) l) front
          ∙ ap (λ (k : ℕ). spelled payloads ++ take k (1 ∷ rest)) five
          ∙ ap (λ (l : List ℕ). spelled payloads ++ 1 ∷ l) body
          ∙ sym (spelled-push payloads payload),
      omega (arith, whole.there, long),
    )

-- what was read, the gate, and what stands behind it
pub cut-at : (bytes : List ℕ) (payloads : List (List ℕ)) (at gate : ℕ) → at < length bytes → get_or bytes at 0 ≡ gate → take at bytes ≡ spelled payloads → bytes ≡ spelled payloads ++ gate ∷ drop (at + 1) bytes
cut-at bytes payloads at gate within is so_far =
    sym (take-append-drop at bytes)
    ∙ ap (λ (l : List ℕ). l ++ drop at bytes) so_far
    ∙ ap (λ (l : List ℕ). spelled payloads ++ l) (drop_more bytes at 0 within ∙ ap (λ (g : ℕ). g ∷ drop (at + 1) bytes) is)

pub broken-at : (bytes : List ℕ) (payloads : List (List ℕ)) (at : ℕ) → AllPayloads payloads → 6 ≤ length bytes → at < length bytes → get_or bytes at 0 ≡ 1 → take at bytes ≡ spelled payloads
    → payload_behind (drop (at + 1) bytes) ≡ None → recovered bytes ≡ Err at
broken-at bytes payloads at each long within open_gate so_far none =
    let size : length (spelled payloads) ≡ at = ap length (sym so_far) ∙ length-take-le at bytes (omega (arith, within)) in
    recovered-broken payloads bytes (drop (at + 1) bytes) each long (cut-at bytes payloads at 1 within open_gate so_far) none ∙ ap (λ (n : ℕ). Err n) size

pub ends-recovered : (payloads : List (List ℕ)) (bytes : List ℕ) → AllPayloads payloads → EndsClosed payloads bytes → recovered bytes ≡ Ok payloads
ends-recovered payloads bytes each ends = ap recovered ends.spells ∙ recovered-closed payloads ends.gate ends.rest each ends.closed

pub ends-holds : (payloads : List (List ℕ)) (bytes : List ℕ) → 6 ≤ length bytes → EndsClosed payloads bytes → Holds payloads bytes
ends-holds payloads bytes long ends = record {
  gate = ends.gate;
  rest = ends.rest;
  spells = ends.spells;
  closed = ends.closed;
  zero_if_short = λ short. absurd (omega arith);
}

-- a file that begins with a zero byte
pub start-holds : (bytes : List ℕ) → length bytes < 6 → HasStart bytes → Holds [] bytes
start-holds [] short start = let zero_first = start short in absurd (omega (arith, zero_first))
start-holds (first ∷ bytes) short start =
    let zero_first : first ≡ 0 = start short in
    record { gate = first; rest = bytes; spells = refl; closed = λ one. absurd (omega (arith, one, zero_first)); zero_if_short = λ _. zero_first }

pub holds-start : (payloads : List (List ℕ)) (bytes : List ℕ) → Holds payloads bytes → HasStart bytes
holds-start [] bytes held short = ap (λ (l : List ℕ). get_or l 0 1) held.spells ∙ held.zero_if_short short
holds-start (payload ∷ payloads) bytes held short =
    absurd (omega (arith, ap length held.spells, length-append (spelled (payload ∷ payloads)) (held.gate ∷ held.rest), length-append (recorded payload) (spelled payloads), length-recorded payload))
