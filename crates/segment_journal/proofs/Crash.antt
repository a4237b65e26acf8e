-- What a crash leaves of the two writes of a put, and of the zero byte that begins a file.
use Rattle.std.proofs.Common.{◌≡◌, ◌≢◌, inl, inr, ⊎_elim, ℕ, ◌+◌, ◌<◌, ◌≤◌, List, [], ◌∷◌, ◌++◌, length, take, drop, get_or, refl, sym, ap, ◌∙◌, arith, append_assoc}
use Rattle.std.proofs.lemmas.List.{length-append, take-append-drop, take_at, drop_at, drop_more}
use Rattle.std.proofs.lemmas.Bool.{cases_eq}
use Rattle.log_base.specs.Wide.{be4}
use Rattle.log_base.proofs.Wide.{length-be4}
use Rattle.disk_base.specs.Images.{Torn, overwritten}
use Rattle.segment_journal.specs.File.{recorded, spelled, framed, recovered, Holds, HoldsEither}
use Rattle.segment_journal.proofs.Recovery.{spelled-push, recovered-short}

pub length-framed : (payload : List ℕ) → length (framed payload) ≡ 5 + length payload
length-framed payload =
    omega (arith, length-be4 (length payload), length-append (be4 (length payload)) payload, length-append (be4 (length payload) ++ payload) (0 ∷ []))

-- the file with these bytes behind its closed gate
pub record IsStaged (payloads : List (List ℕ)) (frame bytes : List ℕ) : Type 0 where
  pub gate : ℕ
  pub rest : List ℕ
  pub spells : bytes ≡ spelled payloads ++ gate ∷ (frame ++ rest)
  pub closed : gate ≢ 1

length-gated : (front rest : List ℕ) (gate : ℕ) → length (front ++ gate ∷ rest) ≡ length front + 1 + length rest
length-gated front rest gate = omega (arith, length-append front (gate ∷ rest))

-- the file up to its closed gate
front : (payloads : List (List ℕ)) (bytes : List ℕ) (gate : ℕ) (rest : List ℕ) → bytes ≡ spelled payloads ++ gate ∷ rest → take (length (spelled payloads) + 1) bytes ≡ spelled payloads ++ gate ∷ []
front payloads bytes gate rest is =
    ap (λ (l : List ℕ). take (length (spelled payloads) + 1) l) (is ∙ sym (append_assoc (spelled payloads) (gate ∷ []) rest))
    ∙ take_at (spelled payloads ++ gate ∷ []) rest (length (spelled payloads) + 1) (omega (arith, length-append (spelled payloads) (gate ∷ [])))

back : (payloads : List (List ℕ)) (bytes : List ℕ) (gate : ℕ) (rest : List ℕ) → bytes ≡ spelled payloads ++ gate ∷ rest → drop (length (spelled payloads) + 1) bytes ≡ rest
back payloads bytes gate rest is =
    ap (λ (l : List ℕ). drop (length (spelled payloads) + 1) l) (is ∙ sym (append_assoc (spelled payloads) (gate ∷ []) rest))
    ∙ drop_at (spelled payloads ++ gate ∷ []) rest (length (spelled payloads) + 1) (omega (arith, length-append (spelled payloads) (gate ∷ [])))

before : (payloads : List (List ℕ)) (bytes : List ℕ) (gate : ℕ) (rest : List ℕ) → bytes ≡ spelled payloads ++ gate ∷ rest → take (length (spelled payloads)) bytes ≡ spelled payloads
before payloads bytes gate rest is = ap (λ (l : List ℕ). take (length (spelled payloads)) l) is ∙ take_at (spelled payloads) (gate ∷ rest) (length (spelled payloads)) refl

pub holds-length : (payloads : List (List ℕ)) (bytes : List ℕ) → Holds payloads bytes → length (spelled payloads) + 1 ≤ length bytes
holds-length payloads bytes held = omega (arith, ap length held.spells, length-gated (spelled payloads) held.rest held.gate)

pub staged-length : (payloads : List (List ℕ)) (frame bytes : List ℕ) → IsStaged payloads frame bytes → length (spelled payloads) + 1 + length frame ≤ length bytes
staged-length payloads frame bytes staged =
    omega (arith, ap length staged.spells, length-gated (spelled payloads) (frame ++ staged.rest) staged.gate, length-append frame staged.rest)

-- the closed gate stands, whatever becomes of a write behind it
pub torn-behind : (payloads : List (List ℕ)) (n : ℕ) (old new : List ℕ) → Holds payloads old → Torn (length (spelled payloads) + 1) n old new → Holds payloads new
torn-behind payloads n old new held torn = record {
  gate = held.gate;
  rest = drop (length (spelled payloads) + 1) new;
  spells =
      sym (take-append-drop (length (spelled payloads) + 1) new)
      ∙ ap (λ (l : List ℕ). l ++ drop (length (spelled payloads) + 1) new) (torn.before ∙ front payloads old held.gate held.rest held.spells)
      ∙ append_assoc (spelled payloads) (held.gate ∷ []) (drop (length (spelled payloads) + 1) new);
  closed = held.closed;
  zero_if_short = λ short. held.zero_if_short (omega (arith, torn.no_shorter));
}

-- a write behind it that came through
pub written-behind : (payloads : List (List ℕ)) (frame old : List ℕ) → Holds payloads old → IsStaged payloads frame (overwritten old (length (spelled payloads) + 1) frame)
written-behind payloads frame old held =
    let at = length (spelled payloads) + 1 in
    record {
      gate = held.gate;
      rest = drop (at + length frame) old;
      spells =
          ap (λ (l : List ℕ). l ++ frame ++ drop (at + length frame) old) (front payloads old held.gate held.rest held.spells)
          ∙ append_assoc (spelled payloads ++ held.gate ∷ []) frame (drop (at + length frame) old)
          ∙ append_assoc (spelled payloads) (held.gate ∷ []) (frame ++ drop (at + length frame) old);
      closed = held.closed;
    }

-- what stands behind a closed gate counts for nothing
pub staged-holds : (payloads : List (List ℕ)) (frame bytes : List ℕ) → 5 ≤ length frame → IsStaged payloads frame bytes → Holds payloads bytes
staged-holds payloads frame bytes long staged = record {
  gate = staged.gate;
  rest = frame ++ staged.rest;
  spells = staged.spells;
  closed = staged.closed;
  zero_if_short = λ short. absurd (omega (arith, staged-length payloads frame bytes staged));
}

-- behind an open gate it is the next payload
pub opened-holds : (payloads : List (List ℕ)) (payload rest bytes : List ℕ) → bytes ≡ spelled payloads ++ 1 ∷ (framed payload ++ rest) → Holds (payloads ++ payload ∷ []) bytes
opened-holds payloads payload rest bytes is = record {
  gate = 0;
  rest = rest;
  spells =
      is
      ∙ ap (λ (l : List ℕ). spelled payloads ++ 1 ∷ l) (append_assoc (be4 (length payload) ++ payload) (0 ∷ []) rest)
      ∙ sym (append_assoc (spelled payloads) (recorded payload) (0 ∷ rest))
      ∙ ap (λ (l : List ℕ). l ++ 0 ∷ rest) (sym (spelled-push payloads payload));
  closed = λ one. absurd (omega (arith, one));
  zero_if_short = λ short. refl;
}

-- the payload stands whole behind its gate, whatever becomes of the gate
pub torn-gate : (payloads : List (List ℕ)) (payload old new : List ℕ) → IsStaged payloads (framed payload) old → Torn (length (spelled payloads)) 1 old new → HoldsEither payloads payload new
torn-gate payloads payload old new staged torn =
    let at = length (spelled payloads) in
    let gate = get_or new at 0 in
    let long : at < length new = omega (arith, torn.no_shorter, staged-length payloads (framed payload) old staged) in
    let behind : drop (at + 1) new ≡ framed payload ++ staged.rest = torn.after ∙ back payloads old staged.gate (framed payload ++ staged.rest) staged.spells in
    let whole : new ≡ spelled payloads ++ gate ∷ (framed payload ++ staged.rest) =
    sym (take-append-drop at new)
    ∙ ap (λ (l : List ℕ). l ++ drop at new) (torn.before ∙ before payloads old staged.gate (framed payload ++ staged.rest) staged.spells)
    ∙ ap (λ (l : List ℕ). spelled payloads ++ l) (drop_more new at 0 long ∙ ap (λ (l : List ℕ). gate ∷ l) behind) in
    ⊎_elim
    (λ open_gate. inr (opened-holds payloads payload staged.rest new (whole ∙ ap (λ (g : ℕ). spelled payloads ++ g ∷ (framed payload ++ staged.rest)) open_gate)))
    (λ shut. inl (staged-holds payloads (framed payload) new (omega (arith, length-framed payload)) (record { gate = gate; rest = staged.rest; spells = whole; closed = shut })))
    (cases_eq gate 1)

-- the gate came through
pub written-gate : (payloads : List (List ℕ)) (payload old : List ℕ) → IsStaged payloads (framed payload) old → Holds (payloads ++ payload ∷ []) (overwritten old (length (spelled payloads)) (1 ∷ []))
written-gate payloads payload old staged =
    let at = length (spelled payloads) in
    opened-holds payloads payload staged.rest (overwritten old at (1 ∷ [])) (
    ap (λ (l : List ℕ). l ++ 1 ∷ [] ++ drop (at + 1) old) (before payloads old staged.gate (framed payload ++ staged.rest) staged.spells)
    ∙ ap (λ (l : List ℕ). spelled payloads ++ 1 ∷ [] ++ l) (back payloads old staged.gate (framed payload ++ staged.rest) staged.spells)
    ∙ append_assoc (spelled payloads) (1 ∷ []) (framed payload ++ staged.rest))

-- the zero byte at the start of a short file changes nothing that is recovered
pub torn-start : (old new : List ℕ) → length old < 6 → Torn 0 1 old new → recovered new ≡ recovered old
torn-start old new short torn = recovered-short new (omega (arith, torn.no_longer)) ∙ sym (recovered-short old short)

pub written-start : (old : List ℕ) → Holds [] (overwritten old 0 (0 ∷ []))
written-start old = record { gate = 0; rest = drop 1 old; spells = refl; closed = λ one. absurd (omega (arith, one)); zero_if_short = λ short. refl }
