-- A payload that is read is spelled so, and what is spelled is read.
use Rattle.std.proofs.Common.{◌≡◌, ℕ, ◌+◌, ◌≤◌, Bool, true, false, cond, eqb, List, [], ◌∷◌, ◌++◌, length, Some, None, Result, Ok, Err, refl, sym, ap, subst, ◌∙◌, eq-eqb, eqb-true, arith}
use Rattle.std.proofs.lemmas.List.{append-nil, drop_all}
use Rattle.log_base.specs.Wide.{IsBytes, be4, be8}
use Rattle.log_base.specs.declared.numbers.Ballot.{Ballot}
use Rattle.log_base.specs.declared.numbers.Slot.{Slot}
use Rattle.message_frame.specs.Reading.{ballot_at, slot_at}
use Rattle.message_frame.proofs.Groups.{three_take, three_again}
use Rattle.message_frame.proofs.Parts.{IsPart, slot_up_to_part, ballot_part, value_part}
use Rattle.message_frame.proofs.Sizes.{value_short}
use Rattle.record_frame.specs.declared.refusals.Refusal.{Refusal}
use Rattle.record_frame.specs.declared.refusals.Refusal.TheVariants.{BadKind}
use Rattle.record_frame.specs.declared.values.Value.{Value}
use Rattle.record_frame.specs.Fields.{StandsAt, u8_at}
use Rattle.record_frame.specs.Values.{value_spelling}
use Rattle.record_frame.proofs.FieldLaws.{bind_ok, given, ok_is, StandsAt-then, StandsAt-front, StandsAt-back, front_stands, u8_takes, u8_again}
use Rattle.paxos_model.specs.Payloads.{IsPayload, payload_spelling, payload_limit, promise_at, voted_at, payload_fields_at, payload_at, ends_at, payload_of, payload_found, payload_in}
use Rattle.paxos_model.specs.Votes.{Payload, Promise, Voted}

slot_part : IsPart (slot_at 0 16383) (λ slot. slot.0 ≤ 16383) (λ slot. be4 slot.0)
slot_part = slot_up_to_part 16383 (omega arith)

abbrev make_vote : Ballot → Slot → Value → Payload
make_vote ballot slot value = Voted (record { slot = slot; ballot = ballot; value = value })

-- a payload whose kind and fields these are
record FieldsTaken (kind : ℕ) (bytes : List ℕ) (at : ℕ) (found : Payload × ℕ) : Type 0 where
  payload : IsPayload found.0
  fields : List ℕ
  spelling : payload_spelling found.0 ≡ kind ∷ fields
  stands : StandsAt bytes at fields found.1

promise_takes : (bytes : List ℕ) (at : ℕ) (x : Payload × ℕ) → IsBytes bytes → at ≤ length bytes → promise_at bytes at ≡ Ok x → FieldsTaken 2 bytes at x
unfolding promise_at
promise_takes bytes at x fits within e =
    let a = bind_ok (ballot_at bytes at) (λ ballot. Ok (Promise ballot.0.0, ballot.1)) x e in
    let t = ballot_part.takes bytes at a.0 fits within a.1 in
    let made : Payload × ℕ = (Promise a.0.0.0, a.0.1) in
    let taken : FieldsTaken 2 bytes at made = record { payload = t.0; fields = be8 a.0.0.0; spelling = refl; stands = t.1 } in
    subst (FieldsTaken 2 bytes at) (ok_is made x a.2) taken

voted_takes : (bytes : List ℕ) (at : ℕ) (x : Payload × ℕ) → IsBytes bytes → at ≤ length bytes → voted_at bytes at ≡ Ok x → FieldsTaken 3 bytes at x
unfolding voted_at
voted_takes bytes at x fits within e =
    three_take ballot_part slot_part value_part make_vote bytes at x fits within e (FieldsTaken 3 bytes at)
    (λ ballot slot value next is_ballot is_slot is_value stands. record {
      payload = (is_ballot, is_slot, is_value);
      fields = be8 ballot.0 ++ (be4 slot.0 ++ value_spelling value);
      spelling = refl;
      stands = stands;
    })

-- the fields by their kind, or by one of the kinds that are left
by_kind : (kind n : ℕ) (first rest : Result (Payload × ℕ) Refusal) (bytes : List ℕ) (at : ℕ) (x : Payload × ℕ) → cond (eqb kind n) first rest ≡ Ok x
    → (first ≡ Ok x → FieldsTaken n bytes at x) → (rest ≡ Ok x → FieldsTaken kind bytes at x) → FieldsTaken kind bytes at x
by_kind kind n first rest bytes at x e this others = by_test (eqb kind n) refl e
  where
    by_test : (b : Bool) → eqb kind n ≡ b → cond b first rest ≡ Ok x → FieldsTaken kind bytes at x
    by_test true is h = subst (λ (k : ℕ). FieldsTaken k bytes at x) (sym (eqb-true kind n is)) (this h)
    by_test false is h = others h

no_kind : (kind : ℕ) (bytes : List ℕ) (at : ℕ) (x : Payload × ℕ) → Err (BadKind kind) ≡ given x → FieldsTaken kind bytes at x
no_kind kind bytes at x e = absurd cc

fields_take : (kind : ℕ) (bytes : List ℕ) (at : ℕ) (x : Payload × ℕ) → IsBytes bytes → at ≤ length bytes → payload_fields_at kind bytes at ≡ Ok x → FieldsTaken kind bytes at x
unfolding payload_fields_at
fields_take kind bytes at x fits within e =
    by_kind kind 2 (promise_at bytes at) _ bytes at x e (promise_takes bytes at x fits within)
    (λ e3. by_kind kind 3 (voted_at bytes at) (Err (BadKind kind)) bytes at x e3 (voted_takes bytes at x fits within) (no_kind kind bytes at x))

-- what is read at a place stands there, and is in range
pub payload_takes : (bytes : List ℕ) (at next : ℕ) (payload : Payload) → IsBytes bytes → payload_at bytes at ≡ Ok (payload, next)
    → IsPayload payload × StandsAt bytes at (payload_spelling payload) next
unfolding payload_at
payload_takes bytes at next payload fits e =
    let a = bind_ok (u8_at bytes at) (λ kind. payload_fields_at kind.0 bytes kind.1) (payload, next) e in
    let first = u8_takes bytes at a.0 fits a.1 in
    let t = fields_take a.0.0 bytes a.0.1 (payload, next) fits first.0.within a.2 in
    (t.payload, subst (λ (l : List ℕ). StandsAt bytes at l next) (sym t.spelling) (StandsAt-then bytes at a.0.1 next (a.0.0 ∷ []) t.fields first.0 t.stands))

-- what stands at a place is read
pub payload_again : (bytes : List ℕ) (at next : ℕ) (payload : Payload) → IsPayload payload → StandsAt bytes at (payload_spelling payload) next
    → payload_at bytes at ≡ Ok (payload, next)
unfolding payload_at payload_fields_at promise_at voted_at
payload_again bytes at next (Promise ballot) is stands =
    rw (
      u8_again bytes at 2 (at + 1) (omega arith) (StandsAt-front bytes at next (2 ∷ []) (be8 ballot) stands),
      ballot_part.again bytes (at + 1) next (record { 0 = ballot }) is (StandsAt-back bytes at next (2 ∷ []) (be8 ballot) stands),
    ) refl
payload_again bytes at next (Voted vote) is stands =
    let fields = be8 vote.ballot.0 ++ (be4 vote.slot.0 ++ value_spelling vote.value) in
    rw (u8_again bytes at 3 (at + 1) (omega arith) (StandsAt-front bytes at next (3 ∷ []) fields stands))
    (three_again ballot_part slot_part value_part make_vote bytes (at + 1) next vote.ballot vote.slot vote.value is.0 is.1 is.2
    (StandsAt-back bytes at next (3 ∷ []) fields stands))

-- ---- all of the bytes

ends_take : (end : ℕ) (read : Result (Payload × ℕ) Refusal) (payload : Payload) → ends_at end read ≡ Some payload → read ≡ Ok (payload, end)
ends_take end (Err refusal) payload e = absurd cc
ends_take end (Ok found) payload e = by_test (eqb found.1 end) refl e
  where
    by_test : (b : Bool) → eqb found.1 end ≡ b → cond b (Some found.0) None ≡ Some payload → given found ≡ given (payload, end)
    by_test true is h = let place : found.1 ≡ end = eqb-true found.1 end is in let same : found.0 ≡ payload = cc in λ j. given (same j, place j)
    by_test false is h = absurd cc

-- what all of the bytes are read as is spelled so, and in range
pub payload_read : (bytes : List ℕ) (payload : Payload) → IsBytes bytes → payload_of bytes ≡ Some payload → IsPayload payload × (payload_spelling payload ≡ bytes)
unfolding payload_of
payload_read bytes payload fits e =
    let t = payload_takes bytes 0 (length bytes) payload fits (ends_take (length bytes) (payload_at bytes 0) payload e) in
    (t.0, sym (t.1.parts ∙ ap (λ (l : List ℕ). payload_spelling payload ++ l) (drop_all (length bytes) bytes (omega arith)) ∙ append-nil (payload_spelling payload)))

-- what is spelled is read
pub payload_spelled : (payload : Payload) → IsPayload payload → payload_of (payload_spelling payload) ≡ Some payload
unfolding payload_of
payload_spelled payload is =
    let text = payload_spelling payload in
    let read = payload_again text 0 (length text) payload is (front_stands text text [] (sym (append-nil text))) in
    let same = eq-eqb (length text) (length text) refl in
    rw (read, same) refl

pub payload_in-spelling : (payload : Payload) → IsPayload payload → payload_in (payload_spelling payload) ≡ payload
unfolding payload_in
payload_in-spelling payload is = ap payload_found (payload_spelled payload is)

-- a spelling is short
pub payload_short : (payload : Payload) → IsPayload payload → length (payload_spelling payload) ≤ payload_limit
unfolding be4 be8
payload_short (Promise ballot) is = omega arith
payload_short (Voted vote) is = omega (arith, value_short vote.value is.2)
