-- Payloads that are spelled, as their readers find them.
use Rattle.std.proofs.Common.{◌≡◌, ℕ, ◌+◌, List, ◌++◌, length, Option, Some, None, Result, Ok, Err, refl, sym, ap, subst, ◌∙◌, arith, zero-add}
use Rattle.std.specs.Prelude.{MatchOption}
use Rattle.std.specs.Option.{option_map}
use Rattle.std.proofs.lemmas.List.{append-nil, drop_all}
use Rattle.log_base.specs.Wide.{IsBytes}
use Rattle.record_frame.specs.declared.entries.Entry.{Entry}
use Rattle.record_frame.specs.declared.entries.Head.{Head}
use Rattle.record_frame.specs.declared.refusals.Refusal.{Refusal}
use Rattle.record_frame.specs.Entries.{IsEntry, entry_at, entry_spelling, head_of, head_read}
use Rattle.record_frame.proofs.EntryLaws.{entry_again, entry_takes, length-entry_spelling}
use Rattle.log_model.specs.Storage.{IsSpelled as IsEntrySpelled, entry_in, entry_read}
use Rattle.paxos_acceptor.specs.declared.payloads.Entry.{Entry as Promised}
use Rattle.paxos_acceptor.specs.Listed.{payload_so}
use Rattle.paxos_model.specs.Payloads.{IsPayload, IsSpelled, payload_found, payload_in, payload_of, payload_spelling}
use Rattle.paxos_model.specs.Votes.{Payload, Promise}
use Rattle.paxos_model.proofs.Payloads.{payload_read}

-- ---- entries

read-again : (entry : Entry) → IsEntry entry → entry_at (entry_spelling entry) 0 ≡ Ok (entry, length (entry_spelling entry))
read-again entry is =
    entry_again (entry_spelling entry) 0 (length (entry_spelling entry)) entry is
    (record { parts = sym (append-nil (entry_spelling entry)) ∙ ap (λ xs. entry_spelling entry ++ xs) (sym (drop_all (length (entry_spelling entry)) (entry_spelling entry) (omega arith))); end = sym (zero-add (length (entry_spelling entry))); within = omega arith })

-- the head of a spelled payload is read, and tells its length
pub head_spelled : (payload : List ℕ) → IsEntrySpelled payload → (head_read (entry_at payload 0) ≡ Ok (head_of (entry_in payload))) × (length payload ≡ 15 + (head_of (entry_in payload)).length)
head_spelled payload spelled = (
  ap (λ (bytes : List ℕ). head_read (entry_at bytes 0)) spelled.spelling ∙ ap head_read (read-again (entry_in payload) spelled.entry),
  ap length spelled.spelling ∙ length-entry_spelling (entry_in payload),
)

pub ok_same : (one other : Head) → ◌≡◌ {A = Result Head Refusal} (Ok one) (Ok other) → one ≡ other
ok_same one other e = cc

pub err_ok : (refusal : Refusal) (head : Head) → ◌≡◌ {A = Result Head Refusal} (Err refusal) (Ok head) → ⊥
err_ok refusal head e = cc

-- what was read, where it has all of the bytes
module _ (payload : List ℕ) (fits : IsBytes payload) where
  pub head_is : (head : Head) → head_read (entry_at payload 0) ≡ Ok head → length payload ≡ 15 + head.length
      → IsEntrySpelled payload × (head ≡ head_of (entry_in payload))
  unfolding entry_in
  head_is head read long = at (entry_at payload 0) refl read
    where
      at : (r : Result (Entry × ℕ) Refusal) → entry_at payload 0 ≡ r → head_read r ≡ Ok head → IsEntrySpelled payload × (head ≡ head_of (entry_in payload))
      at (Ok found) e h =
          let same : head_of found.0 ≡ head = cc in
          let entry : found.0 ≡ entry_in payload = sym (ap entry_read e) in
          let taken = entry_takes payload 0 found.1 found.0 fits e in
          let end : found.1 ≡ length payload = omega (arith, taken.1.end, length-entry_spelling found.0, ap (λ (x : Head). x.length) same, long) in
          let spelling : payload ≡ entry_spelling found.0 =
          taken.1.parts ∙ ap (λ (l : List ℕ). entry_spelling found.0 ++ l) (drop_all found.1 payload (omega (arith, end))) ∙ append-nil (entry_spelling found.0) in
          (record { entry = subst IsEntry entry taken.0; spelling = spelling ∙ ap entry_spelling entry }, sym same ∙ ap head_of entry)
      at (Err refusal) e h = absurd (cc)

-- ---- promises and votes

-- bytes that spell none are read as a promise of no ballot
not_promised : (bytes : List ℕ) → payload_of bytes ≡ None → IsSpelled bytes → ⊥
unfolding payload_in
not_promised bytes none spelled =
    let is : payload_in bytes ≡ Promise 0 = ap payload_found none in
    let ballot = subst IsPayload is spelled.payload in
    absurd (omega (arith, ballot.0))

promised : (bytes : List ℕ) (payload : Payload) → IsBytes bytes → payload_of bytes ≡ Some payload → IsSpelled bytes × (payload ≡ payload_in bytes)
unfolding payload_in
promised bytes payload fits e =
    let is : payload ≡ payload_in bytes = sym (ap payload_found e) in
    let read = payload_read bytes payload fits e in
    (record { payload = subst IsPayload is read.0; spelling = sym read.1 ∙ ap payload_spelling is }, is)

pub entry_is : (bytes : List ℕ) (read : Option Promised) → IsBytes bytes → option_map payload_so read ≡ payload_of bytes
    → MatchOption read (IsSpelled bytes → ⊥) (λ entry. IsSpelled bytes × (payload_so entry ≡ payload_in bytes))
entry_is bytes None fits e = not_promised bytes (sym e)
entry_is bytes (Some entry) fits e = promised bytes (payload_so entry) fits (sym e)
