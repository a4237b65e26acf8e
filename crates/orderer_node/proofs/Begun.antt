-- The list that an orderer begins with.
use Rattle.std.proofs.Common.{◌≡◌, ℕ, suc, Bool, true, false, cond, List, [], ◌∷◌, Option, Some, None, is_some, refl, ap, sym, subst}
use Rattle.std.specs.List.{All, AllByRecursion}
use Rattle.std.proofs.lemmas.List.Elements.{All-head, All-tail}
use Rattle.segment_journal.specs.Journalled.{IsPayload as IsKept}
use Rattle.paxos_model.specs.Payloads.{IsPayload, payload_found, payload_in, payload_of, payloads_in}
use Rattle.paxos_model.specs.Votes.{Payload}
use Rattle.paxos_model.proofs.Payloads.{payload_read}
use Rattle.paxos_acceptor.specs.Listed.{bad_from}

one_read : (bytes : List ℕ) → IsKept bytes → (o : Option Payload) → payload_of bytes ≡ o → is_some o ≡ true → IsPayload (payload_in bytes)
unfolding payload_in
one_read bytes kept None e some = absurd cc
one_read bytes kept (Some payload) e some =
    subst IsPayload (sym (ap payload_found e)) (payload_read bytes payload kept.bytes e).0

-- where none is bad, each is a promise or a vote
pub none_bad : (at : ℕ) (payloads : List (List ℕ)) → All IsKept payloads → bad_from at payloads ≡ None → AllByRecursion IsPayload (payloads_in payloads)
none_bad at [] kept e = tt
none_bad at (bytes ∷ rest) kept e =
    by_test (is_some (payload_of bytes)) refl (none_bad (suc at) rest (All-tail IsKept bytes rest kept)) e
  where
    by_test : (b : Bool) → is_some (payload_of bytes) ≡ b → (bad_from (suc at) rest ≡ None → AllByRecursion IsPayload (payloads_in rest))
        → cond b (bad_from (suc at) rest) (Some at) ≡ None → IsPayload (payload_in bytes) × AllByRecursion IsPayload (payloads_in rest)
    by_test true some others h = (one_read bytes (All-head IsKept bytes rest kept) (payload_of bytes) refl some, others h)
    by_test false some others h = absurd cc
