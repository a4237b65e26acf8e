-- What is noted of one promise or vote more.
use Rattle.std.proofs.Common.{◌≡◌, ◌≢◌, ◌≤◌, ◌<◌, ◌-◌, ◌+◌, ℕ, zero, suc, max, Bool, true, false, cond, eqb, ltb, List, [], ◌∷◌, ◌++◌, length, take, drop, get_or, map, replicate, Option, Some, None, refl, sym, ap, ap₂, subst, ◌∙◌, append_assoc, inl, inr, arith}
use Rattle.std.specs.Prelude.{option_to_list}
use Rattle.std.specs.Option.{option_map}
use Rattle.std.proofs.lemmas.Bool.{cases_eq, le-ltb}
use Rattle.std.proofs.lemmas.List.{append-nil, map-append, take_more, get_or_past, get_or_append_left, get_or-append_right, get_or-replicate}
use Rattle.log_base.specs.declared.numbers.Ballot.{Ballot}
use Rattle.message_frame.specs.declared.messages.Vote.{Vote}
use Rattle.segment_journal.specs.Journalled.{Journalled, with_payload}
use Rattle.paxos_model.specs.Acceptor.{Granted, prepare}
use Rattle.paxos_model.specs.Leader.{is_of_slot}
use Rattle.paxos_model.specs.Payloads.{IsPayload, payload_spelling, payload_of, payload_in, payloads_in, payload_found}
use Rattle.paxos_model.specs.Votes.{Payload, Promise, Voted, promised, votes, keep, greatest, put_first, reports}
use Rattle.paxos_model.proofs.Payloads.{payload_in-spelling}
use Rattle.paxos_acceptor.specs.declared.rows.Row.{Row}
use Rattle.paxos_acceptor.specs.declared.answers.Prepared.TheVariants.{Promised as PromisedNow}
use Rattle.paxos_acceptor.specs.Accepting.{TellsPromised}
use Rattle.paxos_acceptor.specs.Listed.{list_of, after_put}
use Rattle.paxos_acceptor.specs.Table.{Table, Tables, IsRow, IsUpTo, row_at, no_row}
use Rattle.paxos_acceptor.proofs.Greatest.{row_other}

-- ---- lists

pub payloads_in-more : (payloads : List (List ℕ)) (bytes : List ℕ) → payloads_in (payloads ++ bytes ∷ []) ≡ payloads_in payloads ++ payload_in bytes ∷ []
payloads_in-more payloads bytes = map-append payload_in payloads (bytes ∷ [])

pub list_of-put : (journal : Journalled) (payload : Payload) → IsPayload payload → list_of (with_payload journal (payload_spelling payload)) ≡ list_of journal ++ payload ∷ []
list_of-put journal payload is =
    payloads_in-more journal.payloads (payload_spelling payload) ∙ ap (λ (p : Payload). list_of journal ++ p ∷ []) (payload_in-spelling payload is)

pub list_of-after : (old new : Journalled) (bytes : List ℕ) (payload : Payload) → IsPayload payload → bytes ≡ payload_spelling payload → new ≡ with_payload old bytes
    → list_of new ≡ list_of old ++ payload ∷ []
list_of-after old new bytes payload is same after =
    ap list_of after ∙ ap (λ (b : List ℕ). list_of (with_payload old b)) same ∙ list_of-put old payload is

promised-more : (list : List Payload) (ballot : ℕ) → promised (list ++ Promise ballot ∷ []) ≡ max ballot (promised list)
promised-more [] ballot = refl
promised-more (Promise b ∷ list) ballot = ap (max b) (promised-more list ballot) ∙ omega arith
promised-more (Voted v ∷ list) ballot = ap (max v.ballot.0) (promised-more list ballot) ∙ omega arith

promised-vote : (list : List Payload) (vote : Vote) → promised (list ++ Voted vote ∷ []) ≡ max vote.ballot.0 (promised list)
promised-vote [] vote = refl
promised-vote (Promise b ∷ list) vote = ap (max b) (promised-vote list vote) ∙ omega arith
promised-vote (Voted v ∷ list) vote = ap (max v.ballot.0) (promised-vote list vote) ∙ omega arith

votes-more : (list : List Payload) (ballot : ℕ) → votes (list ++ Promise ballot ∷ []) ≡ votes list
votes-more [] ballot = refl
votes-more (Promise b ∷ list) ballot = votes-more list ballot
votes-more (Voted v ∷ list) ballot = ap (λ (vs : List Vote). v ∷ vs) (votes-more list ballot)

votes-vote : (list : List Payload) (vote : Vote) → votes (list ++ Voted vote ∷ []) ≡ votes list ++ vote ∷ []
votes-vote [] vote = refl
votes-vote (Promise b ∷ list) vote = votes-vote list vote
votes-vote (Voted v ∷ list) vote = ap (λ (vs : List Vote). v ∷ vs) (votes-vote list vote)

-- ---- tables

pub Tables-promise : (old new : Table) (ballot : ℕ) (list : List Payload) → new.promise ≡ max ballot old.promise → new.rows ≡ old.rows → Tables old list → Tables new (list ++ Promise ballot ∷ [])
Tables-promise old new ballot list promise rows is = record {
  promise = promise ∙ ap (max ballot) is.promise ∙ sym (promised-more list ballot);
  rows = λ slot.
      subst (λ (rs : List Row). IsRow slot (row_at rs slot) (votes (list ++ Promise ballot ∷ []))) (sym rows)
      (subst (IsRow slot (row_at old.rows slot)) (sym (votes-more list ballot)) (is.rows slot));
}

pub Tables-vote : (old new : Table) (vote : Vote) (list : List Payload) → new.promise ≡ max vote.ballot.0 old.promise
    → ((vs : List Vote) → IsRow vote.slot.0 (row_at old.rows vote.slot.0) vs → IsRow vote.slot.0 (row_at new.rows vote.slot.0) (vs ++ vote ∷ []))
    → ((slot : ℕ) → slot ≢ vote.slot.0 → row_at new.rows slot ≡ row_at old.rows slot) → Tables old list → Tables new (list ++ Voted vote ∷ [])
Tables-vote old new vote list promise here others is = record {
  promise = promise ∙ ap (max vote.ballot.0) is.promise ∙ sym (promised-vote list vote);
  rows = λ slot.
      subst (IsRow slot (row_at new.rows slot)) (sym (votes-vote list vote)) (by_slot slot);
}
  where
    by_slot : (slot : ℕ) → IsRow slot (row_at new.rows slot) (votes list ++ vote ∷ [])
    by_slot slot =
        elim (cases_eq slot vote.slot.0) [
          | inl same ↦ subst (λ (s : ℕ). IsRow s (row_at new.rows s) (votes list ++ vote ∷ [])) (sym same) (here (votes list) (is.rows vote.slot.0))
          | inr other ↦ subst (λ (row : Row). IsRow slot row (votes list ++ vote ∷ [])) (sym (others slot other))
              (row_other slot vote (votes list) (row_at old.rows slot) (λ e. other (sym e)) (is.rows slot))
        ]

-- what was no payload changes nothing
pub Tables-nothing : (table : Table) (list : List Payload) → Tables table list → Tables table (list ++ Promise 0 ∷ [])
Tables-nothing table list is = Tables-promise table table 0 list (omega arith) refl is

-- a promise that is put changes no vote
pub promise-put : (old new : Journalled) (ballot : ℕ) (failed : Bool) → IsPayload (Promise ballot) → failed ≡ false → promised (list_of old) ≤ ballot
    → new ≡ after_put old (Some (Promise ballot)) failed → (votes (list_of new) ≡ votes (list_of old)) × (promised (list_of new) ≤ ballot)
promise-put old new ballot failed is good least after =
    let list = list_of-after old new (payload_spelling (Promise ballot)) (Promise ballot) is refl (after ∙ ap (after_put old (Some (Promise ballot))) good) in
    let most : promised (list_of new) ≡ max ballot (promised (list_of old)) = ap promised list ∙ promised-more (list_of old) ballot in
    (ap votes list ∙ votes-more (list_of old) ballot, omega (arith, most, least))

-- the answer to Prepare where the ballot is not below the promise
pub promised-told : (list : List Payload) (ballot slot : ℕ) (old new : List Vote) → promised list ≤ ballot → new ≡ reports ballot slot 64 (votes list)
    → TellsPromised PromisedNow (prepare list ballot slot) old new
unfolding prepare
promised-told list ballot slot old new least is =
    let test = le-ltb ballot (promised list) least in
    rw test (by_test (eqb ballot (promised list)))
  where
    by_test : (b : Bool) → TellsPromised PromisedNow (cond b (Granted None (reports ballot slot 64 (votes list))) (Granted (Some (Promise ballot)) (reports ballot slot 64 (votes list)))) old new
    by_test true = is
    by_test false = is

-- ---- the greatest ballot of a slot's votes

up_to_keep : (ballot : ℕ) (x y : Option Vote) → IsUpTo ballot x → IsUpTo ballot y → IsUpTo ballot (keep x y)
up_to_keep ballot None y most most_y = most_y
up_to_keep ballot (Some u) None most most_y = most
up_to_keep ballot (Some u) (Some w) most most_y = by_test (ltb u.ballot.0 w.ballot.0)
  where
    by_test : (b : Bool) → (cond b w u).ballot.0 ≤ ballot
    by_test true = most_y
    by_test false = most

up_to_more : (less more : ℕ) (o : Option Vote) → less ≤ more → IsUpTo less o → IsUpTo more o
up_to_more less more None le most = tt
up_to_more less more (Some u) le most = omega (arith, le, most)

up_to_one : (ballot : ℕ) (vote : Vote) (b : Bool) → vote.ballot.0 ≤ ballot → IsUpTo ballot (cond b (Some vote) None)
up_to_one ballot vote true le = le
up_to_one ballot vote false le = tt

votes-up_to : (t : Vote → Bool) (list : List Payload) → IsUpTo (promised list) (greatest t (votes list))
votes-up_to t [] = tt
votes-up_to t (Promise b ∷ list) = up_to_more (promised list) (max b (promised list)) (greatest t (votes list)) (omega arith) (votes-up_to t list)
votes-up_to t (Voted v ∷ list) =
    up_to_keep (max v.ballot.0 (promised list)) (cond (t v) (Some v) None) (greatest t (votes list))
    (up_to_one (max v.ballot.0 (promised list)) v (t v) (omega arith))
    (up_to_more (promised list) (max v.ballot.0 (promised list)) (greatest t (votes list)) (omega arith) (votes-up_to t list))

-- no vote of a row passes a ballot that is not below the promise
pub row_up_to : (table : Table) (list : List Payload) (ballot slot : ℕ) → Tables table list → promised list ≤ ballot → IsUpTo ballot (row_at table.rows slot).last
row_up_to table list ballot slot is most =
    subst (IsUpTo ballot) (sym (is.rows slot).last) (up_to_more (promised list) ballot (greatest (is_of_slot slot) (votes list)) most (votes-up_to (is_of_slot slot) (list)))
