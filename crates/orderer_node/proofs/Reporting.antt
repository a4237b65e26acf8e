-- The votes of a report are votes of a message.
use Rattle.std.proofs.Common.{◌≡◌, ℕ, zero, suc, ◌+◌, ◌≤◌, Bool, true, false, cond, nat_lt, ◌==◌, ◌&&◌, List, [], ◌∷◌, length, Option, Some, None, refl, sym, subst, arith}
use Rattle.std.specs.List.{AllByRecursion}
use Rattle.std.proofs.lemmas.Bool.{eqb-true}
use Rattle.event_letters.specs.Letters.{message_length}
use Rattle.message_frame.specs.declared.messages.Vote.{Vote}
use Rattle.message_frame.specs.Spelling.{AreVotes, IsBallot, IsMessage, IsVote, Rise}
use Rattle.message_frame.proofs.Sizes.{length-message_spelling, values_of, votes_short}
use Rattle.node_model.specs.Messages.{promised_message}
use Rattle.paxos_acceptor.specs.Accepting.{TellsPromised}
use Rattle.paxos_acceptor.specs.declared.answers.Prepared.TheVariants.{Promised as PromisedNow}
use Rattle.paxos_model.specs.Acceptor.{Promised as Promise_answer, Refused, Granted, prepare}
use Rattle.paxos_model.specs.Payloads.{IsPayload}
use Rattle.paxos_model.specs.Votes.{Payload, Promise, Voted, counts, greater, greatest, keep, promised, put_first, reports, votes}
use Rattle.record_frame.specs.Values.{IsValue}

-- a vote for a slot, in range
record IsFor (slot : ℕ) (vote : Vote) : Type 0 where
  here : vote.slot.0 ≡ slot
  ballot : IsBallot vote.ballot.0
  within : vote.slot.0 ≤ 16383
  value : IsValue vote.value

abbrev IsForOr : ℕ → Option Vote → Type 0
IsForOr slot None = Unit {0}
IsForOr slot (Some vote) = IsFor slot vote

greater_for : (slot : ℕ) (old new : Vote) → IsFor slot old → IsFor slot new → IsFor slot (greater old new)
greater_for slot old new h k = at (nat_lt old.ballot.0 new.ballot.0)
  where
    at : (b : Bool) → IsFor slot (cond b new old)
    at true = k
    at false = h

keep_for : (slot : ℕ) (old new : Option Vote) → IsForOr slot old → IsForOr slot new → IsForOr slot (keep old new)
keep_for slot None new h k = k
keep_for slot (Some old) None h k = h
keep_for slot (Some old) (Some new) h k = greater_for slot old new h k

counted_for : (ballot slot : ℕ) (vote : Vote) → IsPayload (Voted vote) → (b : Bool) → (nat_lt vote.ballot.0 ballot && (vote.slot.0 == slot)) ≡ b → IsForOr slot (cond b (Some vote) None)
counted_for ballot slot vote is true e =
    record { here = eqb-true vote.slot.0 slot (right (nat_lt vote.ballot.0 ballot) (vote.slot.0 == slot) e); ballot = is.0; within = is.1; value = is.2 }
  where
    right : (a b : Bool) → (a && b) ≡ true → b ≡ true
    right true b h = h
    right false b h = absurd cc
counted_for ballot slot vote is false e = tt

greatest_for : (ballot slot : ℕ) (list : List Payload) → AllByRecursion IsPayload list → IsForOr slot (greatest (counts ballot slot) (votes list))
greatest_for ballot slot [] h = tt
greatest_for ballot slot (Promise promise ∷ list) h = greatest_for ballot slot list h.1
greatest_for ballot slot (Voted vote ∷ list) h =
    keep_for slot (cond (counts ballot slot vote) (Some vote) None) (greatest (counts ballot slot) (votes list))
    (counted_for ballot slot vote h.0 (counts ballot slot vote) refl) (greatest_for ballot slot list h.1)

rise_less : (m n : ℕ) (vs : List Vote) → m ≤ n → Rise n vs → Rise m vs
rise_less m n [] le h = tt
rise_less m n (v ∷ vs) le h = (let k = h.0 in omega arith, h.1)

-- how far the votes of a window are votes of a message
record AreFrom (first slot count : ℕ) (vs : List Vote) : Type 0 where
  few : length vs ≤ count
  each : AllByRecursion (IsVote first) vs
  rise : Rise slot vs

with_first : (first slot count : ℕ) (best : Option Vote) (vs : List Vote) → first ≤ slot → slot ≤ first + 63 → IsForOr slot best → AreFrom first (suc slot) count vs
    → AreFrom first slot (suc count) (put_first best vs)
with_first first slot count None vs low high h k = record { few = let n = k.few in omega arith; each = k.each; rise = rise_less slot (suc slot) vs (omega arith) k.rise }
with_first first slot count (Some vote) vs low high h k =
    let here = h.here in
    let next : suc slot ≡ vote.slot.0 + 1 = omega arith in
    record {
      few = let n = k.few in omega arith;
      each = (record { start = omega arith; window = omega arith; slot = h.within; ballot = h.ballot; value = h.value }, k.each);
      rise = (omega arith, subst (λ (n : ℕ). Rise n vs) next k.rise);
    }

reports_from : (first ballot slot count : ℕ) (list : List Payload) → AllByRecursion IsPayload list → first ≤ slot → slot + count ≤ first + 64
    → AreFrom first slot count (reports ballot slot count (votes list))
unfolding reports
reports_from first ballot slot zero list h low high = record { few = omega arith; each = tt; rise = tt }
reports_from first ballot slot (suc count) list h low high =
    with_first first slot count (greatest (counts ballot slot) (votes list)) (reports ballot (suc slot) count (votes list)) low (omega arith)
    (greatest_for ballot slot list h) (reports_from first ballot (suc slot) count list h (omega arith) (omega arith))

pub report_votes : (ballot slot : ℕ) (list : List Payload) → AllByRecursion IsPayload list → AreVotes slot (reports ballot slot 64 (votes list))
report_votes ballot slot list h =
    let all = reports_from slot ballot slot 64 list h (omega arith) (omega arith) in
    record { few = all.few; each = all.each; rise = all.rise }

-- a report is not too long
pub report_short : (ballot slot who : ℕ) (vs : List Vote) → IsMessage (promised_message ballot slot who vs) → message_length (promised_message ballot slot who vs) ≤ 9103
report_short ballot slot who vs is =
    omega (arith, length-message_spelling (promised_message ballot slot who vs) is, votes_short vs (values_of slot vs is.3.each), is.3.few)

-- what a promise reports are votes of a message
pub promised_votes : (list : List Payload) (ballot slot : ℕ) (before now : List Vote) → AllByRecursion IsPayload list
    → TellsPromised PromisedNow (prepare list ballot slot) before now → AreVotes slot now
unfolding prepare
promised_votes list ballot slot before now h tells = at (nat_lt ballot (promised list)) tells
  where
    told_votes : List Vote
    told_votes = reports ballot slot 64 (votes list)

    rest : Promise_answer
    rest = cond (ballot == promised list) (Granted None told_votes) (Granted (Some (Promise ballot)) told_votes)

    granted : (b : Bool) → TellsPromised PromisedNow (cond b (Granted None told_votes) (Granted (Some (Promise ballot)) told_votes)) before now → AreVotes slot now
    granted true e = subst (λ (v : List Vote). AreVotes slot v) (sym e) (report_votes ballot slot list h)
    granted false e = subst (λ (v : List Vote). AreVotes slot v) (sym e) (report_votes ballot slot list h)

    at : (b : Bool) → TellsPromised PromisedNow (cond b (Refused (promised list)) rest) before now → AreVotes slot now
    at true e = absurd e
    at false e = granted (ballot == promised list) e
