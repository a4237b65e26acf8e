-- Votes that are read are spelled so, and what is spelled is read.
use Rattle.std.proofs.Common.{◌≡◌, ℕ, zero, suc, ◌+◌, ◌^◌, ◌<◌, ◌≤◌, List, [], ◌∷◌, ◌++◌, length, Ok, refl, sym, ap, subst, arith}
use Rattle.std.specs.List.{flat_map, AllByRecursion}
use Rattle.std.proofs.lemmas.List.Concat.{flat_map-cons}
use Rattle.log_base.specs.Wide.{IsBytes}
use Rattle.log_base.specs.declared.numbers.Ballot.{Ballot}
use Rattle.log_base.specs.declared.numbers.Slot.{Slot}
use Rattle.record_frame.specs.declared.values.Value.{Value}
use Rattle.record_frame.specs.Fields.{◌>>=◌, StandsAt}
use Rattle.record_frame.specs.Values.{IsValue}
use Rattle.record_frame.proofs.FieldLaws.{bind_ok, given, ok_is, StandsAt-then, StandsAt-front, StandsAt-back}
use Rattle.record_frame.proofs.Reasons.{NeedsNone}
use Rattle.message_frame.specs.declared.messages.Vote.{Vote}
use Rattle.message_frame.specs.Spelling.{IsBallot, IsVote, Rise, AreVotes, vote_spelling, votes_spelling}
use Rattle.message_frame.specs.Reading.{vote_at, votes_at, window_end, reported_at, u8_up_to}
use Rattle.message_frame.proofs.Groups.{three_take, three_again, three_need_none}
use Rattle.message_frame.proofs.Parts.{IsPart, bind, gives, slot_part, ballot_part, value_part, u8_up_to_part}

-- the numbers of a vote whose slot is from a least to a greatest one
abbrev IsVoteFrom : ℕ → ℕ → Vote → Type 0
IsVoteFrom least greatest vote = ((least ≤ vote.slot.0) × (vote.slot.0 ≤ greatest)) × IsBallot vote.ballot.0 × IsValue vote.value

abbrev make_vote : Slot → Ballot → Value → Vote
make_vote slot ballot value = record { slot = slot; ballot = ballot; value = value }

vote_part : (least greatest : ℕ) → greatest < 2 ^ 32 → IsPart (vote_at least greatest) (IsVoteFrom least greatest) vote_spelling
unfolding vote_at
vote_part least greatest small = record {
  takes = λ bytes at x fits within e.
      three_take (slot_part least greatest small) ballot_part value_part make_vote bytes at x fits within e (λ (y : Vote × ℕ). IsVoteFrom least greatest y.0 × StandsAt bytes at (vote_spelling y.0) y.1)
      (λ slot ballot value next is_slot is_ballot is_value stands. ((is_slot, is_ballot, is_value), stands));
  again = λ bytes at next vote is stands.
      three_again (slot_part least greatest small) ballot_part value_part make_vote bytes at next vote.slot vote.ballot vote.value is.0 is.1 is.2 stands;
  needs_none = λ bytes at. three_need_none (slot_part least greatest small) ballot_part value_part make_vote bytes at;
}

window_small : (start : ℕ) → window_end start < 2 ^ 32
window_small start = omega arith

-- a vote of the window, from what was read, and back
vote_is : (start least : ℕ) (vote : Vote) → start ≤ least → IsVoteFrom least (window_end start) vote → IsVote start vote
vote_is start least vote le is = record {
  start = omega (arith, is.0);
  window = omega (arith, is.0);
  slot = omega (arith, is.0);
  ballot = is.1;
  value = is.2;
}

vote_from : (start least : ℕ) (vote : Vote) → least ≤ vote.slot.0 → IsVote start vote → IsVoteFrom least (window_end start) vote
vote_from start least vote le is = ((le, omega (arith, is.window, is.slot)), is.ballot, is.value)

-- votes that were read
record VotesTaken (count start least : ℕ) (bytes : List ℕ) (at : ℕ) (found : List Vote × ℕ) : Type 0 where
  size : length found.0 ≡ count
  each : AllByRecursion (IsVote start) found.0
  rise : Rise least found.0
  stands : StandsAt bytes at (flat_map vote_spelling found.0) found.1

votes_take : (count start least : ℕ) (bytes : List ℕ) (at : ℕ) (x : List Vote × ℕ) → start ≤ least → IsBytes bytes → at ≤ length bytes → votes_at count least (window_end start) bytes at ≡ Ok x
    → VotesTaken count start least bytes at x
unfolding votes_at
votes_take zero start least bytes at x le fits within e =
    subst (VotesTaken 0 start least bytes at) (ok_is ([], at) x e)
    (record { size = refl; each = tt; rise = tt; stands = record { parts = refl; end = omega arith; within = within } })
votes_take (suc count) start least bytes at x le fits within e =
    let a = bind_ok (vote_at least (window_end start) bytes at) (λ first. votes_at count (first.0.slot.0 + 1) (window_end start) bytes first.1 >>= λ others. Ok (first.0 ∷ others.0, others.1)) x e in
    let b = bind_ok (votes_at count (a.0.0.slot.0 + 1) (window_end start) bytes a.0.1) (λ others. Ok (a.0.0 ∷ others.0, others.1)) x a.2 in
    let part = vote_part least (window_end start) (window_small start) in
    let first = part.takes bytes at a.0 fits within a.1 in
    let le_next : start ≤ a.0.0.slot.0 + 1 = omega (arith, first.0.0) in
    let others = votes_take count start (a.0.0.slot.0 + 1) bytes a.0.1 b.0 le_next fits first.1.within b.1 in
    let both = StandsAt-then bytes at a.0.1 b.0.1 (vote_spelling a.0.0) (flat_map vote_spelling b.0.0) first.1 others.stands in
    let made : List Vote × ℕ = (a.0.0 ∷ b.0.0, b.0.1) in
    let taken : VotesTaken (suc count) start least bytes at made = record {
      size = ap suc others.size;
      each = (vote_is start least a.0.0 le first.0, others.each);
      rise = (first.0.0.0, others.rise);
      stands = rw flat_map-cons both;
    } in
    subst (VotesTaken (suc count) start least bytes at) (ok_is made x b.2) taken

votes_again : (votes : List Vote) (start least : ℕ) (bytes : List ℕ) (at next : ℕ) → AllByRecursion (IsVote start) votes → Rise least votes → StandsAt bytes at (flat_map vote_spelling votes) next
    → votes_at (length votes) least (window_end start) bytes at ≡ Ok (votes, next)
unfolding votes_at
votes_again [] start least bytes at next each rise stands =
    let end : at ≡ next = omega (arith, stands.end) in
    ap (λ (k : ℕ). given ([], k)) end
votes_again (vote ∷ votes) start least bytes at next each rise stands =
    let both : StandsAt bytes at (vote_spelling vote ++ flat_map vote_spelling votes) next = subst (λ (l : List ℕ). StandsAt bytes at l next) (flat_map-cons vote_spelling vote votes) stands in
    let part = vote_part least (window_end start) (window_small start) in
    let first = part.again bytes at (at + length (vote_spelling vote)) vote (vote_from start least vote rise.0 each.0) (StandsAt-front bytes at next (vote_spelling vote) (flat_map vote_spelling votes) both) in
    let others = votes_again votes start (vote.slot.0 + 1) bytes (at + length (vote_spelling vote)) next each.1 rise.1 (StandsAt-back bytes at next (vote_spelling vote) (flat_map vote_spelling votes) both) in
    rw (first, others) refl

votes_need_none : (count least greatest : ℕ) (bytes : List ℕ) (at : ℕ) → greatest < 2 ^ 32 → NeedsNone (votes_at count least greatest bytes at)
unfolding votes_at
votes_need_none zero least greatest bytes at small = gives _
votes_need_none (suc count) least greatest bytes at small =
    let part = vote_part least greatest small in
    bind _ _ (part.needs_none bytes at) (λ first. bind _ _ (votes_need_none count (first.0.slot.0 + 1) greatest bytes first.1 small) (λ others. gives _))

-- the votes of a window, with their count
pub reported_part : (start : ℕ) → IsPart (reported_at start) (AreVotes start) votes_spelling
unfolding reported_at
reported_part start = record {
  takes = λ bytes at x fits within e.
      let a = bind_ok (u8_up_to 64 bytes at) (λ count. votes_at count.0 start (window_end start) bytes count.1) x e in
      let count = u8_up_to_part 64 (omega arith) in
      let first = count.takes bytes at a.0 fits within a.1 in
      let t = votes_take a.0.0 start start bytes a.0.1 x (omega arith) fits first.1.within a.2 in
      let both : StandsAt bytes at (a.0.0 ∷ flat_map vote_spelling x.0) x.1 = StandsAt-then bytes at a.0.1 x.1 (a.0.0 ∷ []) (flat_map vote_spelling x.0) first.1 t.stands in
      (record { few = omega (arith, t.size, first.0); each = t.each; rise = t.rise }, subst (λ (n : ℕ). StandsAt bytes at (n ∷ flat_map vote_spelling x.0) x.1) (sym t.size) both);
  again = λ bytes at next votes are stands.
      let count = u8_up_to_part 64 (omega arith) in
      rw (
        count.again bytes at (at + 1) (length votes) are.few (StandsAt-front bytes at next (length votes ∷ []) (flat_map vote_spelling votes) stands),
        votes_again votes start start bytes (at + 1) next are.each are.rise (StandsAt-back bytes at next (length votes ∷ []) (flat_map vote_spelling votes) stands),
      ) refl;
  needs_none = λ bytes at.
      let count = u8_up_to_part 64 (omega arith) in
      bind _ _ (count.needs_none bytes at) (λ found. votes_need_none found.0 start (window_end start) bytes found.1 (window_small start));
}
