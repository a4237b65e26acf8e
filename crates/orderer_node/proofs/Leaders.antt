-- A fine leader stays fine, and what it says next has a spelling.
use Rattle.std.proofs.Common.{◌≡◌, ℕ, zero, suc, ◌+◌, ◌-◌, ◌<◌, ◌≤◌, Bool, true, false, cond, ◌==◌, ◌&&◌, nat_le, nat_lt, List, [], ◌∷◌, drop, replicate, Option, Some, None, is_some, refl, subst, arith}
use Rattle.std.specs.Prelude.{slice_index_or}
use Rattle.std.specs.Option.{option_map}
use Rattle.std.specs.List.{AllByRecursion, list_any}
use Rattle.std.proofs.lemmas.Bool.{cond_both}
use borrow.Author.Tests.{leb-false}
use Rattle.log_base.specs.ClusterShape.{Shape}
use Rattle.message_frame.specs.declared.messages.Vote.{Vote}
use Rattle.log_base.specs.declared.numbers.Ballot.{Ballot}
use Rattle.message_frame.specs.declared.messages.Message.TheVariants.{Prepare, Accept}
use Rattle.message_frame.specs.Spelling.{IsBallot, IsMessage}
use Rattle.record_frame.specs.declared.values.Value.{Value}
use Rattle.paxos_model.specs.Leader.{Advanced, Leader, Nothing, Pending, Window, advance, bound_value, drop_pending, is_of_slot, leader_from, merge, next_of, next_unless, no_votes, picked, propose, slot_limit, with_acceptance, with_promise, without_slot}
use Rattle.paxos_model.specs.Majority.{count_marks, most}
use Rattle.paxos_model.specs.Votes.{greater, greatest, keep}
use Rattle.paxos_leader.specs.Leading.{Answered, acceptance_for, acceptance_to, again_by, again_pending, as_next, counted, led_ballot, next_to, not_pending, promise_to, to_ballot, to_slot}
use Rattle.paxos_leader.specs.declared.answers.Again.{Again}
use Rattle.paxos_leader.specs.declared.answers.Again.TheVariants.{Prepare as PrepareAgain, Accept as AcceptAgain, Nothing as Silent}
use Rattle.paxos_leader.specs.declared.answers.Heard.{Heard}
use Rattle.paxos_leader.specs.declared.answers.Heard.TheVariants.{Counted as Heard_now, Other as Unheard}
use Rattle.paxos_leader.specs.declared.answers.Counting.{Counting}
use Rattle.paxos_leader.specs.declared.answers.Counting.TheVariants.{Chosen, NotYet}
use Rattle.orderer_node.specs.Announcing.{IsSaid, next_said}
use Rattle.orderer_node.specs.Fine.{IsFine, IsFineBest, IsFineLeader, IsFineLeaderOr, IsFineOr, IsFinePending, IsFinePendingOr, IsFineVote}
use Rattle.orderer_node.proofs.Values.{noop_fine}

module _ (config : Shape) where
  -- ---- the votes of a window

  none_fine : (count : ℕ) → AllByRecursion (IsFineBest config) (replicate count None)
  none_fine zero = tt
  none_fine (suc count) = (tt, none_fine count)

  no_votes_fine : AllByRecursion (IsFineBest config) no_votes
  unfolding no_votes
  no_votes_fine = none_fine 64

  best_at : (best : List (Option Vote)) (place : ℕ) → AllByRecursion (IsFineBest config) best → IsFineBest config (slice_index_or best place None)
  best_at [] place h = tt
  best_at (vote ∷ rest) zero h = h.0
  best_at (vote ∷ rest) (suc place) h = best_at rest place h.1

  greater_fine : (old new : Vote) → IsFineVote config old → IsFineVote config new → IsFineVote config (greater old new)
  greater_fine old new h k = cond_both (nat_lt old.ballot.0 new.ballot.0) new old (IsFineVote config) (λ e. k) (λ e. h)

  keep_fine : (old new : Option Vote) → IsFineBest config old → IsFineBest config new → IsFineBest config (keep old new)
  keep_fine None new h k = k
  keep_fine (Some old) None h k = h
  keep_fine (Some old) (Some new) h k = greater_fine old new h k

  tested_fine : (b : Bool) (vote : Vote) → IsFineVote config vote → IsFineBest config (cond b (Some vote) None)
  tested_fine true vote h = h
  tested_fine false vote h = tt

  greatest_fine : (test : Vote → Bool) (votes : List Vote) → AllByRecursion (IsFineVote config) votes → IsFineBest config (greatest test votes)
  greatest_fine test [] h = tt
  greatest_fine test (vote ∷ votes) h =
      keep_fine (cond (test vote) (Some vote) None) (greatest test votes) (tested_fine (test vote) vote h.0) (greatest_fine test votes h.1)

  merge_fine : (slot : ℕ) (best : List (Option Vote)) (votes : List Vote) → AllByRecursion (IsFineBest config) best → AllByRecursion (IsFineVote config) votes
      → AllByRecursion (IsFineBest config) (merge slot best votes)
  unfolding merge
  merge_fine slot [] votes h k = tt
  merge_fine slot (vote ∷ rest) votes h k =
      (keep_fine vote (greatest (is_of_slot slot) votes) h.0 (greatest_fine (is_of_slot slot) votes k), merge_fine (suc slot) rest votes h.1 k)

  module _ (known : ℕ) where
    -- ---- what a leader does next

    pub fresh_fine : (ballot slot : ℕ) → IsBallot ballot → slot ≤ 16384 → IsFineLeader config known (leader_from ballot slot)
    fresh_fine ballot slot is within = record { ballot = is; window = within; best = no_votes_fine; pending = tt }

    pub promise_fine : (leader : Leader) (who : ℕ) (votes : List Vote) → IsFineLeader config known leader → AllByRecursion (IsFineVote config) votes
        → IsFineLeader config known (with_promise leader who votes)
    promise_fine leader who votes h k = record {
      ballot = h.ballot;
      window = h.window;
      best = merge_fine leader.window leader.best votes h.best k;
      pending = h.pending;
    }

    pub promised_fine : (orderers : ℕ) (lead : Option Leader) (ballot slot who : ℕ) (votes : List Vote) → IsFineLeaderOr config known lead
        → AllByRecursion (IsFineVote config) votes → IsFineLeaderOr config known (promise_to orderers lead ballot slot who votes).leader
    promised_fine orderers None ballot slot who votes h k = tt
    promised_fine orderers (Some leader) ballot slot who votes h k = at ((leader.ballot == ballot) && (leader.window == slot))
      where
        at : (b : Bool) → IsFineLeaderOr config known (cond {A = Answered Heard} b (record { answer = Heard_now (count_marks orderers (with_promise leader who votes).answered); leader = Some (with_promise leader who votes) }) (record { answer = Unheard; leader = Some leader })).leader
        at true = promise_fine leader who votes h k
        at false = h

    -- the leader is fine, and what it says with its ballot has a spelling
    pub record IsFineStep (ballot : ℕ) (step : Advanced) : Type 0 where
      pub leader : IsFineLeader config known step.leader
      pub said : IsSaid (next_said (to_ballot ballot) (as_next step.next))

    bound_fine : (vote : Option Vote) (later : Bool) (wish : Option Value) → IsFineBest config vote → IsFineOr config wish → IsFineOr config (bound_value vote later wish)
    bound_fine (Some vote) later wish h w = h
    bound_fine None true wish h w = noop_fine config
    bound_fine None false wish h w = w

    propose_fine : (leader : Leader) (value : Option Value) → known < 16384 → IsFineLeader config known leader → IsFineOr config value → IsFineStep leader.ballot (propose leader known value)
    propose_fine leader None within h w = record { leader = h; said = tt }
    propose_fine leader (Some value) within h w = record {
      leader = record {
        ballot = h.ballot;
        window = h.window;
        best = h.best;
        pending = record { next = refl; within = within; value = w };
      };
      said = (h.ballot, omega arith, w.spelled);
    }

    waits : (leader : Leader) → IsFineLeader config known leader → IsFineStep leader.ballot (record { leader = leader; next = Nothing })
    waits leader h = record { leader = h; said = tt }

    next_fine : (leader : Leader) (wish : Option Value) → known ≤ 16384 → IsFineLeader config known leader → IsFineOr config wish → IsFineStep leader.ballot (next_of leader known wish)
    next_fine leader wish few h w =
        cond_both (nat_le slot_limit known) (record { leader = leader; next = Nothing }) rest (IsFineStep leader.ballot)
        (λ e. waits leader h)
        (λ e. let within : known < 16384 = leb-false 16384 known e in
        cond_both (nat_le (leader.window + 64) known) (record { leader = leader_from leader.ballot known; next = Window known })
        (propose leader known (picked leader.best (known - leader.window) wish)) (IsFineStep leader.ballot)
        (λ f. record { leader = fresh_fine leader.ballot known h.ballot few; said = (h.ballot, few) })
        (λ f. propose_fine leader (picked leader.best (known - leader.window) wish) within h
        (bound_fine (slice_index_or leader.best (known - leader.window) None) (list_any is_some (drop (suc (known - leader.window)) leader.best)) wish
        (best_at leader.best (known - leader.window) h.best) w)))
      where
        rest : Advanced
        rest = cond (nat_le (leader.window + 64) known) (record { leader = leader_from leader.ballot known; next = Window known })
            (propose leader known (picked leader.best (known - leader.window) wish))

    unless_fine : (pending : Option Pending) (leader : Leader) (wish : Option Value) → known ≤ 16384 → IsFineLeader config known leader → IsFineOr config wish
        → IsFineStep leader.ballot (next_unless pending leader known wish)
    unless_fine None leader wish few h w = next_fine leader wish few h w
    unless_fine (Some pending) leader wish few h w = waits leader h

    pub advance_fine : (orderers : ℕ) (leader : Leader) (wish : Option Value) → known ≤ 16384 → IsFineLeader config known leader → IsFineOr config wish
        → IsFineStep leader.ballot (advance orderers leader known wish)
    unfolding advance
    advance_fine orderers leader wish few h w =
        cond_both (most orderers leader.answered) (next_unless leader.pending leader known wish) (record { leader = leader; next = Nothing }) (IsFineStep leader.ballot)
        (λ e. unless_fine leader.pending leader wish few h w) (λ e. waits leader h)

    -- ---- an acceptance

    dropped_fine : (pending : Option Pending) (slot : ℕ) → IsFinePendingOr config known pending → IsFinePendingOr config known (drop_pending pending slot)
    dropped_fine None slot h = tt
    dropped_fine (Some pending) slot h = cond_both (pending.slot == slot) None (Some pending) (IsFinePendingOr config known) (λ e. tt) (λ e. h)

    -- the leader is fine, and so is a value that is chosen
    pub record IsFineAnswer (answered : Answered Counting) : Type 0 where
      pub leader : IsFineLeaderOr config known answered.leader
      pub chosen : (value : Value) → answered.answer ≡ Chosen value → IsFine config value

    unchosen : (lead : Option Leader) → IsFineLeaderOr config known lead → IsFineAnswer (not_pending lead)
    unchosen lead h = record { leader = h; chosen = λ value e. absurd cc }

    counted_fine : (orderers : ℕ) (leader : Leader) (pending : Pending) → IsFineLeader config known leader → IsFinePending config known pending
        → IsFineAnswer (counted orderers leader pending)
    counted_fine orderers leader pending h p =
        cond_both (most orderers pending.accepted) (record { answer = Chosen pending.value; leader = Some (without_slot leader pending.slot) })
        (record { answer = NotYet (count_marks orderers pending.accepted); leader = Some (record leader { pending = Some pending }) }) (IsFineAnswer)
        (λ e. record {
          leader = record { ballot = h.ballot; window = h.window; best = h.best; pending = dropped_fine leader.pending pending.slot h.pending };
          chosen = λ value same. let q : pending.value ≡ value = cc in subst (IsFine config) q p.value;
        })
        (λ e. record {
          leader = record { ballot = h.ballot; window = h.window; best = h.best; pending = p };
          chosen = λ value same. absurd cc;
        })

    for_fine : (orderers slot who : ℕ) (leader : Leader) (pending : Option Pending) → IsFineLeader config known leader → IsFinePendingOr config known pending
        → IsFineAnswer (acceptance_for orderers leader pending slot who)
    for_fine orderers slot who leader None h p = unchosen (Some leader) h
    for_fine orderers slot who leader (Some pending) h p =
        cond_both (pending.slot == slot) (counted orderers leader (with_acceptance pending who)) (not_pending (Some leader)) (IsFineAnswer)
        (λ e. counted_fine orderers leader (with_acceptance pending who) h (record { next = p.next; within = p.within; value = p.value }))
        (λ e. unchosen (Some leader) h)

    pub acceptance_fine : (orderers : ℕ) (lead : Option Leader) (ballot slot who : ℕ) → IsFineLeaderOr config known lead
        → IsFineAnswer (acceptance_to orderers lead ballot slot who)
    acceptance_fine orderers None ballot slot who h = unchosen None tt
    acceptance_fine orderers (Some leader) ballot slot who h =
        cond_both (leader.ballot == ballot) (acceptance_for orderers leader leader.pending slot who) (not_pending (Some leader)) (IsFineAnswer)
        (λ e. for_fine orderers slot who leader leader.pending h h.pending) (λ e. unchosen (Some leader) h)

    -- the next step of a leader, if there is one
    pub next_to_fine : (orderers : ℕ) (lead : Option Leader) (ballot : Ballot) (wish : Option Value) → known ≤ 16384 → IsFineLeaderOr config known lead → IsFineOr config wish
        → option_map led_ballot lead ≡ Some ballot
        → IsFineLeaderOr config known (next_to orderers lead known wish).leader × IsSaid (next_said ballot (next_to orderers lead known wish).answer)
    next_to_fine orderers None ballot wish few h w e = absurd cc
    next_to_fine orderers (Some leader) ballot wish few h w e =
        let same : to_ballot leader.ballot ≡ ballot = cc in
        let step = advance_fine orderers leader wish few h w in
        (step.leader, subst (λ (b : Ballot). IsSaid (next_said b (as_next (advance orderers leader known wish).next))) same step.said)

    -- what is said again has a spelling
    abbrev pub IsAgain : Again → Type 0
    IsAgain (PrepareAgain ballot slot) = IsMessage (Prepare ballot slot)
    IsAgain (AcceptAgain ballot slot value) = IsMessage (Accept ballot slot value)
    IsAgain Silent = Unit {0}

    again_pending_fine : (leader : Leader) (pending : Option Pending) → IsBallot leader.ballot → IsFinePendingOr config known pending → IsAgain (again_pending leader.ballot pending)
    again_pending_fine leader None is h = tt
    again_pending_fine leader (Some pending) is h = (is, (let k = h.within in omega arith), h.value.spelled)

    pub again_fine : (orderers : ℕ) (lead : Option Leader) → IsFineLeaderOr config known lead → IsAgain (again_by orderers lead)
    again_fine orderers None h = tt
    again_fine orderers (Some leader) h =
        cond_both (most orderers leader.answered) (again_pending leader.ballot leader.pending) (PrepareAgain (to_ballot leader.ballot) (to_slot leader.window)) IsAgain
        (λ e. again_pending_fine leader leader.pending h.ballot h.pending) (λ e. (h.ballot, h.window))
