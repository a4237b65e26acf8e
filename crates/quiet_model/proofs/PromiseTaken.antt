-- A promise that is delivered to the leader of a decision: it counts where the leader renews its window.
use Rattle.std.proofs.Common.{◌≡◌, ◌<◌, ◌≤◌, ℕ, suc, Bool, true, ◌==◌, List, [], ◌∷◌, length, Option, Some, None, refl, sym, ap, subst, inl, inr, arith, append-nil, eq-eqb, ◌∙◌}
use Rattle.std.proofs.lemmas.Bool.{and_from, and_right, cond-false, cond-true, ne_eqb}
use Rattle.std.proofs.lemmas.List.{length-set}
use Rattle.reply_frame.specs.declared.replies.Reply.{Nothing as Silence}
use Rattle.history_frame.specs.declared.events.Sent.{Sent}
use Rattle.history_frame.specs.declared.inputs.Input.TheVariants.{Deliver}
use Rattle.log_base.specs.declared.numbers.Ballot.{Ballot}
use Rattle.log_base.specs.declared.numbers.NodeId.{NodeId}
use Rattle.log_base.specs.declared.numbers.Slot.{Slot}
use Rattle.message_frame.specs.declared.messages.Message.TheVariants.{Promised}
use Rattle.message_frame.specs.declared.messages.Vote.{Vote}
use Rattle.node_table.specs.declared.role.Role.{Role}
use Rattle.node_table.specs.Numbering.{IsRole, node_of}
use Rattle.paxos_model.specs.Leader.{Leader, Nothing, awaits_promise, merge, no_votes, with_promise}
use Rattle.paxos_model.specs.Learner.{Wish, left_wishes, wish_of}
use Rattle.paxos_model.specs.Majority.{is_marked, marked}
use Rattle.record_frame.specs.declared.values.Lengths.{Lengths}
use Rattle.record_frame.specs.declared.values.Value.{Value}
use Rattle.node_model.specs.NodeState.{NodeState, Ordering}
use Rattle.node_model.specs.OrdererNode.{Change, Node}
use Rattle.node_model.specs.OrdererRow.{go_on, on_promised, promised_to, quiet, told, with_leader}
use Rattle.quiet_model.specs.Settled.{all_lengths}
use Rattle.quiet_model.proofs.Decision.{Decision, Counts, Marked, Accepts_it, Is_asked, Learns, Knows, Is_told, Renews, Promised_it, Promises_it, Is_prepared, IsReady, In_window, Renewing, Stage, Proposed, Decided, IsDecision, IsDone, IsLearner, IsVoter, count_in, slot_of, values_of}
use Rattle.quiet_model.proofs.LeaderTaken.{LeaderTaken, no_wishes, stays_at, voter_at}
use Rattle.quiet_model.proofs.Leading.{goes_on_as, merges_none, renews, rests}
use Rattle.quiet_model.proofs.Many.{now_marked, still_marked}
use Rattle.quiet_model.proofs.Outcomes.{orderer_takes}
use Rattle.quiet_model.proofs.VoteTaken.{longer}

module _ (d : Decision) (can : IsDecision d) (nodes : ℕ → NodeState) (rest : List Sent) (to : NodeId) (node : Node) (h : IsVoter d 0 node) (place index : ℕ) where
  module _ (ballot : Ballot) (slot : Slot) (who : ℕ) (reported : List Vote) (e : ballot.0 ≡ d.agreed.ballot) (f : slot.0 ≡ suc (slot_of d)) (below : who < d.config.orderers) (none : reported ≡ []) where
    abbrev y : Sent
    y = record { to = to; message = Promised ballot slot who reported }

    -- a leader that has its window does not wait for it
    not_awaited : (leader : Leader) → h.orderer.leader ≡ Some leader → leader.window ≤ slot_of d → on_promised d.config h.orderer ballot.0 slot.0 who reported ≡ quiet h.orderer
    unfolding on_promised
    not_awaited leader leads low =
        ap (λ (l : Option Leader). promised_to d.config h.orderer l ballot.0 slot.0 who reported) leads
        ∙ cond-false (awaits_promise leader ballot.0 slot.0) (go_on d.config h.orderer (with_promise leader who reported) []) (quiet h.orderer)
        (and_right (leader.ballot == ballot.0) (leader.window == slot.0) (ne_eqb leader.window slot.0 (λ same. absurd (omega arith))))

    module _ (nothing : on_promised d.config h.orderer ballot.0 slot.0 who reported ≡ quiet h.orderer)
        (stage : (later : ℕ → NodeState) → ((role : Role) → IsRole d.config role → IsLearner role → later (node_of d.config role) ≡ nodes (node_of d.config role)) → Stage d later rest h.orderer) where
      passed_over : LeaderTaken d nodes rest y h.orderer node place index
      passed_over = record {
        made = record { state = Ordering (stays_at node h.orderer); outputs = []; reply = Silence };
        rule = orderer_takes d.config 0 can.some node h.orderer (quiet h.orderer) h.runs (Deliver place index (Some (Promised ballot slot who reported))) refl (ap Some nothing);
        after = stays_at node h.orderer;
        state = refl;
        voter = voter_at d node h h.orderer h.knows;
        letters = tt;
        stage = λ later same. subst (λ (queue : List Sent). Stage d later queue h.orderer) (sym (append-nil rest)) (stage later same);
      }

    counts_still : (marks : List Bool) (j : ℕ) → Counts d (y ∷ rest) marks j → Counts d rest marks j
    counts_still marks j (Marked m) = Marked m
    counts_still marks j (Accepts_it (inl other)) = absurd other
    counts_still marks j (Accepts_it (inr w)) = Accepts_it w
    counts_still marks j (Is_asked (inl asked)) = absurd asked.1
    counts_still marks j (Is_asked (inr w)) = Is_asked w

    learns_still : (later : ℕ → NodeState) → ((role : Role) → IsRole d.config role → IsLearner role → later (node_of d.config role) ≡ nodes (node_of d.config role))
        → (role : Role) → IsRole d.config role → IsLearner role → Learns d nodes (y ∷ rest) role → Learns d later rest role
    learns_still later same role is l (Knows k) = Knows (ap (λ (state : NodeState). count_in state) (same role is l) ∙ k)
    learns_still later same role is l (Is_told (inl told_it)) = absurd told_it.1
    learns_still later same role is l (Is_told (inr w)) = Is_told w

    -- the promise is counted
    module _ (p : IsDone d h.orderer) (learns : (role : Role) → IsRole d.config role → IsLearner role → Learns d nodes (y ∷ rest) role)
        (window : p.leader.window ≡ suc (slot_of d)) (size : length p.leader.answered ≡ 7) (renews : (j : ℕ) → j < d.config.orderers → Renews d (y ∷ rest) p.leader.answered j) where
      abbrev promised_leader : Leader
      promised_leader = with_promise p.leader who reported

      best_is : (with_promise p.leader who reported).best ≡ no_votes
      best_is =
          ap (λ (votes : List Vote). merge p.leader.window p.leader.best votes) none
          ∙ ap (λ (best : List (Option Vote)). merge p.leader.window best []) p.none_reported
          ∙ merges_none p.leader.window

      room : who < length p.leader.answered
      room = omega (arith, size, can.range.orderers)

      still_no_wish : wish_of d.config.replicas h.orderer.known h.orderer.heard h.orderer.wishes ≡ None
      still_no_wish =
          ap (λ (values : List Value). wish_of d.config.replicas values h.orderer.heard h.orderer.wishes) p.knows
          ∙ ap (λ (heard : Lengths). wish_of d.config.replicas (values_of d) heard h.orderer.wishes) p.told
          ∙ ap (λ (wishes : List Wish). wish_of d.config.replicas (values_of d) (all_lengths d.config d.lists) wishes) (p.no_wish ∙ sym left)
          ∙ can.next.last
        where
          left : left_wishes d.agreed.wishes (slot_of d) d.value ≡ []
          left = no_wishes d.config.replicas (values_of d) (all_lengths d.config d.lists) (left_wishes d.agreed.wishes (slot_of d) d.value) can.next.last

      known_is : length h.orderer.known ≡ suc (slot_of d)
      known_is = ap length p.knows ∙ longer d

      abbrev counted_change : Change
      counted_change = told (with_leader h.orderer (Some promised_leader)) []

      promise_row : on_promised d.config h.orderer ballot.0 slot.0 who reported ≡ counted_change
      unfolding on_promised
      promise_row =
          ap (λ (l : Option Leader). promised_to d.config h.orderer l ballot.0 slot.0 who reported) p.leads
          ∙ cond-true (awaits_promise p.leader ballot.0 slot.0) (go_on d.config h.orderer promised_leader []) (quiet h.orderer)
          (and_from (p.leader.ballot == ballot.0) (p.leader.window == slot.0) (eq-eqb p.leader.ballot ballot.0 (p.owns ∙ sym e)) (eq-eqb p.leader.window slot.0 (window ∙ sym f)))
          ∙ goes_on_as d.config h.orderer promised_leader [] None (record { leader = promised_leader; next = Nothing }) still_no_wish
          (rests d.config.orderers promised_leader (length h.orderer.known) p.none_pending best_is (λ few. let inside = p.within (omega (arith, few, known_is)) in omega (arith, known_is)))

      abbrev done_on : IsDone d (with_leader h.orderer (Some promised_leader))
      done_on = record {
        knows = p.knows;
        no_wish = p.no_wish;
        told = p.told;
        heard = p.heard;
        leader = promised_leader;
        leads = refl;
        owns = p.owns;
        none_reported = best_is;
        none_pending = p.none_pending;
        begun = p.begun;
        within = p.within;
      }

      renews_on : (j : ℕ) → Renews d (y ∷ rest) p.leader.answered j → Renews d rest (marked p.leader.answered who) j
      renews_on j (Promised_it m) = Promised_it (still_marked p.leader.answered who room j m)
      renews_on j (Promises_it (inl same)) = Promised_it (subst (λ (n : ℕ). is_marked (marked p.leader.answered who) n ≡ true) same (now_marked p.leader.answered who room))
      renews_on j (Promises_it (inr w)) = Promises_it w
      renews_on j (Is_prepared (inl asked)) = absurd asked.1
      renews_on j (Is_prepared (inr w)) = Is_prepared w

      promise_counted : LeaderTaken d nodes rest y h.orderer node place index
      promise_counted = record {
        made = record { state = Ordering (stays_at node (with_leader h.orderer (Some promised_leader))); outputs = []; reply = Silence };
        rule = orderer_takes d.config 0 can.some node h.orderer counted_change h.runs (Deliver place index (Some (Promised ballot slot who reported))) refl (ap Some promise_row);
        after = stays_at node (with_leader h.orderer (Some promised_leader));
        state = refl;
        voter = voter_at d node h (with_leader h.orderer (Some promised_leader)) h.knows;
        letters = tt;
        stage = λ later same.
            subst (λ (queue : List Sent). Stage d later queue (with_leader h.orderer (Some promised_leader))) (sym (append-nil rest))
            (Decided done_on (λ role is l. learns_still later same role is l (learns role is l))
            (Renewing window (length-set p.leader.answered who true ∙ size) (λ j b. renews_on j (renews j b))));
      }

    promised_ready : (p : IsDone d h.orderer) → ((role : Role) → IsRole d.config role → IsLearner role → Learns d nodes (y ∷ rest) role) → IsReady d (y ∷ rest) p.leader
        → LeaderTaken d nodes rest y h.orderer node place index
    promised_ready p learns (In_window low many) =
        passed_over (not_awaited p.leader p.leads low)
        (λ later same. Decided p (λ role is l. learns_still later same role is l (learns role is l)) (In_window low many))
    promised_ready p learns (Renewing window size renews) = promise_counted p learns window size renews

    pub promised_taken : Stage d nodes (y ∷ rest) h.orderer → LeaderTaken d nodes rest y h.orderer node place index
    promised_taken (Proposed p counts) =
        passed_over (not_awaited p.leader p.leads p.begun)
        (λ later same. Proposed p (λ j b. counts_still p.pending.accepted j (counts j b)))
    promised_taken (Decided p learns ready) = promised_ready p learns ready
