-- An acceptance that is delivered to the leader of a decision: it counts, and the most decide.
use Rattle.std.proofs.Common.{◌≡◌, ◌⊎◌, ◌+◌, ◌<◌, ◌≤◌, ℕ, suc, Bool, true, false, ◌==◌, List, [], ◌∷◌, ◌++◌, length, Option, Some, None, refl, sym, ap, subst, inl, inr, ⊎_elim, arith, append-nil, eq-eqb, ◌∙◌}
use Rattle.std.proofs.lemmas.Bool.{cases_lt, cond-false, cond-true}
use Rattle.std.proofs.lemmas.List.{length-set}
use Rattle.reply_frame.specs.declared.replies.Reply.{Nothing as Silence}
use Rattle.history_frame.specs.declared.events.Sent.{Sent}
use Rattle.history_frame.specs.declared.inputs.Input.TheVariants.{Deliver}
use Rattle.history_frame.specs.declared.inputs.Mark.TheVariants.{Done}
use Rattle.log_base.specs.declared.numbers.Ballot.{Ballot}
use Rattle.log_base.specs.declared.numbers.NodeId.{NodeId}
use Rattle.log_base.specs.declared.numbers.Slot.{Slot}
use Rattle.message_frame.specs.declared.messages.Message.TheVariants.{Accepted}
use Rattle.node_table.specs.declared.role.Role.{Role}
use Rattle.node_table.specs.Numbering.{IsRole, node_of, orderer_node}
use Rattle.paxos_model.specs.Leader.{Leader, Next, Window, Nothing, Pending, advance, drop_pending, leader_from, no_votes, slot_limit, with_acceptance, without_slot}
use Rattle.paxos_model.specs.Learner.{Wish, learn, left_wishes, wish_of}
use Rattle.paxos_model.specs.Majority.{is_marked, marked, most}
use Rattle.paxos_model.specs.Votes.{window_size}
use Rattle.record_frame.specs.declared.values.Lengths.{Lengths}
use Rattle.record_frame.specs.declared.values.Value.{Value}
use Rattle.node_model.specs.Marks.{Running}
use Rattle.node_model.specs.Messages.{decide_message, prepare_message}
use Rattle.node_model.specs.Nodes.{to_learners, to_orderers}
use Rattle.node_model.specs.NodeState.{NodeOutcome, NodeState, Ordering, node_outcome}
use Rattle.node_model.specs.OrdererNode.{Change, Node, Orderer as OrdererMemory}
use Rattle.node_model.specs.OrdererRow.{accepted_for, accepted_to, counted, decided_by, go_on, leader_after, learned, next_letters, on_accepted, quiet, told, with_leader}
use Rattle.node_model.proofs.Letters.{all_append}
use Rattle.quiet_model.specs.Settled.{IsHeardCut, all_lengths}
use Rattle.quiet_model.proofs.Decision.{Decision, Counts, Marked, Accepts_it, Is_asked, Learns, Knows, Is_told, Renews, Promised_it, Promises_it, Is_prepared, IsReady, In_window, Renewing, Stage, Proposed, Decided, AreVotingLetters, DecideTo, IsDecision, IsDone, IsLearner, IsProposing, IsVoter, IsVotingLetter, PrepareTo, count_in, slot_of, values_of}
use Rattle.quiet_model.proofs.Leading.{goes_on_as, marks_size, renews, rests}
use Rattle.quiet_model.proofs.Many.{each_learner, each_orderer, now_marked, still_marked, to_each, to_each_learner}
use Rattle.quiet_model.proofs.Outcomes.{orderer_takes}
use Rattle.quiet_model.proofs.VoteTaken.{learn_once, longer}
use Rattle.quiet_model.proofs.Waiting.{waits_left, waits_right}

-- ---- the leader after a letter

-- What a letter makes of the leader. Nodes that learn stay as they are.
pub record LeaderTaken (d : Decision) (nodes : ℕ → NodeState) (rest : List Sent) (x : Sent) (o : OrdererMemory) (node : Node) (place index : ℕ) : Type 0 where
  pub made : NodeOutcome
  pub rule : node_outcome d.config (orderer_node d.config 0) (Ordering node) (Deliver place index (Some x.message)) Done ≡ Some made
  pub after : Node
  pub state : made.state ≡ Ordering after
  pub voter : IsVoter d 0 after
  pub letters : AreVotingLetters d made.outputs
  pub stage : (later : ℕ → NodeState) → ((role : Role) → IsRole d.config role → IsLearner role → later (node_of d.config role) ≡ nodes (node_of d.config role))
      → Stage d later (rest ++ made.outputs) voter.orderer

pub no_wishes : (replicas : ℕ) (values : List Value) (heard : Lengths) (wishes : List Wish) → wish_of replicas values heard wishes ≡ None → wishes ≡ []
no_wishes replicas values heard [] e = refl
no_wishes replicas values heard (wish ∷ wishes) e = absurd (cc)

-- a leader whose list stays, with some memory
abbrev pub stays_at : Node → OrdererMemory → Node
stays_at node o = record { durable = node.durable; mode = Running o }

abbrev pub voter_at : (d : Decision) (node : Node) → IsVoter d 0 node → (o : OrdererMemory) → (o.known ≡ d.agreed.values) ⊎ (o.known ≡ values_of d) → IsVoter d 0 (stays_at node o)
voter_at d node h o knows = record { orderer = o; runs = refl; cast = h.cast; knows = knows; follows = tt }

module _ (d : Decision) (can : IsDecision d) (nodes : ℕ → NodeState) (rest : List Sent) (to : NodeId) (node : Node) (h : IsVoter d 0 node) (place index : ℕ) where
  -- ---- an acceptance

  module _ (ballot : Ballot) (slot : Slot) (who : ℕ) (e : ballot.0 ≡ d.agreed.ballot) (f : slot.0 ≡ slot_of d) (below : who < d.config.orderers) where
    abbrev x : Sent
    x = record { to = to; message = Accepted ballot slot who }

    module _ (p : IsProposing d h.orderer) (counts : (j : ℕ) → j < d.config.orderers → Counts d (x ∷ rest) p.pending.accepted j) where
      abbrev new_pending : Pending
      new_pending = with_acceptance p.pending who

      few_marks : who < length p.pending.accepted
      few_marks = omega (arith, p.marks, can.range.orderers)

      is_counted : on_accepted d.config 0 h.orderer ballot.0 slot.0 who ≡ counted d.config 0 h.orderer p.leader new_pending
      unfolding on_accepted
      is_counted =
          ap (λ (l : Option Leader). accepted_to d.config 0 h.orderer l ballot.0 slot.0 who) p.leads
          ∙ cond-true (p.leader.ballot == ballot.0) (accepted_for d.config 0 h.orderer p.leader p.leader.pending slot.0 who) (quiet h.orderer) (eq-eqb p.leader.ballot ballot.0 (p.owns ∙ sym e))
          ∙ ap (λ (q : Option Pending). accepted_for d.config 0 h.orderer p.leader q slot.0 who) p.waits
          ∙ cond-true (p.pending.slot == slot.0) (counted d.config 0 h.orderer p.leader new_pending) (quiet h.orderer) (eq-eqb p.pending.slot slot.0 (p.slot ∙ sym f))

      counts_now : (j : ℕ) → Counts d (x ∷ rest) p.pending.accepted j → Counts d rest (marked p.pending.accepted who) j
      counts_now j (Marked m) = Marked (still_marked p.pending.accepted who few_marks j m)
      counts_now j (Accepts_it (inl same)) = Marked (subst (λ (n : ℕ). is_marked (marked p.pending.accepted who) n ≡ true) same (now_marked p.pending.accepted who few_marks))
      counts_now j (Accepts_it (inr w)) = Accepts_it w
      counts_now j (Is_asked (inl asked)) = absurd asked.1
      counts_now j (Is_asked (inr w)) = Is_asked w

      -- too few have accepted
      module _ (few : most d.config.orderers (marked p.pending.accepted who) ≡ false) where
        abbrev waiting : OrdererMemory
        waiting = with_leader h.orderer (Some (record p.leader { pending = Some new_pending }))

        row_few : on_accepted d.config 0 h.orderer ballot.0 slot.0 who ≡ quiet waiting
        row_few =
            is_counted
            ∙ cond-false (most d.config.orderers new_pending.accepted)
            (decided_by d.config 0 (learned h.orderer new_pending.slot new_pending.value) (learned h.orderer new_pending.slot new_pending.value).leader new_pending.slot new_pending.value)
            (quiet waiting) few

        abbrev still_proposes : IsProposing d waiting
        still_proposes = record {
          knows = p.knows;
          wishes = p.wishes;
          told = p.told;
          heard = p.heard;
          leader = record p.leader { pending = Some new_pending };
          leads = refl;
          owns = p.owns;
          answered = p.answered;
          none_reported = p.none_reported;
          begun = p.begun;
          within = p.within;
          pending = new_pending;
          waits = refl;
          slot = p.slot;
          value = p.value;
          marks = length-set p.pending.accepted who true ∙ p.marks;
          few = few;
        }

        pub waits_on : LeaderTaken d nodes rest x h.orderer node place index
        waits_on = record {
          made = record { state = Ordering (stays_at node waiting); outputs = []; reply = Silence };
          rule = orderer_takes d.config 0 can.some node h.orderer (quiet waiting) h.runs (Deliver place index (Some (Accepted ballot slot who))) refl (ap Some row_few);
          after = stays_at node waiting;
          state = refl;
          voter = voter_at d node h waiting (inl p.knows);
          letters = tt;
          stage = λ later same. Proposed still_proposes (λ j b. subst (λ (queue : List Sent). Counts d queue (marked p.pending.accepted who) j) (sym (append-nil rest)) (counts_now j (counts j b)));
        }

      -- most have accepted
      module _ (many : most d.config.orderers (marked p.pending.accepted who) ≡ true) where
        abbrev knowing_it : OrdererMemory
        knowing_it = learned h.orderer p.pending.slot p.pending.value

        abbrev freed : Leader
        freed = without_slot p.leader p.pending.slot

        abbrev decides : List Sent
        decides = to_learners d.config 0 (decide_message p.pending.slot p.pending.value)

        values_are : (learned h.orderer p.pending.slot p.pending.value).known ≡ values_of d
        unfolding learned
        values_are =
            ap (λ (n : ℕ). learn h.orderer.known n p.pending.value) p.slot
            ∙ ap (λ (v : Value). learn h.orderer.known (slot_of d) v) p.value
            ∙ learn_once d h.orderer.known (inl p.knows)

        heard_is : (learned h.orderer p.pending.slot p.pending.value).heard ≡ h.orderer.heard
        unfolding learned
        heard_is = refl

        wishes_are : (learned h.orderer p.pending.slot p.pending.value).wishes ≡ left_wishes d.agreed.wishes (slot_of d) d.value
        unfolding learned
        wishes_are =
            ap (λ (wishes : List Wish). left_wishes wishes p.pending.slot p.pending.value) p.wishes
            ∙ ap (λ (n : ℕ). left_wishes d.agreed.wishes n p.pending.value) p.slot
            ∙ ap (λ (v : Value). left_wishes d.agreed.wishes (slot_of d) v) p.value

        leader_is : (learned h.orderer p.pending.slot p.pending.value).leader ≡ Some freed
        unfolding learned
        leader_is = ap (λ (l : Option Leader). leader_after l p.pending.slot) p.leads

        is_free : freed.pending ≡ None
        is_free =
            ap (λ (q : Option Pending). drop_pending q p.pending.slot) p.waits
            ∙ cond-true (p.pending.slot == p.pending.slot) None (Some p.pending) (eq-eqb p.pending.slot p.pending.slot refl)

        no_wish : wish_of d.config.replicas knowing_it.known knowing_it.heard knowing_it.wishes ≡ None
        no_wish =
            ap (λ (values : List Value). wish_of d.config.replicas values knowing_it.heard knowing_it.wishes) values_are
            ∙ ap (λ (heard : Lengths). wish_of d.config.replicas (values_of d) heard knowing_it.wishes) (heard_is ∙ p.told)
            ∙ ap (λ (wishes : List Wish). wish_of d.config.replicas (values_of d) (all_lengths d.config d.lists) wishes) wishes_are
            ∙ can.next.last

        none_left : knowing_it.wishes ≡ []
        none_left = wishes_are ∙ no_wishes d.config.replicas (values_of d) (all_lengths d.config d.lists) (left_wishes d.agreed.wishes (slot_of d) d.value) can.next.last

        known_length : length knowing_it.known ≡ suc (slot_of d)
        known_length = ap length values_are ∙ longer d

        row_many : on_accepted d.config 0 h.orderer ballot.0 slot.0 who ≡ go_on d.config knowing_it freed decides
        row_many =
            is_counted
            ∙ cond-true (most d.config.orderers new_pending.accepted)
            (decided_by d.config 0 knowing_it knowing_it.leader new_pending.slot new_pending.value)
            (quiet (with_leader h.orderer (Some (record p.leader { pending = Some new_pending })))) many
            ∙ ap (λ (l : Option Leader). decided_by d.config 0 knowing_it l new_pending.slot new_pending.value) leader_is

        decides_good : AreVotingLetters d decides
        decides_good = each_learner d can (IsVotingLetter d) (decide_message p.pending.slot p.pending.value) (λ n learner. (learner, p.slot, p.value))

        -- what the leader is then, and the stage
        abbrev done_with : (l : Leader) → l.ballot ≡ d.agreed.ballot → l.best ≡ no_votes → l.pending ≡ None → l.window ≤ suc (slot_of d)
            → (suc (slot_of d) < slot_limit → suc (slot_of d) < l.window + window_size) → IsDone d (with_leader knowing_it (Some l))
        done_with l owns best free begun within = record {
          knows = values_are;
          no_wish = none_left;
          told = heard_is ∙ p.told;
          heard = subst (λ (heard : Lengths). IsHeardCut d.config d.lists heard) (sym heard_is) p.heard;
          leader = l;
          leads = refl;
          owns = owns;
          none_reported = best;
          none_pending = free;
          begun = begun;
          within = within;
        }

        module _ (l : Leader) (next : Next) (step_is : advance d.config.orderers freed (length knowing_it.known) None ≡ record { leader = l; next = next })
            (done : IsDone d (with_leader knowing_it (Some l))) (good : AreVotingLetters d (next_letters d.config freed.ballot next))
            (ready : IsReady d (rest ++ (decides ++ next_letters d.config freed.ballot next)) done.leader) where
          abbrev then_change : Change
          then_change = told (with_leader knowing_it (Some l)) (decides ++ next_letters d.config freed.ballot next)

          then_row : on_accepted d.config 0 h.orderer ballot.0 slot.0 who ≡ then_change
          then_row = row_many ∙ goes_on_as d.config knowing_it freed decides None (record { leader = l; next = next }) no_wish step_is

          pub then_decided : LeaderTaken d nodes rest x h.orderer node place index
          then_decided = record {
            made = record { state = Ordering (stays_at node (with_leader knowing_it (Some l))); outputs = then_change.outputs; reply = Silence };
            rule = orderer_takes d.config 0 can.some node h.orderer then_change h.runs (Deliver place index (Some (Accepted ballot slot who))) refl (ap Some then_row);
            after = stays_at node (with_leader knowing_it (Some l));
            state = refl;
            voter = voter_at d node h (with_leader knowing_it (Some l)) (inr values_are);
            letters = all_append (IsVotingLetter d) decides (next_letters d.config freed.ballot next) decides_good good;
            stage = λ later same. Decided done
                (λ role is learns. Is_told
                (waits_right (DecideTo d role) rest (decides ++ next_letters d.config freed.ballot next)
                (waits_left (DecideTo d role) decides (next_letters d.config freed.ballot next)
                (to_each_learner d can (DecideTo d role) (decide_message p.pending.slot p.pending.value) role is learns (refl, tt)))))
                ready;
          }

        pub decides_now : LeaderTaken d nodes rest x h.orderer node place index
        decides_now =
            ⊎_elim
            (λ inside.
            let within : suc (slot_of d) < slot_limit → suc (slot_of d) < freed.window + window_size = λ (few : suc (slot_of d) < slot_limit). inside few in
            then_decided freed Nothing
            (rests d.config.orderers freed (length knowing_it.known) is_free p.none_reported (λ few. let n = inside (omega (arith, few, known_length)) in omega (arith, known_length)))
            (done_with freed p.owns p.none_reported is_free (let begun = p.begun in omega arith) within) tt (In_window p.begun p.answered))
            (λ past.
            then_decided (leader_from freed.ballot (length knowing_it.known)) (Window (length knowing_it.known))
            (renews d.config.orderers freed (length knowing_it.known) None is_free p.none_reported p.answered (omega (arith, known_length, past.0)) (omega (arith, known_length, past.1)))
            (done_with (leader_from freed.ballot (length knowing_it.known)) p.owns refl refl (omega (arith, known_length)) (λ few. omega (arith, known_length)))
            (each_orderer d (IsVotingLetter d) (prepare_message freed.ballot (length knowing_it.known)) (λ n orderer. (orderer, p.owns, known_length)))
            (Renewing known_length marks_size
            (λ j b. Is_prepared
            (waits_right (PrepareTo d j) rest (decides ++ to_orderers d.config (prepare_message freed.ballot (length knowing_it.known)))
            (waits_right (PrepareTo d j) decides (to_orderers d.config (prepare_message freed.ballot (length knowing_it.known)))
            (to_each d (PrepareTo d j) (prepare_message freed.ballot (length knowing_it.known)) j b (refl, tt)))))))
            window_cases
          where
            window_cases : (suc (slot_of d) < slot_limit → suc (slot_of d) < freed.window + window_size) ⊎ ((suc (slot_of d) < slot_limit) × (freed.window + window_size ≤ suc (slot_of d)))
            window_cases =
                ⊎_elim
                (λ inside. inl (λ few. inside))
                (λ past. ⊎_elim (λ few. inr (few, past)) (λ full. inl (λ few. absurd (omega arith))) (cases_lt (suc (slot_of d)) slot_limit))
                (cases_lt (suc (slot_of d)) (freed.window + window_size))

      pub proposed_accepted : LeaderTaken d nodes rest x h.orderer node place index
      proposed_accepted = by (most d.config.orderers (marked p.pending.accepted who)) refl
        where
          by : (b : Bool) → most d.config.orderers (marked p.pending.accepted who) ≡ b → LeaderTaken d nodes rest x h.orderer node place index
          by true many = decides_now many
          by false few = waits_on few

    module _ (p : IsDone d h.orderer) (learns : (role : Role) → IsRole d.config role → IsLearner role → Learns d nodes (x ∷ rest) role) (ready : IsReady d (x ∷ rest) p.leader) where
      nothing_waits : on_accepted d.config 0 h.orderer ballot.0 slot.0 who ≡ quiet h.orderer
      unfolding on_accepted
      nothing_waits =
          ap (λ (l : Option Leader). accepted_to d.config 0 h.orderer l ballot.0 slot.0 who) p.leads
          ∙ cond-true (p.leader.ballot == ballot.0) (accepted_for d.config 0 h.orderer p.leader p.leader.pending slot.0 who) (quiet h.orderer) (eq-eqb p.leader.ballot ballot.0 (p.owns ∙ sym e))
          ∙ ap (λ (q : Option Pending). accepted_for d.config 0 h.orderer p.leader q slot.0 who) p.none_pending

      learns_now : (later : ℕ → NodeState) → ((role : Role) → IsRole d.config role → IsLearner role → later (node_of d.config role) ≡ nodes (node_of d.config role))
          → (role : Role) → IsRole d.config role → IsLearner role → Learns d nodes (x ∷ rest) role → Learns d later rest role
      learns_now later same role is l (Knows k) = Knows (ap (λ (state : NodeState). count_in state) (same role is l) ∙ k)
      learns_now later same role is l (Is_told (inl told_it)) = absurd told_it.1
      learns_now later same role is l (Is_told (inr w)) = Is_told w

      renews_now : (j : ℕ) → Renews d (x ∷ rest) p.leader.answered j → Renews d rest p.leader.answered j
      renews_now j (Promised_it m) = Promised_it m
      renews_now j (Promises_it (inl promise)) = absurd promise
      renews_now j (Promises_it (inr w)) = Promises_it w
      renews_now j (Is_prepared (inl asked)) = absurd asked.1
      renews_now j (Is_prepared (inr w)) = Is_prepared w

      ready_now : IsReady d (x ∷ rest) p.leader → IsReady d rest p.leader
      ready_now (In_window low many) = In_window low many
      ready_now (Renewing window size renews) = Renewing window size (λ j b. renews_now j (renews j b))

      pub decided_accepted : LeaderTaken d nodes rest x h.orderer node place index
      decided_accepted = record {
        made = record { state = Ordering (stays_at node h.orderer); outputs = []; reply = Silence };
        rule = orderer_takes d.config 0 can.some node h.orderer (quiet h.orderer) h.runs (Deliver place index (Some (Accepted ballot slot who))) refl (ap Some nothing_waits);
        after = stays_at node h.orderer;
        state = refl;
        voter = voter_at d node h h.orderer h.knows;
        letters = tt;
        stage = λ later same.
            subst (λ (queue : List Sent). Stage d later queue h.orderer) (sym (append-nil rest))
            (Decided p (λ role is l. learns_now later same role is l (learns role is l)) (ready_now ready));
      }

    pub accepted_taken : Stage d nodes (x ∷ rest) h.orderer → LeaderTaken d nodes rest x h.orderer node place index
    accepted_taken (Proposed p counts) = proposed_accepted p counts
    accepted_taken (Decided p learns ready) = decided_accepted p learns ready
