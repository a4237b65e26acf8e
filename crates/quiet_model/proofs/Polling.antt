-- The orderers tick: the leader proposes its wish, and the others want what was decided.
use Rattle.std.proofs.Common.{◌≡◌, ◌+◌, ◌-◌, ◌%◌, ◌<◌, ◌≤◌, ℕ, zero, suc, cond, ◌==◌, List, [], ◌∷◌, ◌++◌, length, Option, Some, None, refl, sym, ap, subst, inl, ⊎_elim, arith, ◌∙◌}
use Rattle.std.specs.List.{AllByRecursion}
use Rattle.std.proofs.lemmas.Bool.{cond-true, cond_both}
use Rattle.std.proofs.lemmas.Option.{same_Some}
use Rattle.reply_frame.specs.declared.replies.Reply.{Reply, Nothing as Silence}
use Rattle.history_frame.specs.declared.events.Sent.{Sent}
use Rattle.history_frame.specs.declared.inputs.Input.TheVariants.{Tick}
use Rattle.history_frame.specs.declared.inputs.Mark.TheVariants.{Done}
use Rattle.log_base.specs.ClusterShape.{Shape}
use Rattle.message_frame.specs.declared.messages.Vote.{Vote}
use Rattle.node_table.specs.declared.role.Role.{Role}
use Rattle.node_table.specs.declared.role.Role.TheVariants.{Storage, Gatherer, Orderer}
use Rattle.node_table.specs.Numbering.{node_of, orderer_node}
use Rattle.paxos_model.specs.Leader.{Leader, Pending, propose}
use Rattle.paxos_model.specs.Learner.{Wish, wish_of}
use Rattle.paxos_model.specs.Majority.{most, no_marks}
use Rattle.paxos_model.specs.Votes.{Payload, votes}
use Rattle.record_frame.specs.declared.values.Lengths.{Lengths}
use Rattle.record_frame.specs.declared.values.Value.{Value}
use Rattle.node_model.specs.Marks.{Running}
use Rattle.node_model.specs.Messages.{accept_message, want_message}
use Rattle.node_model.specs.Nodes.{letter, to_orderers}
use Rattle.node_model.specs.NodeState.{NodeOutcome, NodeState, Storing, Gathering, Ordering, node_outcome}
use Rattle.node_model.specs.OrdererNode.{Change, Mode as OrdererMode, Node, Orderer as OrdererMemory}
use Rattle.node_model.specs.OrdererRow.{on_tick, one_tick, tick_leader, tick_pending, told, with_leader}
use Rattle.node_model.proofs.Letters.{all_append}
use Rattle.quiet_model.specs.Moments.{Moment, TakeInTurn, Takes}
use Rattle.quiet_model.specs.Settled.{AreTold, IsAcceptor, IsLeader, IsOldVote, IsOrderer, IsSettled, LeadsAlone, all_lengths, heard_by, heard_in}
use Rattle.quiet_model.proofs.Carrying.{Carries, stage_on}
use Rattle.quiet_model.proofs.Decision.{Decision, Is_asked, Is_told, Proposed, AcceptTo, AreVotingLetters, DecideTo, IsDecision, IsFollower, IsProposing, IsVoter, IsVoting, IsVotingLetter, UnderVote, AcceptedFrom, PrepareTo, PromisedFrom, count_in, known_of, memory_by, memory_in, slot_of}
use Rattle.quiet_model.proofs.Gathering.{IsSettledNode}
use Rattle.quiet_model.proofs.Many.{each_orderer, to_each}
use Rattle.quiet_model.proofs.Leading.{asks_for, goes_on_as, marks_size, none_are_few}
use Rattle.quiet_model.proofs.Moving.{Moves, moved}
use Rattle.quiet_model.proofs.Outcomes.{orderer_takes}
use Rattle.quiet_model.proofs.VoteTaken.{same_index}
use Rattle.quiet_model.proofs.Waiting.{Waits, waits_left}

-- the orderers below a number have ticked, and the others are as at the settled moment
pub record IsPolling (d : Decision) (next : ℕ) (moment : Moment) : Type 0 where
  pub under : UnderVote d moment
  pub settled : (i : ℕ) → i < d.config.orderers → next ≤ orderer_node d.config i
      → IsSettledNode d.config d.agreed d.lists (Orderer i) (moment.nodes (orderer_node d.config i))

-- a vote for a known slot is one for a slot below the next too
old_votes : (ballot slots : ℕ) (cast : List Vote) → AllByRecursion (IsOldVote ballot slots) cast → AllByRecursion (IsOldVote ballot (suc slots)) cast
old_votes ballot slots [] h = tt
old_votes ballot slots (vote ∷ cast) h = ((h.0.0, let below = h.0.1 in omega arith), old_votes ballot slots cast h.1)

cast_later : (ballot slots : ℕ) (list : List Payload) → IsAcceptor ballot slots list → IsAcceptor ballot (suc slots) list
cast_later ballot slots list h = record { promise = h.promise; voted = old_votes ballot slots (votes list) h.voted }

leads_not : (config : Shape) (ballot known i : ℕ) (leader : Option Leader) → LeadsAlone config ballot known (suc i) leader → leader ≡ None
leads_not config ballot known i None h = refl
leads_not config ballot known i (Some leader) h = absurd h

pub leading : (config : Shape) (ballot known : ℕ) (leader : Option Leader) → LeadsAlone config ballot known zero leader
    → (found : Leader) × (leader ≡ Some found) × IsLeader config ballot known found
leading config ballot known None h = absurd h
leading config ballot known (Some found) h = (found, refl, h)

-- what a tick makes of an orderer that does not lead
pub record FollowerTicked (d : Decision) (i : ℕ) (state : NodeState) : Type 0 where
  pub made : NodeOutcome
  pub rule : node_outcome d.config (orderer_node d.config (suc i)) state Tick Done ≡ Some made
  pub fine : IsVoting d (Orderer (suc i)) made.state
  pub count : count_in made.state ≡ count_in state
  pub letters : AreVotingLetters d made.outputs

module _ (d : Decision) (can : IsDecision d) where
  follower : (i : ℕ) (node : Node) (o : IsOrderer d.config d.agreed (suc i) d.lists node) → IsFollower d o.orderer
  follower i node o = record {
    no_wish = o.wishes;
    heard = o.heard;
    no_leader = leads_not d.config d.agreed.ballot (length d.agreed.values) i o.orderer.leader o.leads;
  }

  -- a settled node
  voting : (role : Role) (state : NodeState) → IsSettledNode d.config d.agreed d.lists role state → IsVoting d role state
  voting (Storage s r) (Storing node) h = record { memory = h.memory; runs = h.runs; holds = h.holds; knows = inl h.knows; peers = h.peers; acks = h.acks }
  voting (Gatherer i) (Gathering node) h = h
  voting (Orderer zero) (Ordering node) h = record {
    orderer = h.orderer;
    runs = h.runs;
    cast = cast_later d.agreed.ballot (length d.agreed.values) node.durable h.cast;
    knows = inl h.knows;
    follows = tt;
  }
  voting (Orderer (suc i)) (Ordering node) h = record {
    orderer = h.orderer;
    runs = h.runs;
    cast = cast_later d.agreed.ballot (length d.agreed.values) node.durable h.cast;
    knows = inl h.knows;
    follows = follower i node h;
  }
  voting (Storage s r) (Gathering node) h = absurd h
  voting (Storage s r) (Ordering node) h = absurd h
  voting (Gatherer i) (Storing node) h = absurd h
  voting (Gatherer i) (Ordering node) h = absurd h
  voting (Orderer i) (Storing node) h = absurd h
  voting (Orderer i) (Gathering node) h = absurd h

  -- ---- the leader

  module _ (node : Node) (o : IsOrderer d.config d.agreed 0 d.lists node) (heard : heard_by node.mode ≡ Some (all_lengths d.config d.lists))
      (leader : Leader) (leads : o.orderer.leader ≡ Some leader) (l : IsLeader d.config d.agreed.ballot (length d.agreed.values) leader) where
    told_all : o.orderer.heard ≡ all_lengths d.config d.lists
    told_all = same_Some o.orderer.heard (all_lengths d.config d.lists) (sym (ap (λ (mode : OrdererMode). heard_by mode) o.runs) ∙ heard)

    known_is : length o.orderer.known ≡ slot_of d
    known_is = ap length o.knows

    wished : wish_of d.config.replicas o.orderer.known o.orderer.heard o.orderer.wishes ≡ Some d.value
    wished =
        ap (λ (values : List Value). wish_of d.config.replicas values o.orderer.heard o.orderer.wishes) o.knows
        ∙ ap (λ (lengths : Lengths). wish_of d.config.replicas d.agreed.values lengths o.orderer.wishes) told_all
        ∙ ap (λ (wishes : List Wish). wish_of d.config.replicas d.agreed.values (all_lengths d.config d.lists) wishes) o.wishes
        ∙ can.next.wished

    abbrev proposal : Pending
    proposal = record { slot = length o.orderer.known; value = d.value; accepted = no_marks }

    abbrev proposer : OrdererMemory
    proposer = with_leader (one_tick o.orderer) (Some (record leader { pending = Some proposal }))

    abbrev proposed_change : Change
    proposed_change = told proposer (to_orderers d.config (accept_message leader.ballot (length o.orderer.known) d.value))

    tick_row : on_tick d.config 0 o.orderer ≡ proposed_change
    unfolding on_tick
    tick_row =
        ap (λ (found : Option Leader). tick_leader d.config 0 (one_tick o.orderer) found (o.orderer.ticks % d.config.orderers)) leads
        ∙ cond-true (most d.config.orderers leader.answered) (tick_pending d.config (one_tick o.orderer) leader leader.pending) _ l.answered
        ∙ ap (λ (pending : Option Pending). tick_pending d.config (one_tick o.orderer) leader pending) l.none_pending
        ∙ goes_on_as d.config (one_tick o.orderer) leader [] (Some d.value) (propose leader (length o.orderer.known) (Some d.value)) wished
        (asks_for d.config.orderers leader (length o.orderer.known) (Some d.value) l.none_pending l.none_reported l.answered
        (let few = can.next.few in omega (arith, known_is)) (let inside = l.within can.next.few in omega (arith, known_is)))

    abbrev proposes : IsProposing d proposer
    proposes = record {
      knows = o.knows;
      wishes = o.wishes;
      told = told_all;
      heard = o.heard;
      leader = record leader { pending = Some proposal };
      leads = refl;
      owns = l.owns;
      answered = l.answered;
      none_reported = l.none_reported;
      begun = l.begun;
      within = l.within can.next.few;
      pending = proposal;
      waits = refl;
      slot = known_is;
      value = refl;
      marks = marks_size;
      few = none_are_few d.config.orderers;
    }

    module _ (before after : Moment) (settled : IsSettled d.config d.agreed d.lists before) (is : before.nodes (orderer_node d.config 0) ≡ Ordering node)
        (reply : Reply) (takes : Takes d.config before (orderer_node d.config 0) Tick Done reply after) where
      abbrev made : NodeOutcome
      made = record { state = Ordering (record { durable = node.durable; mode = Running proposer }); outputs = proposed_change.outputs; reply = Silence }

      moves : Moves d.config before after (Orderer 0) made
      moves =
          moved d.config before after (Orderer 0) Tick Done reply can.some takes made
          (ap (λ (state : NodeState). node_outcome d.config (orderer_node d.config 0) state Tick Done) is
          ∙ orderer_takes d.config 0 can.some node o.orderer proposed_change o.runs Tick refl (ap Some tick_row))

      voter : IsVoter d 0 (record { durable = node.durable; mode = Running proposer })
      voter = record { orderer = proposer; runs = refl; cast = cast_later d.agreed.ballot (length d.agreed.values) node.durable o.cast; knows = inl o.knows; follows = tt }

      pub first_polled : IsPolling d (suc (orderer_node d.config 0)) after
      first_polled = record {
        under = record {
          nodes = λ other a.
              ⊎_elim
              (λ e. subst (λ (y : Role). IsVoting d y (after.nodes (node_of d.config y))) (sym e) (subst (IsVoting d (Orderer 0)) (sym moves.here) voter))
              (λ same. subst (IsVoting d other) (sym same) (voting other (before.nodes (node_of d.config other)) (settled.nodes other a)))
              (moves.others other a);
          letters = subst (AreVotingLetters d) (sym (moves.posted ∙ ap (λ (queue : List Sent). queue ++ made.outputs) settled.queue))
              (each_orderer d (IsVotingLetter d) (accept_message leader.ballot (length o.orderer.known) d.value) (λ n orderer. (orderer, l.owns, known_is, refl)));
          orderer = proposer;
          leads = ap (λ (state : NodeState). memory_in state) moves.here;
          stage = Proposed proposes
              (λ j b. Is_asked
              (subst (Waits (AcceptTo d j)) (sym (moves.posted ∙ ap (λ (queue : List Sent). queue ++ made.outputs) settled.queue))
              (to_each d (AcceptTo d j) (accept_message leader.ballot (length o.orderer.known) d.value) j b (refl, tt))));
        };
        settled = λ i b past.
            ⊎_elim
            (λ e. absurd (let zero_is = same_index i 0 e in omega arith))
            (λ same. subst (IsSettledNode d.config d.agreed d.lists (Orderer i)) (sym same) (settled.nodes (Orderer i) b))
            (moves.others (Orderer i) b);
      }

  leader_at : (before after : Moment) → IsSettled d.config d.agreed d.lists before → AreTold d.config d.lists before
      → (reply : Reply) → Takes d.config before (orderer_node d.config 0) Tick Done reply after
      → (state : NodeState) → before.nodes (orderer_node d.config 0) ≡ state → IsSettledNode d.config d.agreed d.lists (Orderer 0) state → IsPolling d (suc (orderer_node d.config 0)) after
  leader_at before after settled told_it reply takes (Ordering node) is o =
      let lead = leading d.config d.agreed.ballot (length d.agreed.values) o.orderer.leader o.leads in
      first_polled node o (sym (ap (λ (state : NodeState). heard_in state) is) ∙ told_it 0 can.some) lead.0 lead.1 lead.2 before after settled is reply takes
  leader_at before after settled told_it reply takes (Storing node) is o = absurd o
  leader_at before after settled told_it reply takes (Gathering node) is o = absurd o

  -- ---- the others

  abbrev follower_change : ℕ → OrdererMemory → Change
  follower_change i o =
      told (one_tick o)
      (cond (o.ticks % d.config.orderers == suc i) []
      (letter (orderer_node d.config (o.ticks % d.config.orderers)) (want_message (length o.known) (orderer_node d.config (suc i))) ∷ []))

  follower_row : (i : ℕ) (o : OrdererMemory) → o.leader ≡ None → on_tick d.config (suc i) o ≡ follower_change i o
  unfolding on_tick
  follower_row i o none = ap (λ (found : Option Leader). tick_leader d.config (suc i) (one_tick o) found (o.ticks % d.config.orderers)) none

  follower_at : (i : ℕ) → suc i < d.config.orderers → (state : NodeState) → IsSettledNode d.config d.agreed d.lists (Orderer (suc i)) state → FollowerTicked d i state
  follower_at i b (Ordering node) o = record {
    made = record { state = Ordering (record { durable = node.durable; mode = Running (one_tick o.orderer) }); outputs = (follower_change i o.orderer).outputs; reply = Silence };
    rule = orderer_takes d.config (suc i) b node o.orderer (follower_change i o.orderer) o.runs Tick refl (ap Some (follower_row i o.orderer f.no_leader));
    fine = record { orderer = one_tick o.orderer; runs = refl; cast = cast_later d.agreed.ballot (length d.agreed.values) node.durable o.cast; knows = inl o.knows; follows = record { no_wish = f.no_wish; heard = f.heard; no_leader = f.no_leader } };
    count = sym (ap known_of (ap (λ (mode : OrdererMode). memory_by mode) o.runs));
    letters =
        cond_both (o.orderer.ticks % d.config.orderers == suc i) []
        (letter (orderer_node d.config (o.orderer.ticks % d.config.orderers)) (want_message (length o.orderer.known) (orderer_node d.config (suc i))) ∷ []) (AreVotingLetters d)
        (λ e. tt)
        (λ e. (
          (
            record { index = o.orderer.ticks % d.config.orderers; below = (let some = can.some in omega arith); at = refl },
            record { role = Orderer (suc i); is = b; learns = tt; at = refl },
            ap length o.knows,
          ),
          tt,
        ));
  }
    where
      f : IsFollower d o.orderer
      f = follower i node o
  follower_at i b (Storing node) o = absurd o
  follower_at i b (Gathering node) o = absurd o

  module _ (before after : Moment) (i : ℕ) (b : suc i < d.config.orderers) (old : IsPolling d (orderer_node d.config (suc i)) before)
      (reply : Reply) (takes : Takes d.config before (orderer_node d.config (suc i)) Tick Done reply after) where
    ticked : FollowerTicked d i (before.nodes (orderer_node d.config (suc i)))
    ticked = follower_at i b (before.nodes (orderer_node d.config (suc i))) (old.settled (suc i) b (omega arith))

    steps : Moves d.config before after (Orderer (suc i)) ticked.made
    steps = moved d.config before after (Orderer (suc i)) Tick Done reply b takes ticked.made ticked.rule

    still : (P : Sent → Type 0) → Waits P before.queue → Waits P after.queue
    still P w = subst (Waits P) (sym steps.posted) (waits_left P before.queue ticked.made.outputs w)

    carried : Carries d before.nodes before.queue after.nodes after.queue
    carried = record {
      accept = λ j c w. inl (still (AcceptTo d j) w);
      accepted = λ j w. still (AcceptedFrom j) w;
      knows = λ role is learns e.
          ⊎_elim
          (λ same. subst (λ (y : Role). count_in (before.nodes (node_of d.config y)) ≡ suc (slot_of d) → count_in (after.nodes (node_of d.config y)) ≡ suc (slot_of d)) (sym same)
          (λ had. ap (λ (state : NodeState). count_in state) steps.here ∙ ticked.count ∙ had) e)
          (λ same. ap (λ (state : NodeState). count_in state) same ∙ e)
          (steps.others role is);
      decide = λ role is learns w. Is_told (still (DecideTo d role) w);
      prepare = λ j c w. inl (still (PrepareTo d j) w);
      promised = λ j w. still (PromisedFrom j) w;
    }

    leader_stays : after.nodes (orderer_node d.config 0) ≡ before.nodes (orderer_node d.config 0)
    leader_stays = ⊎_elim (λ e. absurd (let zero_is = same_index 0 (suc i) e in omega arith)) (λ same. same) (steps.others (Orderer 0) can.some)

    next_polled : IsPolling d (suc (orderer_node d.config (suc i))) after
    next_polled = record {
      under = record {
        nodes = λ other a.
            ⊎_elim
            (λ e. subst (λ (y : Role). IsVoting d y (after.nodes (node_of d.config y))) (sym e) (subst (IsVoting d (Orderer (suc i))) (sym steps.here) ticked.fine))
            (λ same. subst (IsVoting d other) (sym same) (old.under.nodes other a))
            (steps.others other a);
        letters = subst (AreVotingLetters d) (sym steps.posted) (all_append (IsVotingLetter d) before.queue ticked.made.outputs old.under.letters ticked.letters);
        orderer = old.under.orderer;
        leads = ap (λ (state : NodeState). memory_in state) leader_stays ∙ old.under.leads;
        stage = stage_on d before.nodes before.queue after.nodes after.queue carried old.under.orderer old.under.stage;
      };
      settled = λ j c past.
          ⊎_elim
          (λ e. absurd (let same = same_index j (suc i) e in omega arith))
          (λ same. subst (IsSettledNode d.config d.agreed d.lists (Orderer j)) (sym same) (old.settled j c (omega arith)))
          (steps.others (Orderer j) c);
    }

  next_by : (before after : Moment) (n : ℕ) → orderer_node d.config 1 ≤ n → n < orderer_node d.config d.config.orderers → IsPolling d n before
      → (reply : Reply) → Takes d.config before n Tick Done reply after → IsPolling d (suc n) after
  next_by before after n low high old reply takes =
      let is : orderer_node d.config (suc (n - orderer_node d.config 1)) ≡ n = omega arith in
      subst (λ (m : ℕ). IsPolling d (suc m) after) is
      (next_polled before after (n - orderer_node d.config 1) (omega arith)
      (subst (λ (m : ℕ). IsPolling d m before) (sym is) old) reply
      (subst (λ (m : ℕ). Takes d.config before m Tick Done reply after) (sym is) takes))

  others_polled : (count first : ℕ) (before after : Moment) → orderer_node d.config 1 ≤ first → first + count ≡ orderer_node d.config d.config.orderers → IsPolling d first before
      → TakeInTurn d.config Tick Done first count before after → UnderVote d after
  others_polled zero first before after low e old same = subst (UnderVote d) same old.under
  others_polled (suc count) first before after low e old more =
      others_polled count (suc first) more.1 after (omega arith) (omega arith) (next_by before more.1 first low (omega arith) old more.0 more.2) more.3

  pub all_polled : (count : ℕ) (before after : Moment) → count ≡ d.config.orderers → IsSettled d.config d.agreed d.lists before → AreTold d.config d.lists before
      → TakeInTurn d.config Tick Done (orderer_node d.config 0) count before after → UnderVote d after
  all_polled zero before after e settled told_it same = absurd (let some = can.some in omega arith)
  all_polled (suc count) before after e settled told_it more =
      others_polled count (suc (orderer_node d.config 0)) more.1 after (omega arith) (omega arith)
      (leader_at before more.1 settled told_it more.0 more.2 (before.nodes (orderer_node d.config 0)) refl (settled.nodes (Orderer 0) can.some))
      more.3
