-- The orderers' round: the letters of a decision are delivered, and then every node knows the value.
use Rattle.std.proofs.Common.{◌≡◌, ◌⊎◌, ◌%◌, ◌<◌, ◌≤◌, ℕ, zero, suc, Bool, true, false, List, [], ◌∷◌, length, Some, refl, sym, ap, subst, inl, inr, ⊎_elim, arith, ◌∙◌}
use Rattle.std.proofs.lemmas.Option.{same_Some}
use Rattle.reply_frame.specs.declared.replies.Reply.{Reply}
use Rattle.history_frame.specs.declared.events.Sent.{Sent}
use Rattle.history_frame.specs.declared.inputs.Input.TheVariants.{Deliver, Tick}
use Rattle.history_frame.specs.declared.inputs.Mark.TheVariants.{Done}
use Rattle.log_base.specs.ClusterShape.{InRange, Shape}
use Rattle.log_base.specs.declared.numbers.Ballot.{Ballot}
use Rattle.log_base.specs.declared.numbers.NodeId.{NodeId}
use Rattle.log_base.specs.declared.numbers.Slot.{Slot}
use Rattle.log_model.specs.Storage.{Knowledge}
use Rattle.message_frame.specs.declared.messages.Message.{Message}
use Rattle.message_frame.specs.declared.messages.Message.TheVariants.{Copy, CopyAck, Report, Least, Prepare, Promised, Lower, Accept, Accepted, Decide, Want}
use Rattle.node_table.specs.declared.role.Role.{Role}
use Rattle.node_table.specs.declared.role.Role.TheVariants.{Storage, Gatherer, Orderer}
use Rattle.node_table.specs.Numbering.{IsRole, node_of, orderer_node}
use Rattle.paxos_model.specs.Leader.{Leader}
use Rattle.paxos_model.specs.Majority.{is_marked, most}
use Rattle.record_frame.specs.declared.values.Value.{Value}
use Rattle.node_model.specs.NodeState.{NodeOutcome, NodeState, Storing, Gathering, Ordering, node_outcome}
use Rattle.node_model.specs.OrdererNode.{Mode as OrdererMode, Node, Orderer as OrdererMemory}
use Rattle.node_model.specs.StorageNode.{StorageMode, StorageNode}
use Rattle.node_model.proofs.Letters.{all_append}
use Rattle.quiet_model.specs.Deciding.{IsNextDecision, decided_on}
use Rattle.quiet_model.specs.Moments.{DeliveredIn, IsDelivery, IsRound, Moment, Takes}
use Rattle.quiet_model.specs.Settled.{Agreed, AreLists, AreTold, IsAcceptor, IsLeader, IsOrderer, IsReplica, IsSettled, LeadsAlone, ListsOf, list_at}
use Rattle.quiet_model.proofs.Carrying.{Carries, stage_on}
use Rattle.quiet_model.proofs.Decision.{Decision, Counts, Marked, Accepts_it, Is_asked, Learns, Knows, Is_told, Renews, Promised_it, Promises_it, Is_prepared, IsReady, In_window, Renewing, Stage, Proposed, Decided, AcceptTo, AcceptedFrom, AreVotingLetters, DecideTo, IsDecision, IsDone, IsLearner, IsLearning, IsVoter, IsVoting, IsVotingLetter, IsVotingMessage, PrepareTo, PromisedFrom, ToLearner, ToOrderer, UnderVote, count_in, known_by, known_of, memory_by, memory_in, slot_of, values_of}
use Rattle.quiet_model.proofs.Gathering.{IsSettledNode}
use Rattle.quiet_model.proofs.LeaderTaken.{LeaderTaken, accepted_taken}
use Rattle.quiet_model.proofs.Leading.{all_are_most}
use Rattle.quiet_model.proofs.Moving.{Moves, moved, same_role}
use Rattle.quiet_model.proofs.Polling.{all_polled, leading}
use Rattle.quiet_model.proofs.PromiseTaken.{promised_taken}
use Rattle.quiet_model.proofs.VoteTaken.{IsVoted, VoteTaken, accept_taken, longer, orderer_learns, prepare_taken, replica_learns, want_taken}
use Rattle.quiet_model.proofs.Waiting.{Waits, waits_left, waits_right}

module _ (d : Decision) (can : IsDecision d) where
  module _ (nodes : ℕ → NodeState) (rest : List Sent) (x : Sent) (after : Moment) (old : UnderVote d (record { nodes = nodes; queue = x ∷ rest })) where
    -- ---- letters that leave the leader's memory

    module _ (role : Role) (is : IsRole d.config role) (at : x.to.0 ≡ node_of d.config role) (made : NodeOutcome)
        (handled : IsVoted d x.message made.outputs role (nodes (node_of d.config role)) made.state)
        (moves : Moves d.config (record { nodes = nodes; queue = rest }) after role made) where
      still : (P : Sent → Type 0) → Waits P rest → Waits P after.queue
      still P w = subst (Waits P) (sym moves.posted) (waits_left P rest made.outputs w)

      newly : (P : Sent → Type 0) → Waits P made.outputs → Waits P after.queue
      newly P w = subst (Waits P) (sym moves.posted) (waits_right P rest made.outputs w)

      here_role : (other : Role) → IsRole d.config other → x.to.0 ≡ node_of d.config other → role ≡ other
      here_role other a e = same_role d.config role other is a (sym at ∙ e)

      knows_on : (other : Role) → IsRole d.config other → count_in (nodes (node_of d.config other)) ≡ suc (slot_of d) → count_in (after.nodes (node_of d.config other)) ≡ suc (slot_of d)
      knows_on other a e =
          ⊎_elim
          (λ same. subst (λ (y : Role). count_in (nodes (node_of d.config y)) ≡ suc (slot_of d) → count_in (after.nodes (node_of d.config y)) ≡ suc (slot_of d)) (sym same)
          (λ had. ap (λ (state : NodeState). count_in state) moves.here ∙ handled.knows had) e)
          (λ same. ap (λ (state : NodeState). count_in state) same ∙ e)
          (moves.others other a)

      accept_on : (j : ℕ) → j < d.config.orderers → Waits (AcceptTo d j) (x ∷ rest) → Waits (AcceptTo d j) after.queue ⊎ Waits (AcceptedFrom j) after.queue
      accept_on j b (inl h) = inr (newly (AcceptedFrom j) (handled.accept j (here_role (Orderer j) b h.0) h.1))
      accept_on j b (inr w) = inl (still (AcceptTo d j) w)

      accepted_on : (j : ℕ) → Waits (AcceptedFrom j) (x ∷ rest) → Waits (AcceptedFrom j) after.queue
      accepted_on j (inl h) = absurd (handled.accepted j h)
      accepted_on j (inr w) = still (AcceptedFrom j) w

      decide_on : (other : Role) → IsRole d.config other → Waits (DecideTo d other) (x ∷ rest) → Learns d after.nodes after.queue other
      decide_on other a (inl h) =
          Knows (subst (λ (y : Role). count_in (after.nodes (node_of d.config y)) ≡ suc (slot_of d)) (here_role other a h.0)
          (ap (λ (state : NodeState). count_in state) moves.here ∙ handled.decide h.1))
      decide_on other a (inr w) = Is_told (still (DecideTo d other) w)

      prepare_on : (j : ℕ) → j < d.config.orderers → Waits (PrepareTo d j) (x ∷ rest) → Waits (PrepareTo d j) after.queue ⊎ Waits (PromisedFrom j) after.queue
      prepare_on j b (inl h) = inr (newly (PromisedFrom j) (handled.prepare j (here_role (Orderer j) b h.0) h.1))
      prepare_on j b (inr w) = inl (still (PrepareTo d j) w)

      promised_on : (j : ℕ) → Waits (PromisedFrom j) (x ∷ rest) → Waits (PromisedFrom j) after.queue
      promised_on j (inl h) = absurd (handled.promised j h)
      promised_on j (inr w) = still (PromisedFrom j) w

      carried : Carries d nodes (x ∷ rest) after.nodes after.queue
      carried = record {
        accept = accept_on;
        accepted = accepted_on;
        knows = λ other a learns e. knows_on other a e;
        decide = λ other a learns w. decide_on other a w;
        prepare = prepare_on;
        promised = promised_on;
      }

      memory_on : memory_in (after.nodes (orderer_node d.config 0)) ≡ memory_in (nodes (orderer_node d.config 0))
      memory_on =
          ⊎_elim
          (λ e. subst (λ (y : Role). memory_in (after.nodes (node_of d.config y)) ≡ memory_in (nodes (node_of d.config y))) (sym e)
          (ap (λ (state : NodeState). memory_in state) moves.here ∙ handled.memory (sym e)))
          (λ same. ap (λ (state : NodeState). memory_in state) same)
          (moves.others (Orderer 0) can.some)

      voted : UnderVote d after
      voted = record {
        nodes = λ other a.
            ⊎_elim
            (λ e. subst (λ (y : Role). IsVoting d y (after.nodes (node_of d.config y))) (sym e) (subst (IsVoting d role) (sym moves.here) handled.fine))
            (λ same. subst (IsVoting d other) (sym same) (old.nodes other a))
            (moves.others other a);
        letters = subst (AreVotingLetters d) (sym moves.posted) (all_append (IsVotingLetter d) rest made.outputs old.letters.1 handled.letters);
        orderer = old.orderer;
        leads = memory_on ∙ old.leads;
        stage = stage_on d nodes (x ∷ rest) after.nodes after.queue carried old.orderer old.stage;
      }

    -- a node took such a letter
    voted_by : (role : Role) → IsRole d.config role → x.to.0 ≡ node_of d.config role → (place index : ℕ) (reply : Reply)
        → VoteTaken d x.message role (nodes (node_of d.config role)) place index
        → Takes d.config (record { nodes = nodes; queue = rest }) (node_of d.config role) (Deliver place index (Some x.message)) Done reply after → UnderVote d after
    voted_by role is at place index reply t takes =
        voted role is at t.made t.handled (moved d.config (record { nodes = nodes; queue = rest }) after role (Deliver place index (Some x.message)) Done reply is takes t.made t.rule)

    -- ---- letters that the leader counts

    module _ (node : Node) (state_is : nodes (orderer_node d.config 0) ≡ Ordering node) (h : IsVoter d 0 node) where
      same_memory : old.orderer ≡ h.orderer
      same_memory =
          same_Some old.orderer h.orderer
          (sym old.leads ∙ ap (λ (state : NodeState). memory_in state) state_is ∙ ap (λ (mode : OrdererMode). memory_by mode) h.runs)

      own_stage : Stage d nodes (x ∷ rest) h.orderer
      own_stage = subst (Stage d nodes (x ∷ rest)) same_memory old.stage

      led : (place index : ℕ) (reply : Reply) → LeaderTaken d nodes rest x h.orderer node place index
          → Takes d.config (record { nodes = nodes; queue = rest }) (orderer_node d.config 0) (Deliver place index (Some x.message)) Done reply after → UnderVote d after
      led place index reply t takes =
          record {
            nodes = λ other a.
                ⊎_elim
                (λ e. subst (λ (y : Role). IsVoting d y (after.nodes (node_of d.config y))) (sym e) (subst (IsVoting d (Orderer 0)) (sym (moves.here ∙ t.state)) t.voter))
                (λ same. subst (IsVoting d other) (sym same) (old.nodes other a))
                (moves.others other a);
            letters = subst (AreVotingLetters d) (sym moves.posted) (all_append (IsVotingLetter d) rest t.made.outputs old.letters.1 t.letters);
            orderer = t.voter.orderer;
            leads = ap (λ (state : NodeState). memory_in state) (moves.here ∙ t.state) ∙ ap (λ (mode : OrdererMode). memory_by mode) t.voter.runs;
            stage = subst (λ (queue : List Sent). Stage d after.nodes queue t.voter.orderer) (sym moves.posted)
                (t.stage after.nodes
                (λ role is learns.
                ⊎_elim
                (λ e. absurd (subst IsLearner e learns))
                (λ same. same)
                (moves.others role is)));
          }
        where
          moves : Moves d.config (record { nodes = nodes; queue = rest }) after (Orderer 0) t.made
          moves =
              moved d.config (record { nodes = nodes; queue = rest }) after (Orderer 0) (Deliver place index (Some x.message)) Done reply can.some takes t.made
              (ap (λ (state : NodeState). node_outcome d.config (orderer_node d.config 0) state (Deliver place index (Some x.message)) Done) state_is ∙ t.rule)

  -- ---- each kind of letter

  accept_at : (i : ℕ) → i < d.config.orderers → (ballot : Ballot) (slot : Slot) (value : Value) → ballot.0 ≡ d.agreed.ballot → slot.0 ≡ slot_of d → value ≡ d.value → (place index : ℕ)
      → (state : NodeState) → IsVoting d (Orderer i) state → VoteTaken d (Accept ballot slot value) (Orderer i) state place index
  accept_at i b ballot slot value e f g place index (Ordering node) h = accept_taken d can i b node h ballot slot value e f g place index
  accept_at i b ballot slot value e f g place index (Storing node) h = absurd h
  accept_at i b ballot slot value e f g place index (Gathering node) h = absurd h

  prepare_at : (i : ℕ) → i < d.config.orderers → (ballot : Ballot) (slot : Slot) → ballot.0 ≡ d.agreed.ballot → slot.0 ≡ suc (slot_of d) → (place index : ℕ)
      → (state : NodeState) → IsVoting d (Orderer i) state → VoteTaken d (Prepare ballot slot) (Orderer i) state place index
  prepare_at i b ballot slot e f place index (Ordering node) h = prepare_taken d can i b node h ballot slot e f place index
  prepare_at i b ballot slot e f place index (Storing node) h = absurd h
  prepare_at i b ballot slot e f place index (Gathering node) h = absurd h

  want_at : (i : ℕ) → i < d.config.orderers → (slot : Slot) (asker : NodeId) → ToLearner d asker.0 → slot.0 ≡ slot_of d → (place index : ℕ)
      → (state : NodeState) → IsVoting d (Orderer i) state → VoteTaken d (Want slot asker) (Orderer i) state place index
  want_at i b slot asker learner e place index (Ordering node) h = want_taken d can i b node h slot asker learner e place index
  want_at i b slot asker learner e place index (Storing node) h = absurd h
  want_at i b slot asker learner e place index (Gathering node) h = absurd h

  decide_at : (slot : Slot) (value : Value) → slot.0 ≡ slot_of d → value ≡ d.value → (place index : ℕ) (role : Role) → IsRole d.config role → IsLearner role
      → (state : NodeState) → IsVoting d role state → VoteTaken d (Decide slot value) role state place index
  decide_at slot value e f place index (Storage s r) is learns (Storing node) h = replica_learns d slot value e f place index s.0 r.0 is.0 is.1 node h
  decide_at slot value e f place index (Orderer (suc i)) is learns (Ordering node) h = orderer_learns d slot value e f place index i is node h
  decide_at slot value e f place index (Storage s r) is learns (Gathering node) h = absurd h
  decide_at slot value e f place index (Storage s r) is learns (Ordering node) h = absurd h
  decide_at slot value e f place index (Gatherer i) is learns state h = absurd learns
  decide_at slot value e f place index (Orderer zero) is learns state h = absurd learns
  decide_at slot value e f place index (Orderer (suc i)) is learns (Storing node) h = absurd h
  decide_at slot value e f place index (Orderer (suc i)) is learns (Gathering node) h = absurd h

  module _ (nodes : ℕ → NodeState) (rest : List Sent) (to : NodeId) (after : Moment) (place index : ℕ) (reply : Reply) where
    abbrev Comes : Message → Type 0
    Comes m = Takes d.config (record { nodes = nodes; queue = rest }) to.0 (Deliver place index (Some m)) Done reply after

    abbrev Under : Message → Type 0
    Under m = UnderVote d (record { nodes = nodes; queue = record { to = to; message = m } ∷ rest })

    takes_at : (m : Message) (n : ℕ) → to.0 ≡ n → Comes m → Takes d.config (record { nodes = nodes; queue = rest }) n (Deliver place index (Some m)) Done reply after
    takes_at m n at takes = subst (λ (k : ℕ). Takes d.config (record { nodes = nodes; queue = rest }) k (Deliver place index (Some m)) Done reply after) at takes

    accepted_at : (ballot : Ballot) (slot : Slot) (who : ℕ) → to.0 ≡ orderer_node d.config 0 → ballot.0 ≡ d.agreed.ballot → slot.0 ≡ slot_of d → who < d.config.orderers
        → Under (Accepted ballot slot who) → Comes (Accepted ballot slot who) → (state : NodeState) → nodes (orderer_node d.config 0) ≡ state → IsVoting d (Orderer 0) state → UnderVote d after
    accepted_at ballot slot who at e f b old takes (Ordering node) is h =
        led nodes rest (record { to = to; message = Accepted ballot slot who }) after old node is h place index reply
        (accepted_taken d can nodes rest to node h place index ballot slot who e f b (own_stage nodes rest (record { to = to; message = Accepted ballot slot who }) after old node is h))
        (takes_at (Accepted ballot slot who) (orderer_node d.config 0) at takes)
    accepted_at ballot slot who at e f b old takes (Storing node) is h = absurd h
    accepted_at ballot slot who at e f b old takes (Gathering node) is h = absurd h

    promised_at : (ballot : Ballot) (slot : Slot) (who : ℕ) (reported : _) → to.0 ≡ orderer_node d.config 0 → ballot.0 ≡ d.agreed.ballot → slot.0 ≡ suc (slot_of d) → who < d.config.orderers → reported ≡ []
        → Under (Promised ballot slot who reported) → Comes (Promised ballot slot who reported) → (state : NodeState) → nodes (orderer_node d.config 0) ≡ state → IsVoting d (Orderer 0) state → UnderVote d after
    promised_at ballot slot who reported at e f b none old takes (Ordering node) is h =
        led nodes rest (record { to = to; message = Promised ballot slot who reported }) after old node is h place index reply
        (promised_taken d can nodes rest to node h place index ballot slot who reported e f b none (own_stage nodes rest (record { to = to; message = Promised ballot slot who reported }) after old node is h))
        (takes_at (Promised ballot slot who reported) (orderer_node d.config 0) at takes)
    promised_at ballot slot who reported at e f b none old takes (Storing node) is h = absurd h
    promised_at ballot slot who reported at e f b none old takes (Gathering node) is h = absurd h

    delivered_as : (m : Message) → Under m → Comes m → IsVotingMessage d to.0 m → UnderVote d after
    delivered_as (Accept ballot slot value) old takes g =
        let i : ToOrderer d to.0 = g.0 in
        voted_by nodes rest (record { to = to; message = Accept ballot slot value }) after old (Orderer i.index) i.below i.at place index reply
        (accept_at i.index i.below ballot slot value g.1 g.2 g.3 place index (nodes (orderer_node d.config i.index)) (old.nodes (Orderer i.index) i.below))
        (takes_at (Accept ballot slot value) (orderer_node d.config i.index) i.at takes)
    delivered_as (Prepare ballot slot) old takes g =
        let i : ToOrderer d to.0 = g.0 in
        voted_by nodes rest (record { to = to; message = Prepare ballot slot }) after old (Orderer i.index) i.below i.at place index reply
        (prepare_at i.index i.below ballot slot g.1 g.2 place index (nodes (orderer_node d.config i.index)) (old.nodes (Orderer i.index) i.below))
        (takes_at (Prepare ballot slot) (orderer_node d.config i.index) i.at takes)
    delivered_as (Want slot asker) old takes g =
        let i : ToOrderer d to.0 = g.0 in
        voted_by nodes rest (record { to = to; message = Want slot asker }) after old (Orderer i.index) i.below i.at place index reply
        (want_at i.index i.below slot asker g.1 g.2 place index (nodes (orderer_node d.config i.index)) (old.nodes (Orderer i.index) i.below))
        (takes_at (Want slot asker) (orderer_node d.config i.index) i.at takes)
    delivered_as (Decide slot value) old takes g =
        let l : ToLearner d to.0 = g.0 in
        voted_by nodes rest (record { to = to; message = Decide slot value }) after old l.role l.is l.at place index reply
        (decide_at slot value g.1 g.2 place index l.role l.is l.learns (nodes (node_of d.config l.role)) (old.nodes l.role l.is))
        (takes_at (Decide slot value) (node_of d.config l.role) l.at takes)
    delivered_as (Accepted ballot slot who) old takes g =
        accepted_at ballot slot who g.0 g.1 g.2 g.3 old takes (nodes (orderer_node d.config 0)) refl (old.nodes (Orderer 0) can.some)
    delivered_as (Promised ballot slot who reported) old takes g =
        promised_at ballot slot who reported g.0 g.1 g.2 g.3 g.4 old takes (nodes (orderer_node d.config 0)) refl (old.nodes (Orderer 0) can.some)
    delivered_as (Copy segment offset entry) old takes g = absurd g
    delivered_as (CopyAck peer held) old takes g = absurd g
    delivered_as (Report shard replica lengths) old takes g = absurd g
    delivered_as (Least shard lengths) old takes g = absurd g
    delivered_as (Lower ballot promise) old takes g = absurd g

  delivered : (before after : Moment) → UnderVote d before → IsDelivery d.config before after → UnderVote d after
  delivered before after old v =
      let now : UnderVote d (record { nodes = before.nodes; queue = v.sent ∷ v.rest }) =
      subst (λ (queue : List Sent). UnderVote d (record { nodes = before.nodes; queue = queue })) v.first old in
      delivered_as before.nodes v.rest v.sent.to after v.place v.index v.reply v.sent.message now v.taken now.letters.0

  all_delivered : (count : ℕ) (before after : Moment) → UnderVote d before → DeliveredIn d.config count before after → UnderVote d after
  all_delivered zero before after old same = subst (UnderVote d) same old
  all_delivered (suc count) before after old more = all_delivered count more.0 after (delivered before more.0 old more.1) more.2

  -- ---- the end

  module _ (nodes : ℕ → NodeState) (u : UnderVote d (record { nodes = nodes; queue = [] })) where
    marked_all : (marks : List Bool) (j : ℕ) → Counts d [] marks j → is_marked marks j ≡ true
    marked_all marks j (Marked e) = e
    marked_all marks j (Accepts_it w) = absurd w
    marked_all marks j (Is_asked w) = absurd w

    promised_all : (marks : List Bool) (j : ℕ) → Renews d [] marks j → is_marked marks j ≡ true
    promised_all marks j (Promised_it e) = e
    promised_all marks j (Promises_it w) = absurd w
    promised_all marks j (Is_prepared w) = absurd w

    knows_all : (role : Role) → Learns d nodes [] role → count_in (nodes (node_of d.config role)) ≡ suc (slot_of d)
    knows_all role (Knows e) = e
    knows_all role (Is_told w) = absurd w

    is_ready : (leader : Leader) → IsReady d [] leader → most d.config.orderers leader.answered ≡ true
    is_ready leader (In_window low many) = many
    is_ready leader (Renewing window size renews) = all_are_most d.config.orderers leader.answered can.some (λ j b. promised_all leader.answered j (renews j b))

    -- it is decided
    pub record Ends (o : OrdererMemory) : Type 0 where
      pub done : IsDone d o
      pub answered : most d.config.orderers done.leader.answered ≡ true
      pub knows : (role : Role) → IsRole d.config role → IsLearner role → count_in (nodes (node_of d.config role)) ≡ suc (slot_of d)

    ends : (o : OrdererMemory) → Stage d nodes [] o → Ends o
    ends o (Proposed p counts) =
        let all : most d.config.orderers p.pending.accepted ≡ true = all_are_most d.config.orderers p.pending.accepted can.some (λ j b. marked_all p.pending.accepted j (counts j b)) in
        let few : most d.config.orderers p.pending.accepted ≡ false = p.few in
        absurd (cc)
    ends o (Decided p learns ready) = record { done = p; answered = is_ready p.leader ready; knows = λ role is l. knows_all role (learns role is l) }

    end : Ends u.orderer
    end = ends u.orderer u.stage

    abbrev now : Agreed
    now = decided_on d.agreed d.value

    replica_ends : (s r : ℕ) (node : StorageNode) → IsLearning d s r node → known_by node.mode ≡ suc (slot_of d) → IsReplica d.config s r (d.lists s) (length (list_at d.lists s r)) (values_of d) node
    replica_ends s r node h count = record {
      memory = h.memory;
      runs = h.runs;
      holds = h.holds;
      knows = ⊎_elim
          (λ e. absurd (let old = ap (λ (known : Knowledge). known.count) e in let new = sym (ap (λ (mode : StorageMode). known_by mode) h.runs) ∙ count in omega arith))
          (λ e. e)
          h.knows;
      peers = h.peers;
      acks = h.acks;
    }

    cast_now : (list : _) → IsAcceptor d.agreed.ballot (suc (slot_of d)) list → IsAcceptor d.agreed.ballot (length (values_of d)) list
    cast_now list h = subst (λ (n : ℕ). IsAcceptor d.agreed.ballot n list) (sym (longer d)) h

    leader_ends : (node : Node) → nodes (orderer_node d.config 0) ≡ Ordering node → IsVoter d 0 node → IsOrderer d.config (decided_on d.agreed d.value) 0 d.lists node
    leader_ends node is h =
        let same : u.orderer ≡ h.orderer =
        same_Some u.orderer h.orderer (sym u.leads ∙ ap (λ (state : NodeState). memory_in state) is ∙ ap (λ (mode : OrdererMode). memory_by mode) h.runs) in
        let e : Ends h.orderer = subst Ends same end in
        record {
          orderer = h.orderer;
          runs = h.runs;
          knows = e.done.knows;
          wishes = e.done.no_wish;
          heard = e.done.heard;
          leads = subst (LeadsAlone d.config d.agreed.ballot (length (values_of d)) zero) (sym e.done.leads)
              (subst (λ (n : ℕ). IsLeader d.config d.agreed.ballot n e.done.leader) (sym (longer d))
              (record {
                owns = e.done.owns;
                owner = can.owner;
                answered = e.answered;
                none_reported = e.done.none_reported;
                none_pending = e.done.none_pending;
                begun = e.done.begun;
                within = e.done.within;
              }));
          cast = cast_now node.durable h.cast;
        }

    follower_ends : (i : ℕ) (node : Node) → IsVoter d (suc i) node → known_of (memory_by node.mode) ≡ suc (slot_of d) → IsOrderer d.config (decided_on d.agreed d.value) (suc i) d.lists node
    follower_ends i node h count = record {
      orderer = h.orderer;
      runs = h.runs;
      knows = ⊎_elim
          (λ e. absurd (let old = ap length e in let new = sym (ap known_of (ap (λ (mode : OrdererMode). memory_by mode) h.runs)) ∙ count in omega arith))
          (λ e. e)
          h.knows;
      wishes = h.follows.no_wish;
      heard = h.follows.heard;
      leads = subst (LeadsAlone d.config d.agreed.ballot (length (values_of d)) (suc i)) (sym h.follows.no_leader) tt;
      cast = cast_now node.durable h.cast;
    }

    node_ends : (role : Role) → IsRole d.config role → (state : NodeState) → nodes (node_of d.config role) ≡ state → IsVoting d role state → IsSettledNode d.config (decided_on d.agreed d.value) d.lists role state
    node_ends (Storage s r) is (Storing node) e h = replica_ends s.0 r.0 node h (sym (ap (λ (state : NodeState). count_in state) e) ∙ end.knows (Storage s r) is tt)
    node_ends (Gatherer i) is (Gathering node) e h = h
    node_ends (Orderer zero) is (Ordering node) e h = leader_ends node e h
    node_ends (Orderer (suc i)) is (Ordering node) e h = follower_ends i node h (sym (ap (λ (state : NodeState). count_in state) e) ∙ end.knows (Orderer (suc i)) is tt)
    node_ends (Storage s r) is (Gathering node) e h = absurd h
    node_ends (Storage s r) is (Ordering node) e h = absurd h
    node_ends (Gatherer i) is (Storing node) e h = absurd h
    node_ends (Gatherer i) is (Ordering node) e h = absurd h
    node_ends (Orderer i) is (Storing node) e h = absurd h
    node_ends (Orderer i) is (Gathering node) e h = absurd h

    settled : AreLists d.config d.lists → IsSettled d.config (decided_on d.agreed d.value) d.lists (record { nodes = nodes; queue = [] })
    settled sizes = record {
      sizes = sizes;
      nodes = λ role is. node_ends role is (nodes (node_of d.config role)) refl (u.nodes role is);
      queue = refl;
    }

  decided_after : (before after : Moment) → IsSettled d.config d.agreed d.lists before → AreTold d.config d.lists before
      → IsRound d.config Tick Done (orderer_node d.config 0) d.config.orderers before after → IsSettled d.config (decided_on d.agreed d.value) d.lists after
  decided_after before after old told round =
      subst (λ (queue : List Sent). IsSettled d.config (decided_on d.agreed d.value) d.lists (record { nodes = after.nodes; queue = queue })) (sym round.deliveries.none_left)
      (settled after.nodes
      (subst (λ (queue : List Sent). UnderVote d (record { nodes = after.nodes; queue = queue })) round.deliveries.none_left
      (all_delivered round.deliveries.count round.middle after (all_polled d can d.config.orderers before round.middle refl old told round.turns) round.deliveries.deliveries))
      old.sizes)

-- the owner of the ballot
owner_at : (config : Shape) (agreed : Agreed) (lists : ListsOf) (state : NodeState) → IsSettledNode config agreed lists (Orderer 0) state → agreed.ballot % config.orderers ≡ 0
owner_at config agreed lists (Ordering node) o = (leading config agreed.ballot (length agreed.values) o.orderer.leader o.leads).2.owner
owner_at config agreed lists (Storing node) o = absurd o
owner_at config agreed lists (Gathering node) o = absurd o

pub decided_round : (config : Shape) (agreed : Agreed) (lists : ListsOf) (value : Value) (before after : Moment) → InRange config
    → IsSettled config agreed lists before → AreTold config lists before → IsNextDecision config agreed lists value
    → IsRound config Tick Done (orderer_node config 0) config.orderers before after
    → IsSettled config (decided_on agreed value) lists after
decided_round config agreed lists value before after range old told next round =
    let odd = range.odd in
    let some : 1 ≤ config.orderers = omega arith in
    decided_after (record { config = config; agreed = agreed; lists = lists; value = value })
    (record { range = range; owner = owner_at config agreed lists (before.nodes (orderer_node config 0)) (old.nodes (Orderer 0) some); some = some; next = next })
    before after old told round
