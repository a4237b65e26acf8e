-- The opening: from nodes that are down with empty disks to a settled moment.
use Rattle.std.proofs.Common.{◌≡◌, ◌+◌, ◌*◌, ◌<◌, ◌≤◌, ℕ, zero, suc, Bool, true, List, [], ◌∷◌, ◌++◌, Some, refl, sym, ap, subst, inl, inr, ⊎_elim, arith, append-nil, ◌∙◌}
use Rattle.std.specs.List.{AllByRecursion}
use Rattle.std.proofs.lemmas.List.{length-replicate}
use Rattle.std.proofs.lemmas.Option.{same_Some}
use Rattle.reply_frame.specs.declared.replies.Reply.{Reply, Nothing as Silence}
use Rattle.history_frame.specs.declared.events.Sent.{Sent}
use Rattle.history_frame.specs.declared.inputs.Input.TheVariants.{Deliver, Lead}
use Rattle.history_frame.specs.declared.inputs.Mark.TheVariants.{Done}
use Rattle.log_base.specs.ClusterShape.{InRange, Shape}
use Rattle.log_base.specs.declared.numbers.Ballot.{Ballot}
use Rattle.log_base.specs.declared.numbers.NodeId.{NodeId}
use Rattle.log_base.specs.declared.numbers.Slot.{Slot}
use Rattle.message_frame.specs.declared.messages.Message.{Message}
use Rattle.message_frame.specs.declared.messages.Message.TheVariants.{Copy, CopyAck, Report, Least, Prepare, Promised, Lower, Accept, Accepted, Decide, Want}
use Rattle.message_frame.specs.declared.messages.Vote.{Vote}
use Rattle.node_table.specs.declared.role.Role.{Role}
use Rattle.node_table.specs.declared.role.Role.TheVariants.{Storage, Gatherer, Orderer}
use Rattle.node_table.specs.Numbering.{IsRole, node_of, nodes_of, orderer_node}
use Rattle.node_table.proofs.Roles.{node_of-lt}
use Rattle.paxos_model.specs.Leader.{leader_from}
use Rattle.paxos_model.specs.Learner.{nothing_heard}
use Rattle.paxos_model.specs.Majority.{is_marked, marked}
use Rattle.paxos_model.specs.Votes.{Payload, Promise}
use Rattle.node_model.specs.Marks.{Running}
use Rattle.node_model.specs.Messages.{prepare_message, promised_message}
use Rattle.node_model.specs.Nodes.{letter, to_orderers}
use Rattle.node_model.specs.NodeState.{NodeOutcome, NodeState, Storing, Gathering, Ordering, node_outcome}
use Rattle.node_model.specs.OrdererNode.{Change, Mode as OrdererMode, Node, Orderer as OrdererMemory, fresh as fresh_orderer}
use Rattle.node_model.specs.OrdererRow.{on_lead, with_leader}
use Rattle.node_model.proofs.Letters.{all_append}
use Rattle.quiet_model.specs.Moments.{DeliveredIn, IsDelivery, Moment, Takes}
use Rattle.quiet_model.specs.Opening.{IsBeginning, IsOpening, at_first, no_lists}
use Rattle.quiet_model.specs.Settled.{IsAcceptor, IsHeardCut, IsOrderer, IsSettled, LeadsAlone}
use Rattle.quiet_model.proofs.Decision.{PrepareTo, PromisedFrom, Renews, Promised_it, Promises_it, Is_prepared, ToOrderer, memory_by, memory_in}
use Rattle.quiet_model.proofs.Gathering.{IsSettledNode}
use Rattle.quiet_model.proofs.Leading.{all_are_most, marks_size}
use Rattle.quiet_model.proofs.Many.{each_orderer, to_each}
use Rattle.quiet_model.proofs.Moving.{Moves, moved, same_role}
use Rattle.quiet_model.proofs.Outcomes.{orderer_takes}
use Rattle.quiet_model.proofs.Promising.{IsBeginner, IsOpeningLetter, IsOpeningMessage, IsPromiser, Promises, counted_beginner, counted_memory, counted_rule, counts_on, first_of, owner, promises_by, with_promise_cast}
use Rattle.quiet_model.proofs.Starting.{IsFresh, IsStarted, IsStarting, all_started, lead_row, zero_at}
use Rattle.quiet_model.proofs.VoteTaken.{same_index}
use Rattle.quiet_model.proofs.Waiting.{Waits, waits_left, waits_right}

-- a node while the first ballot is being promised
abbrev pub IsOpen : Shape → Role → NodeState → Type 0
IsOpen config (Storage s r) state = IsStarted config (Storage s r) state
IsOpen config (Gatherer i) state = IsStarted config (Gatherer i) state
IsOpen config (Orderer i) (Ordering node) = IsPromiser config i node
IsOpen config (Orderer i) _ = ⊥

-- an orderer has promised, or is asked to
abbrev pub list_of : NodeState → List Payload
list_of (Storing node) = []
list_of (Gathering node) = []
list_of (Ordering node) = node.durable

pub data HasPromised (config : Shape) (nodes : ℕ → NodeState) (queue : List Sent) (j : ℕ) : Type 0 where
  Has_it : list_of (nodes (orderer_node config j)) ≡ Promise config.orderers ∷ [] → HasPromised config nodes queue j
  Is_asked : Waits (PrepareTo (first_of config) j) queue → HasPromised config nodes queue j

pub record IsBegun (config : Shape) (moment : Moment) : Type 0 where
  pub nodes : (role : Role) → IsRole config role → IsOpen config role (moment.nodes (node_of config role))
  pub letters : AllByRecursion (IsOpeningLetter config) moment.queue
  pub orderer : OrdererMemory
  pub leads : memory_in (moment.nodes (orderer_node config 0)) ≡ Some orderer
  pub beginner : IsBeginner config orderer
  pub renews : (j : ℕ) → j < config.orderers → Renews (first_of config) moment.queue beginner.leader.answered j
  pub promised : (j : ℕ) → j < config.orderers → HasPromised config moment.nodes moment.queue j

module _ (config : Shape) (range : InRange config) (some : 1 ≤ config.orderers) where
  -- ---- the letters

  module _ (nodes : ℕ → NodeState) (rest : List Sent) (to : NodeId) (after : Moment) (place index : ℕ) (reply : Reply) where
    abbrev Comes : Message → Type 0
    Comes m = Takes config (record { nodes = nodes; queue = rest }) to.0 (Deliver place index (Some m)) Done reply after

    abbrev Begun : Message → Type 0
    Begun m = IsBegun config (record { nodes = nodes; queue = record { to = to; message = m } ∷ rest })

    -- a request for the promise
    prepared_at : (ballot : Ballot) (slot : Slot) (i : ToOrderer (first_of config) to.0) → ballot.0 ≡ config.orderers → slot.0 ≡ 0
        → Begun (Prepare ballot slot) → Comes (Prepare ballot slot) → (state : NodeState) → nodes (orderer_node config i.index) ≡ state → IsOpen config (Orderer i.index) state → IsBegun config after
    prepared_at ballot slot i e f old takes (Ordering node) is h = record {
      nodes = λ other a.
          ⊎_elim
          (λ same. subst (λ (y : Role). IsOpen config y (after.nodes (node_of config y))) (sym same) (subst (IsOpen config (Orderer i.index)) (sym moves.here) voter))
          (λ same. subst (IsOpen config other) (sym same) (old.nodes other a))
          (moves.others other a);
      letters = subst (AllByRecursion (IsOpeningLetter config)) (sym moves.posted)
          (all_append (IsOpeningLetter config) rest made.outputs old.letters.1 ((refl, refl, refl, i.below, refl), tt));
      orderer = old.orderer;
      leads = memory_stays ∙ old.leads;
      beginner = old.beginner;
      renews = λ j b. renews_now j b (old.renews j b);
      promised = λ j b. promised_now j b (old.promised j b);
    }
      where
        t : Promises config range some i.index node h ballot slot place index
        t = promises_by config range some i.index i.below node h ballot slot e f place index h.list

        made : NodeOutcome
        made = record { state = Ordering t.after; outputs = letter (orderer_node config 0) (promised_message config.orderers 0 i.index []) ∷ []; reply = Silence }

        moves : Moves config (record { nodes = nodes; queue = rest }) after (Orderer i.index) made
        moves =
            moved config (record { nodes = nodes; queue = rest }) after (Orderer i.index) (Deliver place index (Some (Prepare ballot slot))) Done reply i.below
            (subst (λ (n : ℕ). Takes config (record { nodes = nodes; queue = rest }) n (Deliver place index (Some (Prepare ballot slot))) Done reply after) i.at takes) made
            (ap (λ (state : NodeState). node_outcome config (orderer_node config i.index) state (Deliver place index (Some (Prepare ballot slot))) Done) is ∙ t.rule)

        voter : IsPromiser config i.index t.after
        voter = record { orderer = h.orderer; runs = t.mode; list = inr t.durable; fresh = h.fresh }

        memory_stays : memory_in (after.nodes (orderer_node config 0)) ≡ memory_in (nodes (orderer_node config 0))
        memory_stays =
            ⊎_elim
            (λ same. subst (λ (y : Role). memory_in (after.nodes (node_of config y)) ≡ memory_in (nodes (node_of config y))) (sym same)
            (ap (λ (state : NodeState). memory_in state) moves.here
            ∙ ap (λ (mode : OrdererMode). memory_by mode) t.mode
            ∙ sym (ap (λ (state : NodeState). memory_in state) is ∙ ap (λ (mode : OrdererMode). memory_by mode) h.runs)))
            (λ same. ap (λ (state : NodeState). memory_in state) same)
            (moves.others (Orderer 0) some)

        still : (P : Sent → Type 0) → Waits P rest → Waits P after.queue
        still P w = subst (Waits P) (sym moves.posted) (waits_left P rest made.outputs w)

        who_is : (j : ℕ) → j < config.orderers → to.0 ≡ orderer_node config j → i.index ≡ j
        who_is j b at = same_index i.index j (same_role config (Orderer i.index) (Orderer j) i.below b (sym i.at ∙ at))

        renews_now : (j : ℕ) → j < config.orderers → Renews (first_of config) (record { to = to; message = Prepare ballot slot } ∷ rest) old.beginner.leader.answered j
            → Renews (first_of config) after.queue old.beginner.leader.answered j
        renews_now j b (Promised_it m) = Promised_it m
        renews_now j b (Promises_it (inl other)) = absurd other
        renews_now j b (Promises_it (inr w)) = Promises_it (still (PromisedFrom j) w)
        renews_now j b (Is_prepared (inl asked)) = Promises_it (subst (Waits (PromisedFrom j)) (sym moves.posted) (waits_right (PromisedFrom j) rest made.outputs (inl (who_is j b asked.0))))
        renews_now j b (Is_prepared (inr w)) = Is_prepared (still (PrepareTo (first_of config) j) w)

        list_now : (j : ℕ) → i.index ≡ j → list_of (after.nodes (orderer_node config j)) ≡ Promise config.orderers ∷ []
        list_now j same = subst (λ (n : ℕ). list_of (after.nodes (orderer_node config n)) ≡ Promise config.orderers ∷ []) same (ap (λ (state : NodeState). list_of state) moves.here ∙ t.durable)

        promised_now : (j : ℕ) → j < config.orderers → HasPromised config nodes (record { to = to; message = Prepare ballot slot } ∷ rest) j → HasPromised config after.nodes after.queue j
        promised_now j b (Has_it l) =
            ⊎_elim
            (λ same. Has_it (list_now j (sym (same_index j i.index same))))
            (λ same. Has_it (ap (λ (state : NodeState). list_of state) same ∙ l))
            (moves.others (Orderer j) b)
        promised_now j b (Is_asked (inl asked)) = Has_it (list_now j (who_is j b asked.0))
        promised_now j b (Is_asked (inr w)) = Is_asked (still (PrepareTo (first_of config) j) w)
    prepared_at ballot slot i e f old takes (Storing node) is h = absurd h
    prepared_at ballot slot i e f old takes (Gathering node) is h = absurd h

    -- a promise
    promised_at : (ballot : Ballot) (slot : Slot) (who : ℕ) (reported : List Vote) → to.0 ≡ orderer_node config 0 → ballot.0 ≡ config.orderers → slot.0 ≡ 0 → who < config.orderers → reported ≡ []
        → Begun (Promised ballot slot who reported) → Comes (Promised ballot slot who reported)
        → (state : NodeState) → nodes (orderer_node config 0) ≡ state → IsOpen config (Orderer 0) state → IsBegun config after
    promised_at ballot slot who reported at e f below none old takes (Ordering node) is h = record {
      nodes = λ other a.
          ⊎_elim
          (λ same. subst (λ (y : Role). IsOpen config y (after.nodes (node_of config y))) (sym same) (subst (IsOpen config (Orderer 0)) (sym moves.here) voter))
          (λ same. subst (IsOpen config other) (sym same) (old.nodes other a))
          (moves.others other a);
      letters = subst (AllByRecursion (IsOpeningLetter config)) (sym queue_is) old.letters.1;
      orderer = now;
      leads = ap (λ (state : NodeState). memory_in state) moves.here;
      beginner = counted_beginner config range some node h own ballot slot who reported e f none below place index;
      renews = λ j b. subst (λ (queue : List Sent). Renews (first_of config) queue (marked own.leader.answered who) j) (sym queue_is)
          (counts_on config range some node h own ballot slot who reported e f none below place index rest to j (own_renews j b));
      promised = λ j b. promised_now j b (old.promised j b);
    }
      where
        same_memory : old.orderer ≡ h.orderer
        same_memory = same_Some old.orderer h.orderer (sym old.leads ∙ ap (λ (state : NodeState). memory_in state) is ∙ ap (λ (mode : OrdererMode). memory_by mode) h.runs)

        both : (o : IsBeginner config h.orderer) × ((j : ℕ) → j < config.orderers → Renews (first_of config) (record { to = to; message = Promised ballot slot who reported } ∷ rest) o.leader.answered j)
        both =
            subst
            (λ (m : OrdererMemory). (o : IsBeginner config m) × ((j : ℕ) → j < config.orderers → Renews (first_of config) (record { to = to; message = Promised ballot slot who reported } ∷ rest) o.leader.answered j))
            same_memory (old.beginner, old.renews)

        own : IsBeginner config h.orderer
        own = both.0

        own_renews : (j : ℕ) → j < config.orderers → Renews (first_of config) (record { to = to; message = Promised ballot slot who reported } ∷ rest) own.leader.answered j
        own_renews = both.1

        now : OrdererMemory
        now = counted_memory config range some node h own ballot slot who reported e f none below place index

        made : NodeOutcome
        made = record { state = Ordering (record { durable = node.durable; mode = Running now }); outputs = []; reply = Silence }

        moves : Moves config (record { nodes = nodes; queue = rest }) after (Orderer 0) made
        moves =
            moved config (record { nodes = nodes; queue = rest }) after (Orderer 0) (Deliver place index (Some (Promised ballot slot who reported))) Done reply some
            (subst (λ (n : ℕ). Takes config (record { nodes = nodes; queue = rest }) n (Deliver place index (Some (Promised ballot slot who reported))) Done reply after) at takes) made
            (ap (λ (state : NodeState). node_outcome config (orderer_node config 0) state (Deliver place index (Some (Promised ballot slot who reported))) Done) is
            ∙ counted_rule config range some node h own ballot slot who reported e f none below place index)

        queue_is : after.queue ≡ rest
        queue_is = moves.posted ∙ append-nil rest

        voter : IsPromiser config 0 (record { durable = node.durable; mode = Running now })
        voter = record { orderer = now; runs = refl; list = h.list; fresh = tt }

        promised_now : (j : ℕ) → j < config.orderers → HasPromised config nodes (record { to = to; message = Promised ballot slot who reported } ∷ rest) j → HasPromised config after.nodes after.queue j
        promised_now j b (Has_it l) =
            ⊎_elim
            (λ same. Has_it
            (subst (λ (y : Role). list_of (nodes (node_of config y)) ≡ Promise config.orderers ∷ [] → list_of (after.nodes (node_of config y)) ≡ Promise config.orderers ∷ []) (sym same)
            (λ had. ap (λ (state : NodeState). list_of state) moves.here ∙ sym (ap (λ (state : NodeState). list_of state) is) ∙ had) l))
            (λ same. Has_it (ap (λ (state : NodeState). list_of state) same ∙ l))
            (moves.others (Orderer j) b)
        promised_now j b (Is_asked (inl asked)) = absurd asked.1
        promised_now j b (Is_asked (inr w)) = Is_asked (subst (Waits (PrepareTo (first_of config) j)) (sym queue_is) w)
    promised_at ballot slot who reported at e f below none old takes (Storing node) is h = absurd h
    promised_at ballot slot who reported at e f below none old takes (Gathering node) is h = absurd h

    delivered_as : (m : Message) → Begun m → Comes m → IsOpeningMessage config to.0 m → IsBegun config after
    delivered_as (Prepare ballot slot) old takes g =
        let i : ToOrderer (first_of config) to.0 = g.0 in
        prepared_at ballot slot i g.1 g.2 old takes (nodes (orderer_node config i.index)) refl (old.nodes (Orderer i.index) i.below)
    delivered_as (Promised ballot slot who reported) old takes g =
        promised_at ballot slot who reported g.0 g.1 g.2 g.3 g.4 old takes (nodes (orderer_node config 0)) refl (old.nodes (Orderer 0) some)
    delivered_as (Copy segment offset entry) old takes g = absurd g
    delivered_as (CopyAck peer held) old takes g = absurd g
    delivered_as (Report shard replica lengths) old takes g = absurd g
    delivered_as (Least shard lengths) old takes g = absurd g
    delivered_as (Lower ballot promise) old takes g = absurd g
    delivered_as (Accept ballot slot value) old takes g = absurd g
    delivered_as (Accepted ballot slot who) old takes g = absurd g
    delivered_as (Decide slot value) old takes g = absurd g
    delivered_as (Want slot asker) old takes g = absurd g

  delivered : (before after : Moment) → IsBegun config before → IsDelivery config before after → IsBegun config after
  delivered before after old v =
      let now : IsBegun config (record { nodes = before.nodes; queue = v.sent ∷ v.rest }) =
      subst (λ (queue : List Sent). IsBegun config (record { nodes = before.nodes; queue = queue })) v.first old in
      delivered_as before.nodes v.rest v.sent.to after v.place v.index v.reply v.sent.message now v.taken now.letters.0

  all_delivered : (count : ℕ) (before after : Moment) → IsBegun config before → DeliveredIn config count before after → IsBegun config after
  all_delivered zero before after old same = subst (IsBegun config) same old
  all_delivered (suc count) before after old more = all_delivered count more.0 after (delivered before more.0 old more.1) more.2

  -- ---- orderer 0 is to lead

  opens : (role : Role) (state : NodeState) → IsStarted config role state → IsOpen config role state
  opens (Storage s r) state h = h
  opens (Gatherer i) state h = h
  opens (Orderer zero) (Ordering node) h = record { orderer = fresh_orderer config; runs = h.runs; list = inl h.empty; fresh = tt }
  opens (Orderer (suc i)) (Ordering node) h = record { orderer = fresh_orderer config; runs = h.runs; list = inl h.empty; fresh = refl }
  opens (Orderer i) (Storing node) h = absurd h
  opens (Orderer i) (Gathering node) h = absurd h

  abbrev lead_memory : OrdererMemory
  lead_memory = with_leader (fresh_orderer config) (Some (leader_from config.orderers 0))

  abbrev lead_change : Change
  lead_change = record { put = Some (Promise config.orderers); after = lead_memory; outputs = to_orderers config (prepare_message config.orderers 0); reply = Silence }

  module _ (before after : Moment) (started : IsStarting config (nodes_of config) before) (reply : Reply) (takes : Takes config before (orderer_node config 0) Lead Done reply after)
      (node : Node) (is : before.nodes (orderer_node config 0) ≡ Ordering node) (h : IsFresh config node) where
    abbrev lead_made : NodeOutcome
    lead_made = record { state = Ordering (record { durable = node.durable ++ Promise config.orderers ∷ []; mode = Running lead_memory }); outputs = lead_change.outputs; reply = Silence }

    lead_moves : Moves config before after (Orderer 0) lead_made
    lead_moves =
        moved config before after (Orderer 0) Lead Done reply some takes lead_made
        (ap (λ (state : NodeState). node_outcome config (orderer_node config 0) state Lead Done) is
        ∙ orderer_takes config 0 some node (fresh_orderer config) lead_change h.runs Lead refl
        (ap Some (ap (λ (list : List Payload). on_lead config 0 list (fresh_orderer config)) h.empty ∙ lead_row config range some)))

    list_is : node.durable ++ Promise config.orderers ∷ [] ≡ Promise config.orderers ∷ []
    list_is = ap (λ (list : List Payload). list ++ Promise config.orderers ∷ []) h.empty

    lead_voter : IsPromiser config 0 (record { durable = node.durable ++ Promise config.orderers ∷ []; mode = Running lead_memory })
    lead_voter = record { orderer = lead_memory; runs = refl; list = inr list_is; fresh = tt }

    queue_is : after.queue ≡ to_orderers config (prepare_message config.orderers 0)
    queue_is = lead_moves.posted ∙ ap (λ (queue : List Sent). queue ++ lead_change.outputs) started.queue

    asked : (j : ℕ) → j < config.orderers → Waits (PrepareTo (first_of config) j) after.queue
    asked j b =
        subst (Waits (PrepareTo (first_of config) j)) (sym queue_is)
        (to_each (first_of config) (PrepareTo (first_of config) j) (prepare_message config.orderers 0) j b (refl, tt))

    pub begun_by : IsBegun config after
    begun_by = record {
      nodes = λ other a.
          ⊎_elim
          (λ same. subst (λ (y : Role). IsOpen config y (after.nodes (node_of config y))) (sym same) (subst (IsOpen config (Orderer 0)) (sym lead_moves.here) lead_voter))
          (λ same. subst (IsOpen config other) (sym same) (opens other (before.nodes (node_of config other)) (started.up other a (node_of-lt config other a))))
          (lead_moves.others other a);
      letters = subst (AllByRecursion (IsOpeningLetter config)) (sym queue_is)
          (each_orderer (first_of config) (IsOpeningLetter config) (prepare_message config.orderers 0) (λ n orderer. (orderer, refl, refl)));
      orderer = lead_memory;
      leads = ap (λ (state : NodeState). memory_in state) lead_moves.here;
      beginner = record {
        knows = refl;
        no_wish = refl;
        heard = refl;
        leader = leader_from config.orderers 0;
        leads = refl;
        owns = refl;
        window = refl;
        none_reported = refl;
        none_pending = refl;
        size = marks_size;
      };
      renews = λ j b. Is_prepared (asked j b);
      promised = λ j b. Is_asked (asked j b);
    }

  lead_at : (before after : Moment) → IsStarting config (nodes_of config) before → (reply : Reply) → Takes config before (orderer_node config 0) Lead Done reply after
      → (state : NodeState) → before.nodes (orderer_node config 0) ≡ state → IsStarted config (Orderer 0) state → IsBegun config after
  lead_at before after started reply takes (Ordering node) is h = begun_by before after started reply takes node is h
  lead_at before after started reply takes (Storing node) is h = absurd h
  lead_at before after started reply takes (Gathering node) is h = absurd h

  -- ---- the end

  none_heard : IsHeardCut config (no_lists config) (nothing_heard (config.shards * config.replicas))
  unfolding nothing_heard
  none_heard = record {
    count = refl;
    cells = refl;
    held = λ s p a b. omega (arith, zero_at 32 (s * config.replicas + p));
    rest = λ k past. zero_at 32 k;
  }

  module _ (nodes : ℕ → NodeState) (u : IsBegun config (record { nodes = nodes; queue = [] })) where
    marked_all : (marks : List Bool) (j : ℕ) → Renews (first_of config) [] marks j → is_marked marks j ≡ true
    marked_all marks j (Promised_it m) = m
    marked_all marks j (Promises_it w) = absurd w
    marked_all marks j (Is_prepared w) = absurd w

    list_all : (j : ℕ) → HasPromised config nodes [] j → list_of (nodes (orderer_node config j)) ≡ Promise config.orderers ∷ []
    list_all j (Has_it l) = l
    list_all j (Is_asked w) = absurd w

    cast_of : (i : ℕ) → i < config.orderers → (node : Node) → nodes (orderer_node config i) ≡ Ordering node → IsAcceptor config.orderers 0 node.durable
    cast_of i b node is =
        subst (IsAcceptor config.orderers 0)
        (sym (sym (ap (λ (state : NodeState). list_of state) is) ∙ list_all i (u.promised i b))) (with_promise_cast config range some)

    leader_ends : (node : Node) → nodes (orderer_node config 0) ≡ Ordering node → IsPromiser config 0 node → IsOrderer config (at_first config) 0 (no_lists config) node
    leader_ends node is h =
        let o : IsBeginner config u.orderer = u.beginner in
        let same : h.orderer ≡ u.orderer =
        same_Some h.orderer u.orderer (sym (ap (λ (state : NodeState). memory_in state) is ∙ ap (λ (mode : OrdererMode). memory_by mode) h.runs) ∙ u.leads) in
        record {
          orderer = u.orderer;
          runs = h.runs ∙ ap (λ (m : OrdererMemory). Running m) same;
          knows = o.knows;
          wishes = o.no_wish;
          heard = subst (IsHeardCut config (no_lists config)) (sym o.heard) none_heard;
          leads = subst (LeadsAlone config config.orderers 0 0) (sym o.leads) (record {
            owns = o.owns;
            owner = owner config range some;
            answered = all_are_most config.orderers o.leader.answered some (λ j b. marked_all o.leader.answered j (u.renews j b));
            none_reported = o.none_reported;
            none_pending = o.none_pending;
            begun = (let window = o.window in omega arith);
            within = λ few. omega arith;
          });
          cast = cast_of 0 some node is;
        }

    follower_ends : (i : ℕ) → suc i < config.orderers → (node : Node) → nodes (orderer_node config (suc i)) ≡ Ordering node → IsPromiser config (suc i) node
        → IsOrderer config (at_first config) (suc i) (no_lists config) node
    follower_ends i b node is h = record {
      orderer = fresh_orderer config;
      runs = h.runs ∙ ap (λ (m : OrdererMemory). Running m) h.fresh;
      knows = refl;
      wishes = refl;
      heard = none_heard;
      leads = tt;
      cast = cast_of (suc i) b node is;
    }

    node_ends : (role : Role) → IsRole config role → (state : NodeState) → nodes (node_of config role) ≡ state → IsOpen config role state → IsSettledNode config (at_first config) (no_lists config) role state
    node_ends (Storage s r) is (Storing node) e h = h
    node_ends (Gatherer i) is (Gathering node) e h = h
    node_ends (Orderer zero) is (Ordering node) e h = leader_ends node e h
    node_ends (Orderer (suc i)) is (Ordering node) e h = follower_ends i is node e h
    node_ends (Storage s r) is (Gathering node) e h = absurd h
    node_ends (Storage s r) is (Ordering node) e h = absurd h
    node_ends (Gatherer i) is (Storing node) e h = absurd h
    node_ends (Gatherer i) is (Ordering node) e h = absurd h
    node_ends (Orderer i) is (Storing node) e h = absurd h
    node_ends (Orderer i) is (Gathering node) e h = absurd h

    ended : IsSettled config (at_first config) (no_lists config) (record { nodes = nodes; queue = [] })
    ended = record {
      sizes = λ s a. length-replicate config.replicas [];
      nodes = λ role is. node_ends role is (nodes (node_of config role)) refl (u.nodes role is);
      queue = refl;
    }

  pub opened : (before after : Moment) → IsBeginning config before → IsOpening config before after → IsSettled config (at_first config) (no_lists config) after
  opened before after begun opening =
      let up : IsStarting config (nodes_of config) opening.started = all_started config range before opening.started begun opening.restarts in
      let turn = opening.lead.turns in
      let led : IsBegun config opening.lead.middle =
      subst (IsBegun config) turn.3
      (lead_at opening.started turn.1 up turn.0 turn.2 (opening.started.nodes (orderer_node config 0)) refl (up.up (Orderer 0) some (node_of-lt config (Orderer 0) some))) in
      subst (λ (queue : List Sent). IsSettled config (at_first config) (no_lists config) (record { nodes = after.nodes; queue = queue })) (sym opening.lead.deliveries.none_left)
      (ended after.nodes
      (subst (λ (queue : List Sent). IsBegun config (record { nodes = after.nodes; queue = queue })) opening.lead.deliveries.none_left
      (all_delivered opening.lead.deliveries.count opening.lead.middle after led opening.lead.deliveries.deliveries)))
