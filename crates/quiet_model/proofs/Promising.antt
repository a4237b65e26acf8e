-- The opening's letters: every orderer promises the first ballot, and orderer 0 leads with it.
use Rattle.std.proofs.Common.{◌≡◌, ◌⊎◌, ◌+◌, ◌*◌, ◌%◌, ◌<◌, ◌≤◌, ℕ, zero, suc, true, cond, ◌==◌, nat_lt, List, [], ◌∷◌, ◌++◌, length, Option, Some, None, refl, sym, ap, subst, inl, inr, arith, eq-eqb, ◌∙◌}
use Rattle.std.proofs.lemmas.Bool.{and_from, cond-false, cond-true, le-ltb, ne_eqb}
use Rattle.std.proofs.lemmas.List.{length-set}
use Rattle.std.proofs.lemmas.Nat.{mod-mul-add}
use Rattle.reply_frame.specs.declared.replies.Reply.{Nothing as Silence}
use Rattle.history_frame.specs.declared.events.Sent.{Sent}
use Rattle.history_frame.specs.declared.inputs.Input.TheVariants.{Deliver}
use Rattle.history_frame.specs.declared.inputs.Mark.TheVariants.{Done}
use Rattle.log_base.specs.ClusterShape.{InRange, Shape}
use Rattle.log_base.specs.declared.numbers.Ballot.{Ballot}
use Rattle.log_base.specs.declared.numbers.NodeId.{NodeId}
use Rattle.log_base.specs.declared.numbers.Slot.{Slot}
use Rattle.message_frame.specs.declared.messages.Message.{Message}
use Rattle.message_frame.specs.declared.messages.Message.TheVariants.{Prepare, Promised}
use Rattle.message_frame.specs.declared.messages.Vote.{Vote}
use Rattle.node_table.specs.Numbering.{orderer_node}
use Rattle.paxos_model.specs.Acceptor.{Granted, Refused, prepare}
use Rattle.paxos_model.specs.Leader.{Leader, Nothing, awaits_promise, merge, no_votes, with_promise}
use Rattle.paxos_model.specs.Learner.{cut_wish, nothing_heard, wish_of}
use Rattle.paxos_model.specs.Majority.{is_marked, marked}
use Rattle.paxos_model.specs.Votes.{Payload, Promise, reports, window_size}
use Rattle.record_frame.specs.declared.values.Value.TheVariants.{Noop}
use Rattle.node_model.specs.Marks.{Running}
use Rattle.node_model.specs.Messages.{promised_message}
use Rattle.node_model.specs.Nodes.{letter}
use Rattle.node_model.specs.NodeState.{Ordering, node_outcome}
use Rattle.node_model.specs.OrdererNode.{Change, Node, Orderer as OrdererMemory, fresh as fresh_orderer}
use Rattle.node_model.specs.OrdererRow.{go_on, on_prepare, on_promised, prepare_answer, promised_to, quiet, told, with_leader}
use Rattle.quiet_model.specs.Opening.{at_first, no_lists}
use Rattle.quiet_model.specs.Settled.{IsAcceptor}
use Rattle.quiet_model.proofs.Decision.{Decision, Renews, Promised_it, Promises_it, Is_prepared, ToOrderer}
use Rattle.quiet_model.proofs.Leading.{goes_on_as, merges_none, rests}
use Rattle.quiet_model.proofs.Many.{now_marked, still_marked}
use Rattle.quiet_model.proofs.Outcomes.{orderer_takes}
use Rattle.quiet_model.proofs.Voting.{none_reported, owner_is, promises}

-- what the opening decides: nothing
abbrev pub first_of : Shape → Decision
first_of config = record { config = config; agreed = at_first config; lists = no_lists config; value = Noop }

-- an orderer's list: empty, or with its promise
abbrev pub IsPromise : ℕ → List Payload → Type 0
IsPromise ballot list = (list ≡ []) ⊎ (list ≡ Promise ballot ∷ [])

abbrev pub IsFreshAt : Shape → ℕ → OrdererMemory → Type 0
IsFreshAt config zero o = Unit {0}
IsFreshAt config (suc i) o = o ≡ fresh_orderer config

pub record IsPromiser (config : Shape) (i : ℕ) (node : Node) : Type 0 where
  pub orderer : OrdererMemory
  pub runs : node.mode ≡ Running orderer
  pub list : IsPromise config.orderers node.durable
  pub fresh : IsFreshAt config i orderer

-- the leader whose ballot is being promised
pub record IsBeginner (config : Shape) (o : OrdererMemory) : Type 0 where
  pub knows : o.known ≡ []
  pub no_wish : o.wishes ≡ []
  pub heard : o.heard ≡ nothing_heard (config.shards * config.replicas)
  pub leader : Leader
  pub leads : o.leader ≡ Some leader
  pub owns : leader.ballot ≡ config.orderers
  pub window : leader.window ≡ 0
  pub none_reported : leader.best ≡ no_votes
  pub none_pending : leader.pending ≡ None
  pub size : length leader.answered ≡ 7

abbrev pub IsOpeningMessage : Shape → ℕ → Message → Type 0
IsOpeningMessage config node (Prepare ballot slot) = ToOrderer (first_of config) node × (ballot.0 ≡ config.orderers) × (slot.0 ≡ 0)
IsOpeningMessage config node (Promised ballot slot who reported) =
    (node ≡ orderer_node config 0) × (ballot.0 ≡ config.orderers) × (slot.0 ≡ 0) × (who < config.orderers) × (reported ≡ [])
IsOpeningMessage config node _ = ⊥

abbrev pub IsOpeningLetter : Shape → Sent → Type 0
IsOpeningLetter config sent = IsOpeningMessage config sent.to.0 sent.message

module _ (config : Shape) (range : InRange config) (some : 1 ≤ config.orderers) where
  pub owner : config.orderers % config.orderers ≡ 0
  owner =
      let same : 1 * config.orderers + 0 ≡ config.orderers = omega arith in
      subst (λ (n : ℕ). n % config.orderers ≡ 0) same (mod-mul-add 1 config.orderers 0 (omega arith))

  pub with_promise_cast : IsAcceptor config.orderers 0 (Promise config.orderers ∷ [])
  with_promise_cast = record { promise = omega arith; voted = tt }

  -- ---- a request for the promise

  module _ (i : ℕ) (o : OrdererMemory) where
    first_granted : prepare [] config.orderers 0 ≡ Granted (Some (Promise config.orderers)) []
    unfolding prepare
    first_granted =
        cond-false (nat_lt config.orderers 0) (Refused 0)
        (cond (config.orderers == 0) (Granted None (reports config.orderers 0 window_size [])) (Granted (Some (Promise config.orderers)) (reports config.orderers 0 window_size [])))
        (le-ltb config.orderers 0 (omega arith))
        ∙ cond-false (config.orderers == 0) (Granted None (reports config.orderers 0 window_size [])) (Granted (Some (Promise config.orderers)) (reports config.orderers 0 window_size []))
        (ne_eqb config.orderers 0 (λ e. absurd (omega arith)))
        ∙ ap (Granted (Some (Promise config.orderers))) (none_reported config config.orderers owner i [] o 0 [] tt 0 window_size)

    first_promise : on_prepare config i [] o config.orderers 0
        ≡ record { put = Some (Promise config.orderers); after = o; outputs = letter (orderer_node config 0) (promised_message config.orderers 0 i []) ∷ []; reply = Silence }
    unfolding on_prepare
    first_promise =
        ap (prepare_answer config i o config.orderers 0) first_granted
        ∙ ap (λ outs. let change : Change = record { put = Some (Promise config.orderers); after = o; outputs = outs; reply = Silence } in change)
        (owner_is config config.orderers owner i [] o (promised_message config.orderers 0 i []))

  -- what a request makes of an orderer
  pub record Promises (i : ℕ) (node : Node) (h : IsPromiser config i node) (ballot : Ballot) (slot : Slot) (place index : ℕ) : Type 0 where
    pub after : Node
    pub rule : node_outcome config (orderer_node config i) (Ordering node) (Deliver place index (Some (Prepare ballot slot))) Done
        ≡ Some (record { state = Ordering after; outputs = letter (orderer_node config 0) (promised_message config.orderers 0 i []) ∷ []; reply = Silence })
    pub durable : after.durable ≡ Promise config.orderers ∷ []
    pub mode : after.mode ≡ Running h.orderer

  pub promises_by : (i : ℕ) (b : i < config.orderers) (node : Node) (h : IsPromiser config i node) (ballot : Ballot) (slot : Slot) → ballot.0 ≡ config.orderers → slot.0 ≡ 0 → (place index : ℕ)
      → IsPromise config.orderers node.durable → Promises i node h ballot slot place index
  promises_by i b node h ballot slot e f place index (inl empty) =
      let change : Change = record { put = Some (Promise config.orderers); after = h.orderer; outputs = letter (orderer_node config 0) (promised_message config.orderers 0 i []) ∷ []; reply = Silence } in
      record {
        after = record { durable = node.durable ++ Promise config.orderers ∷ []; mode = Running h.orderer };
        rule = orderer_takes config i b node h.orderer change h.runs (Deliver place index (Some (Prepare ballot slot))) refl
            (ap Some
            (ap (λ (list : List Payload). on_prepare config i list h.orderer ballot.0 slot.0) empty
            ∙ ap (λ (n : ℕ). on_prepare config i [] h.orderer n slot.0) e
            ∙ ap (λ (n : ℕ). on_prepare config i [] h.orderer config.orderers n) f
            ∙ first_promise i h.orderer));
        durable = ap (λ (list : List Payload). list ++ Promise config.orderers ∷ []) empty;
        mode = refl;
      }
  promises_by i b node h ballot slot e f place index (inr one) =
      let change : Change = record { put = None; after = h.orderer; outputs = letter (orderer_node config 0) (promised_message config.orderers 0 i []) ∷ []; reply = Silence } in
      record {
        after = record { durable = node.durable; mode = Running h.orderer };
        rule = orderer_takes config i b node h.orderer change h.runs (Deliver place index (Some (Prepare ballot slot))) refl
            (ap Some
            (ap (λ (list : List Payload). on_prepare config i list h.orderer ballot.0 slot.0) one
            ∙ ap (λ (n : ℕ). on_prepare config i (Promise config.orderers ∷ []) h.orderer n slot.0) e
            ∙ ap (λ (n : ℕ). on_prepare config i (Promise config.orderers ∷ []) h.orderer config.orderers n) f
            ∙ promises config config.orderers owner i (Promise config.orderers ∷ []) h.orderer 0 0 with_promise_cast));
        durable = one;
        mode = refl;
      }

  -- ---- a promise that comes to the leader

  no_wish : wish_of config.replicas [] (nothing_heard (config.shards * config.replicas)) [] ≡ None
  unfolding cut_wish
  no_wish = refl

  module _ (node : Node) (h : IsPromiser config 0 node) (o : IsBeginner config h.orderer) (ballot : Ballot) (slot : Slot) (who : ℕ) (reported : List Vote)
      (e : ballot.0 ≡ config.orderers) (f : slot.0 ≡ 0) (none : reported ≡ []) (below : who < config.orderers) (place index : ℕ) where
    abbrev counted_leader : Leader
    counted_leader = with_promise o.leader who reported

    abbrev pub counted_memory : OrdererMemory
    counted_memory = with_leader h.orderer (Some counted_leader)

    pub best_is : (with_promise o.leader who reported).best ≡ no_votes
    best_is =
        ap (λ (given : List Vote). merge o.leader.window o.leader.best given) none
        ∙ ap (λ (best : List (Option Vote)). merge o.leader.window best []) o.none_reported
        ∙ merges_none o.leader.window

    wish_is : wish_of config.replicas h.orderer.known h.orderer.heard h.orderer.wishes ≡ None
    wish_is =
        ap (λ values. wish_of config.replicas values h.orderer.heard h.orderer.wishes) o.knows
        ∙ ap (λ heard. wish_of config.replicas [] heard h.orderer.wishes) o.heard
        ∙ ap (λ wishes. wish_of config.replicas [] (nothing_heard (config.shards * config.replicas)) wishes) o.no_wish
        ∙ no_wish

    counted_row : on_promised config h.orderer ballot.0 slot.0 who reported ≡ told counted_memory []
    unfolding on_promised
    counted_row =
        ap (λ (l : Option Leader). promised_to config h.orderer l ballot.0 slot.0 who reported) o.leads
        ∙ cond-true (awaits_promise o.leader ballot.0 slot.0) (go_on config h.orderer counted_leader []) (quiet h.orderer)
        (and_from (o.leader.ballot == ballot.0) (o.leader.window == slot.0) (eq-eqb o.leader.ballot ballot.0 (o.owns ∙ sym e)) (eq-eqb o.leader.window slot.0 (o.window ∙ sym f)))
        ∙ goes_on_as config h.orderer counted_leader [] None (record { leader = counted_leader; next = Nothing }) wish_is
        (rests config.orderers counted_leader (length h.orderer.known) o.none_pending best_is (λ few. let none_known = ap length o.knows in omega arith))

    pub counted_rule : node_outcome config (orderer_node config 0) (Ordering node) (Deliver place index (Some (Promised ballot slot who reported))) Done
        ≡ Some (record { state = Ordering (record { durable = node.durable; mode = Running counted_memory }); outputs = []; reply = Silence })
    counted_rule = orderer_takes config 0 some node h.orderer (told counted_memory []) h.runs (Deliver place index (Some (Promised ballot slot who reported))) refl (ap Some counted_row)

    abbrev pub counted_beginner : IsBeginner config counted_memory
    counted_beginner = record {
      knows = o.knows;
      no_wish = o.no_wish;
      heard = o.heard;
      leader = counted_leader;
      leads = refl;
      owns = o.owns;
      window = o.window;
      none_reported = best_is;
      none_pending = o.none_pending;
      size = length-set o.leader.answered who true ∙ o.size;
    }

    room : who < length o.leader.answered
    room = omega (arith, o.size, range.orderers)

    pub counts_on : (queue : List Sent) (to : NodeId) (j : ℕ)
        → Renews (first_of config) (record { to = to; message = Promised ballot slot who reported } ∷ queue) o.leader.answered j
        → Renews (first_of config) queue (marked o.leader.answered who) j
    counts_on queue to j (Promised_it m) = Promised_it (still_marked o.leader.answered who room j m)
    counts_on queue to j (Promises_it (inl same)) = Promised_it (subst (λ (n : ℕ). is_marked (marked o.leader.answered who) n ≡ true) same (now_marked o.leader.answered who room))
    counts_on queue to j (Promises_it (inr w)) = Promises_it w
    counts_on queue to j (Is_prepared (inl asked)) = absurd asked.1
    counts_on queue to j (Is_prepared (inr w)) = Is_prepared w
