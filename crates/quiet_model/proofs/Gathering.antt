-- The gatherers' round: each tells every orderer the lengths of its shards' lists, and each orderer hears of them.
use Rattle.std.proofs.Common.{◌≡◌, ◌+◌, ◌-◌, ◌*◌, ◌/◌, ◌%◌, ◌<◌, ◌≤◌, ℕ, zero, suc, List, [], ◌∷◌, ◌++◌, length, Some, None, refl, sym, ap, subst, inl, inr, ⊎_elim, arith, append-nil, ◌∙◌}
use Rattle.std.specs.Prelude.{slice_index, slice_index_or}
use Rattle.std.proofs.lemmas.Bool.{cases_eq, cases_lt}
use Rattle.std.proofs.lemmas.List.{ext_get_or}
use Rattle.std.proofs.Math.Nat.{mul-le-mul_left}
use Rattle.aggregator.specs.Hearing.{Hearing}
use Rattle.reply_frame.specs.declared.replies.Reply.{Reply}
use Rattle.history_frame.specs.declared.events.Sent.{Sent}
use Rattle.history_frame.specs.declared.inputs.Input.TheVariants.{Deliver, Tick}
use Rattle.history_frame.specs.declared.inputs.Mark.TheVariants.{Done}
use Rattle.log_base.specs.ClusterShape.{InRange, Shape}
use Rattle.log_base.specs.declared.numbers.Shard.{Shard}
use Rattle.log_model.specs.Storage.{list_in, report_of}
use Rattle.message_frame.specs.declared.messages.Message.{Message}
use Rattle.message_frame.specs.declared.messages.Message.TheVariants.{Copy, CopyAck, Report, Least, Prepare, Promised, Lower, Accept, Accepted, Decide, Want}
use Rattle.node_table.specs.declared.role.Role.{Role}
use Rattle.node_table.specs.declared.role.Role.TheVariants.{Gatherer, Orderer}
use Rattle.node_table.specs.Numbering.{IsRole, gatherer_node, gatherer_of, node_of, orderer_node}
use Rattle.record_frame.specs.declared.values.Lengths.{Lengths}
use Rattle.node_model.specs.Marks.{Mode, Running}
use Rattle.node_model.specs.NodeState.{NodeOutcome, NodeState, Storing, Gathering, Ordering, node_outcome}
use Rattle.node_model.specs.OrdererNode.{Mode as OrdererMode}
use Rattle.node_model.proofs.Letters.{all_append}
use Rattle.quiet_model.specs.Moments.{DeliveredIn, IsDelivery, IsRound, Moment, TakeInTurn, Takes}
use Rattle.quiet_model.specs.Settled.{Agreed, AreHeard, AreLists, AreTold, IsHeardCut, IsSettled, ListsOf, Stands, all_acked, all_lengths, cell_by, cell_in, heard_by, heard_in, lists_from, lists_held}
use Rattle.quiet_model.proofs.Follows.{gatherer_below}
use Rattle.quiet_model.proofs.Lists.{report_at, report_cells, report_count, same_lengths}
use Rattle.quiet_model.proofs.Moving.{Moves, moved, same_role}
use Rattle.quiet_model.proofs.Raising.{length-lists_from, list_in-lists_from}
use Rattle.quiet_model.proofs.Telling.{AreTellingLetters, HasAll, IsGoodLeast, IsLeastOf, IsLeastTo, IsTellingLetter, IsTellingMessage, LeastTaken, gatherer_good, gatherer_sends, gatherer_ticks, least_taken}
use Rattle.quiet_model.proofs.Waiting.{Waits, waits_left, waits_right}
use Rattle.node_model.proofs.Lists.{list_in-past}

-- a node at a settled moment
abbrev pub IsSettledNode : Shape → Agreed → ListsOf → Role → NodeState → Type 0
IsSettledNode config agreed lists role state = Stands config agreed (lists_held lists) (all_acked lists) lists role state

-- the gatherers below a number have told every orderer
pub record IsTelling (config : Shape) (agreed : Agreed) (lists : ListsOf) (next : ℕ) (moment : Moment) : Type 0 where
  pub nodes : (role : Role) → IsRole config role → IsSettledNode config agreed lists role (moment.nodes (node_of config role))
  pub heard : AreHeard config lists moment
  pub letters : AreTellingLetters config lists moment.queue
  pub sent : (s i : ℕ) → s < config.shards → i < config.orderers → gatherer_of config s < next → Waits (IsLeastTo config s i) moment.queue

-- an orderer has heard all of a shard, or the least comes
pub data IsRaised (config : Shape) (lists : ListsOf) (s i : ℕ) (moment : Moment) : Type 0 where
  Raised : HasAll config lists s (heard_in (moment.nodes (orderer_node config i))) → IsRaised config lists s i moment
  Comes : Waits (IsLeastTo config s i) moment.queue → IsRaised config lists s i moment

pub record IsBeingTold (config : Shape) (agreed : Agreed) (lists : ListsOf) (moment : Moment) : Type 0 where
  pub nodes : (role : Role) → IsRole config role → IsSettledNode config agreed lists role (moment.nodes (node_of config role))
  pub heard : AreHeard config lists moment
  pub letters : AreTellingLetters config lists moment.queue
  pub told : (s i : ℕ) → s < config.shards → i < config.orderers → IsRaised config lists s i moment

-- what a tick makes of a gatherer
pub record GathererTicked (config : Shape) (agreed : Agreed) (lists : ListsOf) (index : ℕ) (state : NodeState) : Type 0 where
  pub made : NodeOutcome
  pub rule : node_outcome config (gatherer_node config index) state Tick Done ≡ Some made
  pub fine : IsSettledNode config agreed lists (Gatherer index) made.state
  pub cells : (place : ℕ) → cell_in made.state place ≡ cell_in state place
  pub letters : AreTellingLetters config lists made.outputs
  pub sent : (s i : ℕ) → s < config.shards → i < config.orderers → s % config.gatherers ≡ index → Waits (IsLeastTo config s i) made.outputs

-- what a least makes of an orderer
pub record OrdererTold (config : Shape) (agreed : Agreed) (lists : ListsOf) (i : ℕ) (state : NodeState) (shard : Shard) (said : Lengths) (place index : ℕ) : Type 0 where
  pub made : NodeOutcome
  pub rule : node_outcome config (orderer_node config i) state (Deliver place index (Some (Least shard said))) Done ≡ Some made
  pub fine : IsSettledNode config agreed lists (Orderer i) made.state
  pub stays : (t : ℕ) → t < config.shards → HasAll config lists t (heard_in state) → HasAll config lists t (heard_in made.state)
  pub now : HasAll config lists shard.0 (heard_in made.state)
  pub silent : made.outputs ≡ []

module _ (config : Shape) (range : InRange config) (agreed : Agreed) (lists : ListsOf) (sizes : AreLists config lists) where
  -- ---- the ticks

  tick_at : (index : ℕ) → index < config.gatherers → (state : NodeState) → IsSettledNode config agreed lists (Gatherer index) state
      → ((s r : ℕ) → s < config.shards → r < config.replicas → s % config.gatherers ≡ index → cell_in state (s * config.replicas + r) ≡ Some (report_of (lists s)))
      → GathererTicked config agreed lists index state
  tick_at index within (Gathering node) g heard = record {
    made = record { state = Gathering (record { durable = node.durable; mode = Running g.hearing }); outputs = _; reply = _ };
    rule = gatherer_ticks config range lists index within node g cells;
    fine = record { hearing = g.hearing; runs = refl; replicas = g.replicas; cells = g.cells; heard = g.heard };
    cells = λ place. sym (by place);
    letters = gatherer_good config range lists index within node g cells;
    sent = gatherer_sends config range lists index within node g cells;
  }
    where
      by : (place : ℕ) → cell_by node.mode place ≡ slice_index_or g.hearing.cells place None
      by place = ap (λ (mode : Mode ⊥ (Unit {0}) Hearing). cell_by mode place) g.runs

      cells : (s r : ℕ) → s < config.shards → r < config.replicas → s % config.gatherers ≡ index → slice_index_or g.hearing.cells (s * config.replicas + r) None ≡ Some (report_of (lists s))
      cells s r a b mine = sym (by (s * config.replicas + r)) ∙ heard s r a b mine
  tick_at index within (Storing node) g heard = absurd g
  tick_at index within (Ordering node) g heard = absurd g

  module _ (before after : Moment) (index : ℕ) (within : index < config.gatherers) (old : IsTelling config agreed lists (gatherer_node config index) before)
      (reply : Reply) (takes : Takes config before (gatherer_node config index) Tick Done reply after) where
    ticks : GathererTicked config agreed lists index (before.nodes (gatherer_node config index))
    ticks =
        tick_at index within (before.nodes (gatherer_node config index)) (old.nodes (Gatherer index) within)
        (λ s r a b mine.
        subst (λ (i : ℕ). cell_in (before.nodes (gatherer_node config i)) (s * config.replicas + r) ≡ Some (report_of (lists s))) mine (old.heard s r a b))

    moves : Moves config before after (Gatherer index) ticks.made
    moves = moved config before after (Gatherer index) Tick Done reply within takes ticks.made ticks.rule

    cells_stay : (s r : ℕ) → s < config.shards → cell_in (after.nodes (gatherer_of config s)) (s * config.replicas + r) ≡ cell_in (before.nodes (gatherer_of config s)) (s * config.replicas + r)
    cells_stay s r a =
        ⊎_elim
        (λ e. subst (λ (y : Role). cell_in (after.nodes (node_of config y)) (s * config.replicas + r) ≡ cell_in (before.nodes (node_of config y)) (s * config.replicas + r)) (sym e)
        (ap (λ (state : NodeState). cell_in state (s * config.replicas + r)) moves.here ∙ ticks.cells (s * config.replicas + r)))
        (λ same. ap (λ (state : NodeState). cell_in state (s * config.replicas + r)) same)
        (moves.others (Gatherer (s % config.gatherers)) (gatherer_below config s range))

    ticked : IsTelling config agreed lists (suc (gatherer_node config index)) after
    ticked = record {
      nodes = λ other is.
          ⊎_elim
          (λ e. subst (λ (y : Role). IsSettledNode config agreed lists y (after.nodes (node_of config y))) (sym e)
          (subst (IsSettledNode config agreed lists (Gatherer index)) (sym moves.here) ticks.fine))
          (λ same. subst (IsSettledNode config agreed lists other) (sym same) (old.nodes other is))
          (moves.others other is);
      heard = λ s r a b. cells_stay s r a ∙ old.heard s r a b;
      letters = subst (AreTellingLetters config lists) (sym moves.posted) (all_append (IsTellingLetter config lists) before.queue ticks.made.outputs old.letters ticks.letters);
      sent = λ s i a b below.
          subst (Waits (IsLeastTo config s i)) (sym moves.posted)
          (⊎_elim
          (λ mine. waits_right (IsLeastTo config s i) before.queue ticks.made.outputs (ticks.sent s i a b mine))
          (λ other. waits_left (IsLeastTo config s i) before.queue ticks.made.outputs (old.sent s i a b (omega arith)))
          (cases_eq (s % config.gatherers) index));
    }

  ticked_by : (before after : Moment) (n : ℕ) → gatherer_node config 0 ≤ n → n < gatherer_node config config.gatherers → IsTelling config agreed lists n before
      → (reply : Reply) → Takes config before n Tick Done reply after → IsTelling config agreed lists (suc n) after
  ticked_by before after n low high old reply takes =
      let is : gatherer_node config (n - config.replicas * config.shards) ≡ n = omega arith in
      subst (λ (m : ℕ). IsTelling config agreed lists (suc m) after) is
      (ticked before after (n - config.replicas * config.shards) (omega arith)
      (subst (λ (m : ℕ). IsTelling config agreed lists m before) (sym is) old) reply
      (subst (λ (m : ℕ). Takes config before m Tick Done reply after) (sym is) takes))

  all_ticked : (count first : ℕ) (before after : Moment) → gatherer_node config 0 ≤ first → first + count ≡ gatherer_node config config.gatherers → IsTelling config agreed lists first before
      → TakeInTurn config Tick Done first count before after → IsTelling config agreed lists (gatherer_node config config.gatherers) after
  all_ticked zero first before after low e old same =
      let last : first ≡ gatherer_node config config.gatherers = omega arith in
      subst (λ (n : ℕ). IsTelling config agreed lists n after) last (subst (IsTelling config agreed lists first) same old)
  all_ticked (suc count) first before after low e old more =
      all_ticked count (suc first) more.1 after (omega arith) (omega arith) (ticked_by before more.1 first low (omega arith) old more.0 more.2) more.3

  -- ---- the deliveries

  told_at : (i : ℕ) → i < config.orderers → (shard : Shard) (said : Lengths) → shard.0 < config.shards → said.length ≡ (report_of (lists shard.0)).length → (place index : ℕ)
      → (state : NodeState) → IsSettledNode config agreed lists (Orderer i) state → OrdererTold config agreed lists i state shard said place index
  told_at i within shard said a says place index (Ordering node) o =
      let t : LeastTaken config agreed lists i node shard said place index = least_taken config range agreed lists sizes i within node o shard said a says place index in
      record {
        made = record { state = Ordering t.after; outputs = []; reply = _ };
        rule = t.rule;
        fine = t.fine;
        stays = t.stays;
        now = t.now;
        silent = refl;
      }
  told_at i within shard said a says place index (Storing node) o = absurd o
  told_at i within shard said a says place index (Gathering node) o = absurd o

  module _ (before after : Moment) (rest : List Sent) (x : Sent) (place index : ℕ) (reply : Reply) (old : IsBeingTold config agreed lists (record { nodes = before.nodes; queue = x ∷ rest })) where
    module _ (shard : Shard) (said : Lengths) (g : IsGoodLeast config lists x.to.0 shard.0 said) (is : x.message ≡ Least shard said)
        (takes : Takes config (record { nodes = before.nodes; queue = rest }) (orderer_node config g.index) (Deliver place index (Some (Least shard said))) Done reply after) where
      told_now : OrdererTold config agreed lists g.index (before.nodes (orderer_node config g.index)) shard said place index
      told_now = told_at g.index g.below shard said g.shard_below g.says place index (before.nodes (orderer_node config g.index)) (old.nodes (Orderer g.index) g.below)

      steps : Moves config (record { nodes = before.nodes; queue = rest }) after (Orderer g.index) told_now.made
      steps = moved config (record { nodes = before.nodes; queue = rest }) after (Orderer g.index) (Deliver place index (Some (Least shard said))) Done reply g.below takes told_now.made told_now.rule

      queue_is : after.queue ≡ rest
      queue_is = steps.posted ∙ ap (λ (outs : List Sent). rest ++ outs) told_now.silent ∙ append-nil rest

      gatherer_stays : (k : ℕ) → k < config.gatherers → after.nodes (gatherer_node config k) ≡ before.nodes (gatherer_node config k)
      gatherer_stays k below = ⊎_elim (λ e. absurd (cc)) (λ same. same) (steps.others (Gatherer k) below)

      raised_on : (s i : ℕ) → s < config.shards → i < config.orderers → IsRaised config lists s i (record { nodes = before.nodes; queue = x ∷ rest }) → IsRaised config lists s i after
      raised_on s i a b (Raised h) =
          Raised
          (⊎_elim
          (λ e.
          subst (λ (y : Role). HasAll config lists s (heard_in (before.nodes (node_of config y))) → HasAll config lists s (heard_in (after.nodes (node_of config y)))) (sym e)
          (λ had. subst (λ (state : NodeState). HasAll config lists s (heard_in state)) (sym steps.here) (told_now.stays s a had)) h)
          (λ same. subst (λ (state : NodeState). HasAll config lists s (heard_in state)) (sym same) h)
          (steps.others (Orderer i) b))
      raised_on s i a b (Comes (inl h)) =
          let role : Orderer g.index ≡ Orderer i = same_role config (Orderer g.index) (Orderer i) g.below b (sym g.at ∙ h.0) in
          let which : IsLeastTo config s i x → shard.0 ≡ s = λ (c : IsLeastTo config s i x). subst (IsLeastOf s) is c.1 in
          Raised
          (subst (λ (y : Role). HasAll config lists s (heard_in (after.nodes (node_of config y)))) role
          (subst (λ (state : NodeState). HasAll config lists s (heard_in state)) (sym steps.here)
          (subst (λ (t : ℕ). HasAll config lists t (heard_in told_now.made.state)) (which h) told_now.now)))
      raised_on s i a b (Comes (inr w)) = Comes (subst (Waits (IsLeastTo config s i)) (sym queue_is) w)

      told_on : IsBeingTold config agreed lists after
      told_on = record {
        nodes = λ other a.
            ⊎_elim
            (λ e. subst (λ (y : Role). IsSettledNode config agreed lists y (after.nodes (node_of config y))) (sym e)
            (subst (IsSettledNode config agreed lists (Orderer g.index)) (sym steps.here) told_now.fine))
            (λ same. subst (IsSettledNode config agreed lists other) (sym same) (old.nodes other a))
            (steps.others other a);
        heard = λ s r a b. ap (λ (state : NodeState). cell_in state (s * config.replicas + r)) (gatherer_stays (s % config.gatherers) (gatherer_below config s range)) ∙ old.heard s r a b;
        letters = subst (AreTellingLetters config lists) (sym queue_is) old.letters.1;
        told = λ s i a b. raised_on s i a b (old.told s i a b);
      }

    delivered_as : (m : Message) → x.message ≡ m → IsTellingMessage config lists x.to.0 m
        → Takes config (record { nodes = before.nodes; queue = rest }) x.to.0 (Deliver place index (Some x.message)) Done reply after → IsBeingTold config agreed lists after
    delivered_as (Least shard said) is g takes =
        told_on shard said g is
        (subst (λ (m : Message). Takes config (record { nodes = before.nodes; queue = rest }) (orderer_node config g.index) (Deliver place index (Some m)) Done reply after) is
        (subst (λ (n : ℕ). Takes config (record { nodes = before.nodes; queue = rest }) n (Deliver place index (Some x.message)) Done reply after) g.at takes))
    delivered_as (Copy segment offset entry) is g takes = absurd g
    delivered_as (CopyAck peer held) is g takes = absurd g
    delivered_as (Report shard replica lengths) is g takes = absurd g
    delivered_as (Prepare ballot slot) is g takes = absurd g
    delivered_as (Promised ballot slot who votes) is g takes = absurd g
    delivered_as (Lower ballot promise) is g takes = absurd g
    delivered_as (Accept ballot slot value) is g takes = absurd g
    delivered_as (Accepted ballot slot who) is g takes = absurd g
    delivered_as (Decide slot value) is g takes = absurd g
    delivered_as (Want slot asker) is g takes = absurd g

  delivered : (before after : Moment) → IsBeingTold config agreed lists before → IsDelivery config before after → IsBeingTold config agreed lists after
  delivered before after old d =
      let now : IsBeingTold config agreed lists (record { nodes = before.nodes; queue = d.sent ∷ d.rest }) =
      subst (λ (queue : List Sent). IsBeingTold config agreed lists (record { nodes = before.nodes; queue = queue })) d.first old in
      delivered_as before after d.rest d.sent d.place d.index d.reply now d.sent.message refl now.letters.0 d.taken

  all_delivered : (count : ℕ) (before after : Moment) → IsBeingTold config agreed lists before → DeliveredIn config count before after → IsBeingTold config agreed lists after
  all_delivered zero before after old same = subst (IsBeingTold config agreed lists) same old
  all_delivered (suc count) before after old more = all_delivered count more.0 after (delivered before more.0 old more.1) more.2

  -- ---- the end

  -- lengths that have all of each shard are those of all lists
  whole_cut : (heard : Lengths) → IsHeardCut config lists heard → ((s : ℕ) → s < config.shards → HasAll config lists s (Some heard)) → heard ≡ all_lengths config lists
  whole_cut heard h all =
      same_lengths heard (all_lengths config lists) (h.count ∙ sym (report_count (lists_from lists 0 config.shards) ∙ many))
      (ext_get_or 0 heard.length (all_lengths config lists).length (h.cells ∙ sym (report_cells (lists_from lists 0 config.shards) (omega (arith, many, range.segments))))
      (λ k inside. ⊎_elim (λ below. within k below) (λ past. beyond k past) (cases_lt k (config.shards * config.replicas))))
    where
      each : (s : ℕ) → 0 ≤ s → s < 0 + config.shards → length (lists s) ≡ config.replicas
      each s low high = sizes s (omega arith)

      many : length (lists_from lists 0 config.shards) ≡ config.shards * config.replicas
      many = length-lists_from lists config.replicas 0 config.shards each

      within : (k : ℕ) → k < config.shards * config.replicas → slice_index heard.length k ≡ slice_index (all_lengths config lists).length k
      within k below =
          let some = range.some_replica in
          let d : k % config.replicas < config.replicas = omega arith in
          let k_is : k / config.replicas * config.replicas + k % config.replicas ≡ k = omega arith in
          let c : k / config.replicas < config.shards =
          ⊎_elim
          (λ less. less)
          (λ past. absurd (let more : config.replicas * config.shards ≤ config.replicas * (k / config.replicas) = mul-le-mul_left config.replicas past in omega arith))
          (cases_lt (k / config.replicas) config.shards) in
          let first : 0 + k / config.replicas ≡ k / config.replicas = omega arith in
          subst (λ (n : ℕ). slice_index heard.length n ≡ slice_index (all_lengths config lists).length n) k_is
          (all (k / config.replicas) c (k % config.replicas) d
          ∙ sym
          (report_at (lists_from lists 0 config.shards) (k / config.replicas * config.replicas + k % config.replicas)
          ∙ ap length (list_in-lists_from lists config.replicas 0 config.shards (k / config.replicas) (k % config.replicas) each c d)
          ∙ ap (λ (s : ℕ). length (list_in (lists s) (k % config.replicas))) first))

      beyond : (k : ℕ) → config.shards * config.replicas ≤ k → slice_index heard.length k ≡ slice_index (all_lengths config lists).length k
      beyond k past =
          h.rest k past
          ∙ sym (report_at (lists_from lists 0 config.shards) k ∙ ap length (list_in-past (lists_from lists 0 config.shards) k (omega (arith, many, past))))

  module _ (nodes : ℕ → NodeState) (old : IsBeingTold config agreed lists (record { nodes = nodes; queue = [] })) where
    has_all : (s i : ℕ) → IsRaised config lists s i (record { nodes = nodes; queue = [] }) → HasAll config lists s (heard_in (nodes (orderer_node config i)))
    has_all s i (Raised h) = h
    has_all s i (Comes w) = absurd w

    told_all : (i : ℕ) (state : NodeState) → IsSettledNode config agreed lists (Orderer i) state → ((s : ℕ) → s < config.shards → HasAll config lists s (heard_in state))
        → heard_in state ≡ Some (all_lengths config lists)
    told_all i (Ordering node) o all =
        let by : heard_by node.mode ≡ Some o.orderer.heard = ap (λ (mode : OrdererMode). heard_by mode) o.runs in
        by ∙ ap Some (whole_cut o.orderer.heard o.heard (λ s a. subst (HasAll config lists s) by (all s a)))
    told_all i (Storing node) o all = absurd o
    told_all i (Gathering node) o all = absurd o

    told : AreTold config lists (record { nodes = nodes; queue = [] })
    told i b = told_all i (nodes (orderer_node config i)) (old.nodes (Orderer i) b) (λ s a. has_all s i (old.told s i a b))

  pub gathered_round : (before after : Moment) → IsSettled config agreed lists before → AreHeard config lists before → IsRound config Tick Done (gatherer_node config 0) config.gatherers before after
      → IsSettled config agreed lists after × AreHeard config lists after × AreTold config lists after
  gathered_round before after settled heard round = (
    record {
      sizes = sizes;
      nodes = ended.nodes;
      queue = round.deliveries.none_left;
    },
    ended.heard,
    told after.nodes ended,
  )
    where
      begun : IsTelling config agreed lists (gatherer_node config 0) before
      begun = record {
        nodes = settled.nodes;
        heard = heard;
        letters = subst (AreTellingLetters config lists) (sym settled.queue) tt;
        sent = λ s i a b below. absurd (omega arith);
      }

      ticked_all : IsTelling config agreed lists (gatherer_node config config.gatherers) round.middle
      ticked_all = all_ticked config.gatherers (gatherer_node config 0) before round.middle (omega arith) (omega arith) begun round.turns

      being_told : IsBeingTold config agreed lists round.middle
      being_told = record {
        nodes = ticked_all.nodes;
        heard = ticked_all.heard;
        letters = ticked_all.letters;
        told = λ s i a b. Comes (ticked_all.sent s i a b (let below = gatherer_below config s range in omega arith));
      }

      ended : IsBeingTold config agreed lists (record { nodes = after.nodes; queue = [] })
      ended =
          subst (λ (queue : List Sent). IsBeingTold config agreed lists (record { nodes = after.nodes; queue = queue })) round.deliveries.none_left
          (all_delivered round.deliveries.count round.middle after being_told round.deliveries.deliveries)
