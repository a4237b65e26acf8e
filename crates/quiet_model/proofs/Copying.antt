-- A round of copying: from primaries that are ahead to a settled moment.
use Rattle.std.proofs.Common.{◌≡◌, ◌≢◌, ◌+◌, ◌*◌, ◌%◌, ◌<◌, ◌≤◌, ℕ, List, [], ◌∷◌, length, Option, Some, None, refl, sym, ap, subst, inl, inr, ⊎_elim, arith, length-append, ◌∙◌}
use Rattle.std.specs.Prelude.{slice_index, slice_index_or}
use Rattle.std.proofs.lemmas.Bool.{cases_eq, cases_lt}
use Rattle.std.proofs.lemmas.List.{ext_get_or, length-set}
use Rattle.history_frame.specs.declared.events.Sent.{Sent}
use Rattle.history_frame.specs.declared.inputs.Input.TheVariants.{Tick}
use Rattle.history_frame.specs.declared.inputs.Mark.TheVariants.{Done}
use Rattle.aggregator.specs.Hearing.{Hearing}
use Rattle.log_base.specs.ClusterShape.{InRange, Shape}
use Rattle.log_model.specs.Storage.{list_in, report_of}
use Rattle.node_table.specs.declared.role.Role.{Role}
use Rattle.node_table.specs.declared.role.Role.TheVariants.{Storage, Gatherer, Orderer}
use Rattle.node_table.specs.Numbering.{IsRole, gatherer_of, node_of, storage_node}
use Rattle.node_table.proofs.Roles.{storage_node-lt}
use Rattle.record_frame.specs.declared.entries.Entry.{Entry}
use Rattle.record_frame.specs.declared.values.Lengths.{Lengths}
use Rattle.node_model.specs.Marks.{Mode}
use Rattle.node_model.specs.NodeState.{NodeState, Storing, Gathering, Ordering}
use Rattle.node_model.specs.OrdererNode.{Node}
use Rattle.node_model.specs.GathererRow.{GathererNode}
use Rattle.node_model.specs.Sequence.{lists_of}
use Rattle.node_model.specs.StorageNode.{StorageMode, StorageNode}
use Rattle.node_model.proofs.Lists.{list_in-past}
use Rattle.quiet_model.specs.Ahead.{IsAhead, IsAsOrMore, Same, More, own_ahead}
use Rattle.quiet_model.specs.Moments.{IsRound, Moment}
use Rattle.quiet_model.specs.Settled.{Agreed, AreHeard, IsGatherer, IsHeard, IsHeardOrNone, IsOrderer, IsReplica, IsSettled, ListsOf, Stands, all_acked, cell_by, cell_in, list_at, lists_held}
use Rattle.quiet_model.proofs.Delivering.{all_delivered}
use Rattle.quiet_model.proofs.Follows.{as_role, gatherer_below}
use Rattle.quiet_model.proofs.Lists.{report_at, report_cells, report_count, same_lengths, same_lists}
use Rattle.quiet_model.proofs.Round.{Round, AreGoodLetters, IsAcked, Acked, Acks, Copies_first, IsCatchingUp, IsCopied, Copied, Copies, IsIn, IsPlace, IsRoundOf, IsTold, Told, Tells, Copies_new, IsUnderWay, Says, acked_by, acked_in, copy_in, goal_of}
use Rattle.quiet_model.proofs.StorageTaken.{not_shorter}
use Rattle.quiet_model.proofs.Ticking.{other_list, own_list}
use Rattle.quiet_model.proofs.Turns.{IsBegun, IsTicking, all_ticked}

-- ---- the beginning: what was heard stays in the lists

module _ (config : Shape) (from to : ListsOf) (grow : (s p : ℕ) → s < config.shards → length (list_at from s p) ≤ length (list_at to s p)) where
  heard_grows : (s : ℕ) → s < config.shards → (cell : Option Lengths) → IsHeardOrNone config.replicas (from s) cell → IsHeardOrNone config.replicas (to s) cell
  heard_grows s a None h = tt
  heard_grows s a (Some said) h = record { count = h.count; cells = h.cells; held = λ p. omega (arith, h.held p, grow s p a) }

  gatherer_grows : (node : GathererNode) → IsGatherer config from node → IsGatherer config to node
  gatherer_grows node g = record {
    hearing = g.hearing;
    runs = g.runs;
    replicas = g.replicas;
    cells = g.cells;
    heard = λ s r a b. heard_grows s a (slice_index_or g.hearing.cells (s * config.replicas + r) None) (g.heard s r a b);
  }

  orderer_grows : (agreed : Agreed) (i : ℕ) (node : Node) → IsOrderer config agreed i from node → IsOrderer config agreed i to node
  orderer_grows agreed i node o = record {
    orderer = o.orderer;
    runs = o.runs;
    knows = o.knows;
    wishes = o.wishes;
    heard = record {
      count = o.heard.count;
      cells = o.heard.cells;
      held = λ s p a b. omega (arith, o.heard.held s p a b, grow s p a);
      rest = o.heard.rest;
    };
    leads = o.leads;
    cast = o.cast;
  }

module _ (round : Round) (range : InRange round.config) (lists : IsRoundOf round) where
  grow : (s p : ℕ) → s < round.config.shards → length (list_at round.from s p) ≤ length (list_at round.to s p)
  grow s p a =
      ⊎_elim
      (λ below. (not_shorter (list_at round.from s p) (list_at round.to s p) (lists.more s p a below)).0)
      (λ past. let none = ap length (list_in-past (round.from s) p (omega (arith, lists.old_sizes s a, past))) in omega arith)
      (cases_lt p round.config.replicas)

  -- a replica at the beginning
  held_by : (s r : ℕ) (state : NodeState) → IsBegun round (as_role s r) state → lists_of state ≡ own_ahead round.from round.to s r
  held_by s r (Storing node) h = h.holds
  held_by s r (Gathering node) h = absurd h
  held_by s r (Ordering node) h = absurd h

  acked_at_first : (s r : ℕ) (state : NodeState) → IsBegun round (as_role s r) state → (peer : ℕ) → peer < round.config.replicas → peer ≢ r
      → acked_in state peer ≡ length (list_at round.from s r)
  acked_at_first s r (Storing node) h peer below other = ap (λ (mode : StorageMode). acked_by mode peer) h.runs ∙ h.acks peer below other
  acked_at_first s r (Gathering node) h peer below other = absurd h
  acked_at_first s r (Ordering node) h peer below other = absurd h

  replica_begins : (s r : ℕ) → s < round.config.shards → r < round.config.replicas → (node : StorageNode)
      → IsReplica round.config s r (own_ahead round.from round.to s r) (length (list_at round.from s r)) round.agreed.values node → IsCatchingUp round s r node
  replica_begins s r a b node h = record {
    memory = h.memory;
    runs = h.runs;
    size = ap length h.holds ∙ length-set (round.from s) r (list_at round.to s r) ∙ lists.old_sizes s a;
    own = ap (λ (held : List (List Entry)). list_in held r) h.holds ∙ own_list round lists s r a b;
    copies = λ p below.
        ⊎_elim
        (λ e. inr (subst (λ (q : ℕ). list_in node.durable q ≡ list_at round.to s q) (sym e) (ap (λ (held : List (List Entry)). list_in held r) h.holds ∙ own_list round lists s r a b)))
        (λ differ. inl (ap (λ (held : List (List Entry)). list_in held p) h.holds ∙ other_list round lists s r a b p differ))
        (cases_eq p r);
    knows = h.knows;
    peers = h.peers;
    low = λ p below other. omega (arith, h.acks p below other);
    high = λ p below other. omega (arith, h.acks p below other, grow s r a);
  }

  node_begins : (role : Role) → IsRole round.config role → (state : NodeState) → IsBegun round role state → IsIn round role state
  node_begins (Storage s r) is (Storing node) h = replica_begins s.0 r.0 is.0 is.1 node h
  node_begins (Gatherer i) is (Gathering node) h = gatherer_grows round.config round.from round.to grow node h
  node_begins (Orderer i) is (Ordering node) h = orderer_grows round.config round.from round.to grow round.agreed i node h
  node_begins (Storage s r) is (Gathering node) h = absurd h
  node_begins (Storage s r) is (Ordering node) h = absurd h
  node_begins (Gatherer i) is (Storing node) h = absurd h
  node_begins (Gatherer i) is (Ordering node) h = absurd h
  node_begins (Orderer i) is (Storing node) h = absurd h
  node_begins (Orderer i) is (Gathering node) h = absurd h

  -- ---- all replicas have ticked

  module _ (moment : Moment) (t : IsTicking round (round.config.replicas * round.config.shards) moment) (s p r : ℕ) (place : IsPlace round.config s p r) where
    below : (q : ℕ) → q < round.config.replicas → storage_node round.config s q < round.config.replicas * round.config.shards
    below q inside = storage_node-lt round.config s q place.shard inside

    list_here : list_in (lists_of (moment.nodes (storage_node round.config s r))) p ≡ list_in (own_ahead round.from round.to s r) p
    list_here = ap (λ (held : List (List Entry)). list_in held p) (held_by s r (moment.nodes (storage_node round.config s r)) (t.nodes (as_role s r) (place.shard, place.replica)))

    copied_first : p ≢ r → IsAsOrMore (list_at round.from s p) (list_at round.to s p) → IsCopied round moment s p r
    copied_first apart (Same e) = Copied (list_here ∙ other_list round lists s r place.shard place.replica p apart ∙ sym e)
    copied_first apart (More entry e) = Copies (t.copies s p r place apart (below p place.segment) entry e)

    acked_first : p ≢ r → IsAsOrMore (list_at round.from s p) (list_at round.to s p) → IsAcked round moment s p r
    acked_first apart (Same e) =
        Acked (acked_at_first s p (moment.nodes (storage_node round.config s p)) (t.nodes (as_role s p) (place.shard, place.segment)) r place.replica (λ same. apart (sym same))
        ∙ sym (ap length e))
    acked_first apart (More entry e) = Copies_first (t.copies s p r place apart (below p place.segment) entry e)

    reported : list_in (own_ahead round.from round.to s r) p ≡ list_at round.to s p → IsTold round moment s r p
    reported full = Tells (t.reports s p r place (below r place.replica) (ap length full))

    told_first : IsAsOrMore (list_at round.from s p) (list_at round.to s p) → IsTold round moment s r p
    told_first more =
        ⊎_elim
        (λ e. reported (subst (λ (q : ℕ). list_in (own_ahead round.from round.to s r) q ≡ list_at round.to s q) (sym e) (own_list round lists s r place.shard place.replica)))
        (λ apart. told_apart apart more)
        (cases_eq p r)
      where
        told_apart : p ≢ r → IsAsOrMore (list_at round.from s p) (list_at round.to s p) → IsTold round moment s r p
        told_apart apart (Same e) = reported (other_list round lists s r place.shard place.replica p apart ∙ sym e)
        told_apart apart (More entry e) =
            Copies_new
            (λ has.
            let short = ap length (sym (list_here ∙ other_list round lists s r place.shard place.replica p apart) ∙ has ∙ e) in
            absurd (omega (arith, length-append (list_at round.from s p) (entry ∷ []))))
            (t.copies s p r place apart (below p place.segment) entry e)

  under_way : (moment : Moment) → IsTicking round (round.config.replicas * round.config.shards) moment → IsUnderWay round moment
  under_way moment t = record {
    nodes = λ role is. node_begins role is (moment.nodes (node_of round.config role)) (t.nodes role is);
    letters = t.letters;
    copied = λ s p r place apart. copied_first moment t s p r place apart (lists.more s p place.shard place.segment);
    acked = λ s p r place apart. acked_first moment t s p r place apart (lists.more s p place.shard place.segment);
    told = λ s p r place. told_first moment t s p r place (lists.more s p place.shard place.segment);
  }

  -- ---- no letter waits

  module _ (nodes : ℕ → NodeState) (u : IsUnderWay round (record { nodes = nodes; queue = [] })) where
    has_copy : (s p r : ℕ) → IsCopied round (record { nodes = nodes; queue = [] }) s p r → copy_in (nodes (storage_node round.config s r)) p ≡ list_at round.to s p
    has_copy s p r (Copied e) = e
    has_copy s p r (Copies w) = absurd w

    has_ack : (s p r : ℕ) → IsAcked round (record { nodes = nodes; queue = [] }) s p r → acked_in (nodes (storage_node round.config s p)) r ≡ goal_of round s p
    has_ack s p r (Acked e) = e
    has_ack s p r (Acks w) = absurd w
    has_ack s p r (Copies_first w) = absurd w

    is_told : (s p r : ℕ) → IsTold round (record { nodes = nodes; queue = [] }) s r p
        → Says (cell_in (nodes (gatherer_of round.config s)) (s * round.config.replicas + r)) p (goal_of round s p)
    is_told s p r (Told h) = h
    is_told s p r (Tells w) = absurd w
    is_told s p r (Copies_new short w) = absurd w

    replica_ends : (s r : ℕ) → s < round.config.shards → r < round.config.replicas → (node : StorageNode) → nodes (storage_node round.config s r) ≡ Storing node → IsCatchingUp round s r node
        → IsReplica round.config s r (round.to s) (goal_of round s r) round.agreed.values node
    replica_ends s r a b node is h = record {
      memory = h.memory;
      runs = h.runs;
      holds = same_lists node.durable (round.to s) (h.size ∙ sym (lists.new_sizes s a)) (λ p below. held p (omega (arith, below, h.size)));
      knows = h.knows;
      peers = h.peers;
      acks = λ peer below other.
          sym (ap (λ (mode : StorageMode). acked_by mode peer) h.runs)
          ∙ sym (ap (λ (state : NodeState). acked_in state peer) is)
          ∙ has_ack s r peer (u.acked s r peer (record { shard = a; segment = b; replica = below }) (λ same. other (sym same)));
    }
      where
        held : (p : ℕ) → p < round.config.replicas → list_in node.durable p ≡ list_at round.to s p
        held p below =
            ⊎_elim
            (λ e. subst (λ (q : ℕ). list_in node.durable q ≡ list_at round.to s q) (sym e) h.own)
            (λ apart. sym (ap (λ (state : NodeState). copy_in state p) is) ∙ has_copy s p r (u.copied s p r (record { shard = a; segment = below; replica = b }) apart))
            (cases_eq p r)

    node_ends : (role : Role) → IsRole round.config role → (state : NodeState) → nodes (node_of round.config role) ≡ state → IsIn round role state
        → Stands round.config round.agreed (lists_held round.to) (all_acked round.to) round.to role state
    node_ends (Storage s r) is (Storing node) e h = replica_ends s.0 r.0 is.0 is.1 node e h
    node_ends (Gatherer i) is (Gathering node) e h = h
    node_ends (Orderer i) is (Ordering node) e h = h
    node_ends (Storage s r) is (Gathering node) e h = absurd h
    node_ends (Storage s r) is (Ordering node) e h = absurd h
    node_ends (Gatherer i) is (Storing node) e h = absurd h
    node_ends (Gatherer i) is (Ordering node) e h = absurd h
    node_ends (Orderer i) is (Storing node) e h = absurd h
    node_ends (Orderer i) is (Gathering node) e h = absurd h

    pub settled : IsSettled round.config round.agreed round.to (record { nodes = nodes; queue = [] })
    settled = record {
      sizes = lists.new_sizes;
      nodes = λ role is. node_ends role is (nodes (node_of round.config role)) refl (u.nodes role is);
      queue = refl;
    }

    -- what a gatherer heard in the end
    heard_cell : (s : ℕ) (state : NodeState) → IsIn round (Gatherer (s % round.config.gatherers)) state → (r : ℕ) → s < round.config.shards → r < round.config.replicas
        → IsHeardOrNone round.config.replicas (round.to s) (cell_in state (s * round.config.replicas + r))
    heard_cell s (Gathering node) g r a b =
        subst (IsHeardOrNone round.config.replicas (round.to s))
        (sym (ap (λ (mode : Mode ⊥ (Unit {0}) Hearing). cell_by mode (s * round.config.replicas + r)) g.runs)) (g.heard s r a b)
    heard_cell s (Storing node) g r a b = absurd g
    heard_cell s (Ordering node) g r a b = absurd g

    pub heard : AreHeard round.config round.to (record { nodes = nodes; queue = [] })
    heard s r a b =
        whole_cell (cell_in (nodes (gatherer_of round.config s)) (s * round.config.replicas + r))
        (heard_cell s (nodes (gatherer_of round.config s)) (u.nodes (Gatherer (s % round.config.gatherers)) (gatherer_below round.config s range)) r a b)
        (λ p below. is_told s p r (u.told s p r (record { shard = a; segment = below; replica = b })))
      where
        few : length (round.to s) ≤ 32
        few = omega (arith, lists.new_sizes s a, range.replicas)

        whole_said : (said : Lengths) → IsHeard round.config.replicas (round.to s) said
            → ((p : ℕ) → p < round.config.replicas → slice_index said.length p ≡ length (list_in (round.to s) p)) → said ≡ report_of (round.to s)
        whole_said said h full =
            same_lengths said (report_of (round.to s)) (h.count ∙ sym (report_count (round.to s) ∙ lists.new_sizes s a))
            (ext_get_or 0 said.length (report_of (round.to s)).length (h.cells ∙ sym (report_cells (round.to s) few))
            (λ p inside.
            ⊎_elim
            (λ below. full p below ∙ sym (report_at (round.to s) p))
            (λ past.
            let none = ap length (list_in-past (round.to s) p (omega (arith, lists.new_sizes s a, past))) in
            let nothing : slice_index said.length p ≡ slice_index (report_of (round.to s)).length p = omega (arith, h.held p, report_at (round.to s) p) in
            nothing)
            (cases_lt p round.config.replicas)))

        whole_cell : (cell : Option Lengths) → IsHeardOrNone round.config.replicas (round.to s) cell
            → ((p : ℕ) → p < round.config.replicas → Says cell p (length (list_in (round.to s) p))) → cell ≡ Some (report_of (round.to s))
        whole_cell None h full = absurd (full 0 (omega (arith, range.some_replica)))
        whole_cell (Some said) h full = ap Some (whole_said said h full)

-- ---- the laws

module _ (config : Shape) (agreed : Agreed) (from to : ListsOf) (before after : Moment) (range : InRange config) where
  abbrev of_all : Round
  of_all = record { config = config; agreed = agreed; from = from; to = to }

  pub copied_round : IsAhead config agreed from to before → IsRound config Tick Done 0 (config.replicas * config.shards) before after
      → IsSettled config agreed to after × AreHeard config to after
  copied_round ahead round = (
    subst (λ (queue : List Sent). IsSettled config agreed to (record { nodes = after.nodes; queue = queue })) (sym round.deliveries.none_left) (settled of_all range lists after.nodes ended),
    heard of_all range lists after.nodes ended,
  )
    where
      lists : IsRoundOf of_all
      lists = record { old_sizes = ahead.old_sizes; new_sizes = ahead.new_sizes; more = ahead.more }

      begun : IsTicking of_all 0 before
      begun = record {
        nodes = ahead.nodes;
        letters = subst (λ (queue : List Sent). AreGoodLetters of_all queue) (sym ahead.queue) tt;
        copies = λ s p r place apart below. absurd (omega arith);
        reports = λ s p r place below. absurd (omega arith);
      }

      ended : IsUnderWay of_all (record { nodes = after.nodes; queue = [] })
      ended =
          subst (λ (queue : List Sent). IsUnderWay of_all (record { nodes = after.nodes; queue = queue })) round.deliveries.none_left
          (all_delivered of_all range lists round.deliveries.count round.middle after
          (under_way of_all range lists round.middle (all_ticked of_all range lists (config.replicas * config.shards) 0 before round.middle (omega arith) begun round.turns))
          round.deliveries.deliveries)
