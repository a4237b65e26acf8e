-- Reports that are delivered to a gatherer in a round, and wants that are delivered to an orderer.
use Rattle.std.proofs.Common.{◌≡◌, ◌⊎◌, ◌+◌, ◌*◌, ◌<◌, ◌≤◌, ℕ, zero, suc, List, [], ◌∷◌, length, Option, Some, None, refl, sym, ap, subst, inl, inr, ⊎_elim, arith, ◌∙◌}
use Rattle.std.specs.Prelude.{slice_index, slice_index_or, slice_set}
use Rattle.std.proofs.lemmas.List.{get_or-set_same, length-set}
use Rattle.std.proofs.Math.Nat.{mul-le-mul_left}
use Rattle.aggregator.specs.Hearing.{Hearing, after_note, heard_after}
use Rattle.aggregator.proofs.Merged.{get_or-greater_of, length-greater_of}
use Rattle.reply_frame.specs.declared.replies.Reply.{Nothing}
use Rattle.history_frame.specs.declared.inputs.Input.TheVariants.{Deliver}
use Rattle.log_base.specs.ClusterShape.{InRange}
use Rattle.log_base.specs.declared.numbers.NodeId.{NodeId}
use Rattle.log_base.specs.declared.numbers.Replica.{Replica as ReplicaNumber}
use Rattle.log_base.specs.declared.numbers.Shard.{Shard}
use Rattle.log_base.specs.declared.numbers.Slot.{Slot}
use Rattle.log_model.specs.Storage.{list_in}
use Rattle.message_frame.specs.declared.messages.Message.TheVariants.{Report, Want}
use Rattle.node_table.specs.declared.role.Role.TheVariants.{Gatherer, Orderer}
use Rattle.record_frame.specs.declared.entries.Entry.{Entry}
use Rattle.record_frame.specs.declared.values.Lengths.{Lengths}
use Rattle.node_model.specs.GathererRow.{GathererNode, hears, on_report}
use Rattle.node_model.specs.Marks.{Mode, Running}
use Rattle.node_model.specs.NodeState.{Gathering, Ordering}
use Rattle.node_model.specs.OrdererNode.{Change, Node}
use Rattle.node_model.specs.OrdererRow.{decide_letters, on_want, told}
use Rattle.quiet_model.specs.Settled.{IsGatherer, IsHeard, IsHeardOrNone, IsOrderer, cell_by}
use Rattle.quiet_model.proofs.Follows.{IsTaken}
use Rattle.quiet_model.proofs.Moving.{same_cell}
use Rattle.quiet_model.proofs.Outcomes.{gatherer_takes, orderer_takes}
use Rattle.quiet_model.proofs.Round.{Round, AreGoodLetters, Says, goal_of}
use Rattle.quiet_model.proofs.Rows.{none_decided}

-- a cell of which one was set
cell_at : (xs : List (Option Lengths)) (i : ℕ) (v : Option Lengths) (p : ℕ)
    → (slice_index_or (slice_set xs i v) p None ≡ slice_index_or xs p None) ⊎ ((p ≡ i) × (slice_index_or (slice_set xs i v) p None ≡ v))
cell_at [] i v p = inl refl
cell_at (x ∷ xs) zero v zero = inr (refl, refl)
cell_at (x ∷ xs) zero v (suc p) = inl refl
cell_at (x ∷ xs) (suc i) v zero = inl refl
cell_at (x ∷ xs) (suc i) v (suc p) = ⊎_elim (λ e. inl e) (λ e. inr (ap suc e.0, e.1)) (cell_at xs i v p)

-- what was heard of a replica once it says more
module _ (replicas : ℕ) (lists : List (List Entry)) (said : Lengths) (h : IsHeard replicas lists said) where
  heard_more : (before : Option Lengths) → IsHeardOrNone replicas lists before → IsHeard replicas lists (heard_after before said)
  heard_more None old = h
  heard_more (Some before) old = record {
    count = old.count;
    cells = omega (arith, length-greater_of before.length said.length, old.cells, h.cells);
    held = λ p. omega (arith, get_or-greater_of before.length said.length p, old.held p, h.held p);
  }

  still_says : (before : Option Lengths) (p : ℕ) → Says before p (length (list_in lists p)) → Says (Some (heard_after before said)) p (length (list_in lists p))
  still_says None p e = absurd e
  still_says (Some before) p e = omega (arith, get_or-greater_of before.length said.length p, e, h.held p)

  now_says : (before : Option Lengths) (p : ℕ) → IsHeardOrNone replicas lists before → slice_index said.length p ≡ length (list_in lists p)
      → Says (Some (heard_after before said)) p (length (list_in lists p))
  now_says None p old e = e
  now_says (Some before) p old e = omega (arith, get_or-greater_of before.length said.length p, e, old.held p)

module _ (round : Round) (range : InRange round.config) (i : ℕ) (within : i < round.config.gatherers) (node : GathererNode) (g : IsGatherer round.config round.to node)
    (shard : Shard) (replica : ReplicaNumber) (said : Lengths) (a : shard.0 < round.config.shards) (b : replica.0 < round.config.replicas)
    (h : IsHeard round.config.replicas (round.to shard.0) said) (place index : ℕ) where
  abbrev here : ℕ
  here = shard.0 * g.hearing.replicas + replica.0

  abbrev old_cell : Option Lengths
  old_cell = slice_index_or g.hearing.cells (shard.0 * g.hearing.replicas + replica.0) None

  abbrev new_cells : List (Option Lengths)
  new_cells = slice_set g.hearing.cells here (Some (heard_after old_cell said))

  abbrev noted_node : GathererNode
  noted_node = record { durable = tt; mode = Running (after_note g.hearing shard.0 replica.0 said) }

  here_is : shard.0 * g.hearing.replicas + replica.0 ≡ shard.0 * round.config.replicas + replica.0
  here_is = ap (λ (n : ℕ). shard.0 * n + replica.0) g.replicas

  old_heard : IsHeardOrNone round.config.replicas (round.to shard.0) old_cell
  old_heard = subst (λ (n : ℕ). IsHeardOrNone round.config.replicas (round.to shard.0) (slice_index_or g.hearing.cells n None)) (sym here_is) (g.heard shard.0 replica.0 a b)

  -- What holds of each cell holds after the note: of a cell of another replica as before, of this one of what was heard.
  each_cell : (P : ℕ → ℕ → Option Lengths → Type 0) → (P shard.0 replica.0 old_cell → P shard.0 replica.0 (Some (heard_after old_cell said)))
      → (t q : ℕ) → q < round.config.replicas → P t q (slice_index_or g.hearing.cells (t * round.config.replicas + q) None)
      → P t q (slice_index_or new_cells (t * round.config.replicas + q) None)
  each_cell P now t q below old =
      ⊎_elim
      (λ same. subst (P t q) (sym same) old)
      (λ hit.
      let cell = same_cell round.config.replicas t q shard.0 replica.0 below b (hit.0 ∙ here_is) in
      subst (P t q) (sym hit.1)
      (subst (λ (n : ℕ). P n q (Some (heard_after old_cell said))) (sym cell.0)
      (subst (λ (n : ℕ). P shard.0 n (Some (heard_after old_cell said))) (sym cell.1)
      (now
      (subst (λ (n : ℕ). P shard.0 n old_cell) cell.1
      (subst (λ (n : ℕ). P n q old_cell) cell.0
      (subst (λ (n : ℕ). P t q (slice_index_or g.hearing.cells n None)) hit.0 old)))))))
      (cell_at g.hearing.cells here (Some (heard_after old_cell said)) (t * round.config.replicas + q))

  note_row : on_report g.hearing shard.0 replica.0 said ≡ hears (after_note g.hearing shard.0 replica.0 said) []
  unfolding on_report
  note_row = refl

  cell_before : (at : ℕ) → cell_by node.mode at ≡ slice_index_or g.hearing.cells at None
  cell_before at = ap (λ (mode : Mode ⊥ (Unit {0}) Hearing). cell_by mode at) g.runs

  -- the cell of the replica itself
  cell_here : slice_index_or new_cells (shard.0 * round.config.replicas + replica.0) None ≡ Some (heard_after old_cell said)
  cell_here =
      let more : round.config.replicas * suc shard.0 ≤ round.config.replicas * round.config.shards = mul-le-mul_left round.config.replicas (omega arith) in
      let inside : here < length g.hearing.cells = omega (arith, here_is, g.cells, range.segments) in
      subst (λ (n : ℕ). slice_index_or new_cells n None ≡ Some (heard_after old_cell said)) here_is
      (get_or-set_same g.hearing.cells here (Some (heard_after old_cell said)) None inside)

  pub report_taken : IsTaken round (Report shard replica said) (Gatherer i) (Gathering node) place index
  report_taken = record {
    made = record { state = Gathering noted_node; outputs = []; reply = Nothing };
    rule = gatherer_takes round.config i within node g.hearing (hears (after_note g.hearing shard.0 replica.0 said) []) g.runs (Deliver place index (Some (Report shard replica said))) refl (ap Some note_row);
    handled = record {
      fine = record {
        hearing = after_note g.hearing shard.0 replica.0 said;
        runs = refl;
        replicas = g.replicas;
        cells = length-set g.hearing.cells here (Some (heard_after old_cell said)) ∙ g.cells;
        heard = λ t q c d. each_cell (λ u v cell. IsHeardOrNone round.config.replicas (round.to u) cell)
            (λ old. heard_more round.config.replicas (round.to shard.0) said h old_cell old) t q d (g.heard t q c d);
      };
      follows = λ t q p c d e. each_cell (λ u v cell. Says cell p (goal_of round u p))
          (λ old. still_says round.config.replicas (round.to shard.0) said h old_cell p old) t q d
          (subst (λ (cell : Option Lengths). Says cell p (goal_of round t p)) (cell_before (t * round.config.replicas + q)) e);
      does = λ t q p c d e.
          subst (λ (u : ℕ). Says (slice_index_or new_cells (u * round.config.replicas + q) None) p (goal_of round u p)) e.0
          (subst (λ (v : ℕ). Says (slice_index_or new_cells (shard.0 * round.config.replicas + v) None) p (goal_of round shard.0 p)) e.1
          (subst (λ (cell : Option Lengths). Says cell p (goal_of round shard.0 p)) (sym cell_here)
          (now_says round.config.replicas (round.to shard.0) said h old_cell p old_heard
          (e.2 ∙ ap (λ (u : ℕ). goal_of round u p) (sym e.0)))));
      letters = tt;
    };
  }

module _ (round : Round) (i : ℕ) (within : i < round.config.orderers) (node : Node) (o : IsOrderer round.config round.agreed i round.to node)
    (slot : Slot) (asker : NodeId) (past : length round.agreed.values ≤ slot.0) (place index : ℕ) where
  abbrev want_change : Change
  want_change = told o.orderer (decide_letters asker.0 o.orderer.known slot.0 16)

  want_row : on_want o.orderer slot.0 asker.0 ≡ want_change
  unfolding on_want
  want_row = refl

  silent : decide_letters asker.0 o.orderer.known slot.0 16 ≡ []
  silent = none_decided asker.0 o.orderer.known slot.0 16 (omega (arith, ap length o.knows))

  pub want_taken : IsTaken round (Want slot asker) (Orderer i) (Ordering node) place index
  want_taken = record {
    made = record { state = Ordering (record { durable = node.durable; mode = Running o.orderer }); outputs = want_change.outputs; reply = Nothing };
    rule = orderer_takes round.config i within node o.orderer want_change o.runs (Deliver place index (Some (Want slot asker))) refl (ap Some want_row);
    handled = record {
      fine = record {
        orderer = o.orderer;
        runs = refl;
        knows = o.knows;
        wishes = o.wishes;
        heard = o.heard;
        leads = o.leads;
        cast = o.cast;
      };
      follows = tt;
      does = tt;
      letters = subst (AreGoodLetters round) (sym silent) tt;
    };
  }
