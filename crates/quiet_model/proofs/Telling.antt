-- A tick of a gatherer that has heard from all replicas of its shards, and the least of a shard that is delivered to an orderer.
use Rattle.std.proofs.Common.{◌≡◌, ◌≢◌, ◌⊎◌, ◌+◌, ◌-◌, ◌*◌, ◌%◌, ◌<◌, ◌≤◌, ℕ, zero, suc, cond, ◌==◌, List, [], length, Option, Some, None, refl, sym, ap, subst, inl, inr, ⊎_elim, arith, eq-eqb, ◌∙◌}
use Rattle.std.specs.Prelude.{slice_index, slice_index_or}
use Rattle.std.specs.List.{AllByRecursion}
use Rattle.std.proofs.lemmas.Bool.{cases_eq, cases_lt, cond-true, cond_both, eqb-true}
use Rattle.std.proofs.Math.Nat.{mul-le-mul_left}
use Rattle.reply_frame.specs.declared.replies.Reply.{Nothing}
use Rattle.aggregator.specs.Hearing.{Hearing, least_in}
use Rattle.history_frame.specs.declared.events.Sent.{Sent}
use Rattle.history_frame.specs.declared.inputs.Input.TheVariants.{Deliver, Tick}
use Rattle.history_frame.specs.declared.inputs.Mark.TheVariants.{Done}
use Rattle.log_base.specs.ClusterShape.{InRange, Shape}
use Rattle.log_base.specs.declared.numbers.Shard.{Shard}
use Rattle.log_model.specs.Storage.{report_of}
use Rattle.message_frame.specs.declared.messages.Message.{Message}
use Rattle.message_frame.specs.declared.messages.Message.TheVariants.{Least}
use Rattle.node_table.specs.Numbering.{gatherer_node, orderer_node}
use Rattle.paxos_model.specs.Learner.{raise, raised_from}
use Rattle.record_frame.specs.declared.values.Lengths.{Lengths}
use Rattle.node_model.specs.GathererRow.{GathererChange, GathererNode, hears, least_letters, leasts, on_tick}
use Rattle.node_model.specs.Marks.{Running}
use Rattle.node_model.specs.Messages.{least_message}
use Rattle.node_model.specs.Nodes.{before_orderers, to_nodes, to_orderers}
use Rattle.node_model.specs.NodeState.{Gathering, Ordering, node_outcome}
use Rattle.node_model.specs.OrdererNode.{Mode as OrdererMode, Node, Orderer as OrdererMemory}
use Rattle.node_model.specs.OrdererRow.{on_least, quiet}
use Rattle.node_model.proofs.Letters.{all_append, to_nodes_all}
use Rattle.quiet_model.specs.Settled.{Agreed, AreLists, IsGatherer, IsHeardCut, IsOrderer, ListsOf, heard_by, list_at}
use Rattle.quiet_model.proofs.Lists.{report_at}
use Rattle.quiet_model.proofs.Outcomes.{gatherer_takes, orderer_takes}
use Rattle.quiet_model.proofs.Raising.{least_of_equals, raised_beside, raised_length, raised_within}
use Rattle.quiet_model.proofs.Round.{Says}
use Rattle.quiet_model.proofs.Waiting.{Waits, waits_left, waits_right}

-- the least of a shard, which says the lengths of its lists, to an orderer
pub record IsGoodLeast (config : Shape) (lists : ListsOf) (node shard : ℕ) (said : Lengths) : Type 0 where
  pub index : ℕ
  pub below : index < config.orderers
  pub at : node ≡ orderer_node config index
  pub shard_below : shard < config.shards
  pub says : said.length ≡ (report_of (lists shard)).length

abbrev pub IsTellingMessage : Shape → ListsOf → ℕ → Message → Type 0
IsTellingMessage config lists node (Least shard said) = IsGoodLeast config lists node shard.0 said
IsTellingMessage config lists node _ = ⊥

abbrev pub IsTellingLetter : Shape → ListsOf → Sent → Type 0
IsTellingLetter config lists sent = IsTellingMessage config lists sent.to.0 sent.message

abbrev pub AreTellingLetters : Shape → ListsOf → List Sent → Type 0
AreTellingLetters config lists letters = AllByRecursion (IsTellingLetter config lists) letters

abbrev pub IsLeastOf : ℕ → Message → Type 0
IsLeastOf s (Least shard said) = shard.0 ≡ s
IsLeastOf s _ = ⊥

abbrev pub IsLeastTo : Shape → ℕ → ℕ → Sent → Type 0
IsLeastTo config s i x = (x.to.0 ≡ orderer_node config i) × IsLeastOf s x.message

-- ---- a tick

module _ (config : Shape) (lists : ListsOf) (s : ℕ) (a : s < config.shards) where
  all_good : AreTellingLetters config lists (to_orderers config (least_message s (report_of (lists s))))
  unfolding to_orderers
  all_good =
      to_nodes_all (IsTellingLetter config lists) (least_message s (report_of (lists s))) (before_orderers config) config.orderers
      (λ node low high. record {
        index = node - before_orderers config;
        below = omega arith;
        at = omega arith;
        shard_below = a;
        says = refl;
      })

  node_sent : (i first count : ℕ) → first ≤ orderer_node config i → orderer_node config i < first + count
      → Waits (IsLeastTo config s i) (to_nodes first count (least_message s (report_of (lists s))))
  node_sent i first zero low high = absurd (omega arith)
  node_sent i first (suc count) low high =
      ⊎_elim
      (λ e. inl (e, refl))
      (λ differ. inr (node_sent i (suc first) count (omega arith) (omega arith)))
      (cases_eq first (orderer_node config i))

  all_sent : (i : ℕ) → i < config.orderers → Waits (IsLeastTo config s i) (to_orderers config (least_message s (report_of (lists s))))
  unfolding to_orderers
  all_sent i below = node_sent i (before_orderers config) config.orderers (omega arith) (omega arith)

-- a gatherer heard how much each replica of its shards holds
abbrev pub HasHeard : Shape → ListsOf → ℕ → Hearing → Type 0
HasHeard config lists index hearing = (s r : ℕ) → s < config.shards → r < config.replicas → s % config.gatherers ≡ index
    → slice_index_or hearing.cells (s * config.replicas + r) None ≡ Some (report_of (lists s))

module _ (config : Shape) (range : InRange config) (lists : ListsOf) (index : ℕ) (within : index < config.gatherers) (node : GathererNode) (g : IsGatherer config lists node)
    (heard : HasHeard config lists index g.hearing) where
  least_is : (s : ℕ) → s < config.shards → s % config.gatherers ≡ index → least_in g.hearing s ≡ Some (report_of (lists s))
  least_is s a mine =
      let more : config.replicas * suc s ≤ config.replicas * config.shards = mul-le-mul_left config.replicas (omega arith) in
      least_of_equals g.hearing s (report_of (lists s)) (omega (arith, g.replicas, range.some_replica))
      (subst (λ (n : ℕ). s * n + n ≤ length g.hearing.cells) (sym g.replicas) (omega (arith, g.cells, range.segments)))
      (λ r below. subst (λ (n : ℕ). slice_index_or g.hearing.cells (s * n + r) None ≡ Some (report_of (lists s))) (sym g.replicas)
      (heard s r a (omega (arith, below, g.replicas)) mine))

  abbrev told_of : ℕ → List Sent
  told_of s = cond (s % config.gatherers == index) (least_letters config s (least_in g.hearing s)) []

  letters_are : (s : ℕ) → s < config.shards → s % config.gatherers ≡ index
      → least_letters config s (least_in g.hearing s) ≡ to_orderers config (least_message s (report_of (lists s)))
  letters_are s a mine = ap (least_letters config s) (least_is s a mine)

  told_good : (s : ℕ) → s < config.shards → AreTellingLetters config lists (told_of s)
  told_good s a =
      cond_both (s % config.gatherers == index) (least_letters config s (least_in g.hearing s)) [] (AreTellingLetters config lists)
      (λ e. subst (AreTellingLetters config lists) (sym (letters_are s a (eqb-true (s % config.gatherers) index e))) (all_good config lists s a))
      (λ e. tt)

  told_sent : (s i : ℕ) → s < config.shards → i < config.orderers → s % config.gatherers ≡ index → Waits (IsLeastTo config s i) (told_of s)
  told_sent s i a below mine =
      subst (Waits (IsLeastTo config s i))
      (sym (cond-true (s % config.gatherers == index) (least_letters config s (least_in g.hearing s)) [] (eq-eqb (s % config.gatherers) index mine) ∙ letters_are s a mine))
      (all_sent config lists s a i below)

  leasts_good : (shard count : ℕ) → shard + count ≤ config.shards → AreTellingLetters config lists (leasts config index g.hearing shard count)
  leasts_good shard zero below = tt
  leasts_good shard (suc count) below =
      all_append (IsTellingLetter config lists) (told_of shard) (leasts config index g.hearing (suc shard) count)
      (told_good shard (omega arith)) (leasts_good (suc shard) count (omega arith))

  leasts_sent : (s i : ℕ) → s < config.shards → i < config.orderers → s % config.gatherers ≡ index → (shard count : ℕ) → shard ≤ s → s < shard + count
      → Waits (IsLeastTo config s i) (leasts config index g.hearing shard count)
  leasts_sent s i a below mine shard zero low high = absurd (omega arith)
  leasts_sent s i a below mine shard (suc count) low high =
      ⊎_elim
      (λ e. waits_left (IsLeastTo config s i) (told_of shard) (leasts config index g.hearing (suc shard) count)
      (subst (λ (t : ℕ). Waits (IsLeastTo config s i) (told_of t)) e (told_sent s i a below mine)))
      (λ differ. waits_right (IsLeastTo config s i) (told_of shard) (leasts config index g.hearing (suc shard) count)
      (leasts_sent s i a below mine (suc shard) count (omega arith) (omega arith)))
      (cases_eq s shard)

  abbrev tick_change : GathererChange
  tick_change = hears g.hearing (leasts config index g.hearing 0 config.shards)

  tick_row : on_tick config index g.hearing ≡ tick_change
  unfolding on_tick
  tick_row = refl

  pub gatherer_ticks : node_outcome config (gatherer_node config index) (Gathering node) Tick Done
      ≡ Some (record {
        state = Gathering (record { durable = node.durable; mode = Running g.hearing });
        outputs = leasts config index g.hearing 0 config.shards;
        reply = Nothing;
      })
  gatherer_ticks = gatherer_takes config index within node g.hearing tick_change g.runs Tick refl (ap Some tick_row)

  pub gatherer_good : AreTellingLetters config lists (leasts config index g.hearing 0 config.shards)
  gatherer_good = leasts_good 0 config.shards (omega arith)

  pub gatherer_sends : (s i : ℕ) → s < config.shards → i < config.orderers → s % config.gatherers ≡ index
      → Waits (IsLeastTo config s i) (leasts config index g.hearing 0 config.shards)
  gatherer_sends s i a below mine = leasts_sent s i a below mine 0 config.shards (omega arith) (omega arith)

-- ---- a least that is delivered

-- the length at a place, once those of a shard are raised to those of its lists
module _ (config : Shape) (range : InRange config) (lists : ListsOf) (sizes : AreLists config lists) (shard : ℕ) (a : shard < config.shards) (given : List ℕ)
    (says : given ≡ (report_of (lists shard)).length) (heard : Lengths) (h : IsHeardCut config lists heard) where
  abbrev raised : List ℕ
  raised = raised_from 0 (shard * config.replicas) config.replicas given heard.length

  in_cells : (t p : ℕ) → t < config.shards → p < config.replicas → t * config.replicas + p < config.shards * config.replicas
  in_cells t p c d =
      let more : config.replicas * suc t ≤ config.replicas * config.shards = mul-le-mul_left config.replicas (omega arith) in
      omega arith

  -- a length of the shard itself
  raised_here : (p : ℕ) → p < config.replicas → slice_index raised (shard * config.replicas + p) ≡ length (list_at lists shard p)
  raised_here p d =
      let inside = in_cells shard p a d in
      let place : 0 + (shard * config.replicas + p) - shard * config.replicas ≡ p = omega arith in
      let is = raised_within 0 (shard * config.replicas) config.replicas given heard.length (shard * config.replicas + p) (omega (arith, inside, h.cells, range.segments)) (omega arith) (omega arith) in
      let told : slice_index given (0 + (shard * config.replicas + p) - shard * config.replicas) ≡ length (list_at lists shard p) =
      ap (λ (n : ℕ). slice_index given n) place ∙ ap (λ (xs : List ℕ). slice_index xs p) says ∙ report_at (lists shard) p in
      omega (arith, is, told, h.held shard p a d)

  -- what holds of each length holds after the least, if it holds of the lengths of the lists
  each_length : (P : ℕ → Type 0) (t p : ℕ) → t < config.shards → p < config.replicas → P (length (list_at lists t p))
      → P (slice_index heard.length (t * config.replicas + p)) → P (slice_index raised (t * config.replicas + p))
  each_length P t p c d full old =
      ⊎_elim
      (λ same. subst (λ (n : ℕ). P (slice_index raised (n * config.replicas + p))) (sym same)
      (subst P (sym (raised_here p d)) (subst (λ (n : ℕ). P (length (list_at lists n p))) same full)))
      (λ differ. subst P (sym (raised_beside 0 (shard * config.replicas) config.replicas given heard.length (t * config.replicas + p) (beside differ))) old)
      (cases_eq t shard)
    where
      beside : t ≢ shard → (0 + (t * config.replicas + p) < shard * config.replicas) ⊎ (shard * config.replicas + config.replicas ≤ 0 + (t * config.replicas + p))
      beside differ =
          ⊎_elim
          (λ less. let more : config.replicas * suc t ≤ config.replicas * shard = mul-le-mul_left config.replicas (omega arith) in inl (omega arith))
          (λ not_less. let more : config.replicas * suc shard ≤ config.replicas * t = mul-le-mul_left config.replicas (omega arith) in inr (omega arith))
          (cases_lt t shard)

  pub raised_heard : IsHeardCut config lists (raise config.replicas (shard * config.replicas) given heard)
  unfolding raise
  raised_heard = record {
    count = h.count;
    cells = raised_length 0 (shard * config.replicas) config.replicas given heard.length ∙ h.cells;
    held = λ t p c d. each_length (λ n. n ≤ length (list_at lists t p)) t p c d (omega arith) (h.held t p c d);
    rest = λ place past.
        let more : config.replicas * suc shard ≤ config.replicas * config.shards = mul-le-mul_left config.replicas (omega arith) in
        raised_beside 0 (shard * config.replicas) config.replicas given heard.length place (inr (omega arith)) ∙ h.rest place past;
  }

  pub raised_stays : (t p : ℕ) → t < config.shards → p < config.replicas → slice_index heard.length (t * config.replicas + p) ≡ length (list_at lists t p)
      → slice_index (raise config.replicas (shard * config.replicas) given heard).length (t * config.replicas + p) ≡ length (list_at lists t p)
  unfolding raise
  raised_stays t p c d e = each_length (λ n. n ≡ length (list_at lists t p)) t p c d refl e

  pub raised_now : (p : ℕ) → p < config.replicas
      → slice_index (raise config.replicas (shard * config.replicas) given heard).length (shard * config.replicas + p) ≡ length (list_at lists shard p)
  unfolding raise
  raised_now p d = raised_here p d

-- an orderer has heard all of a shard
abbrev pub HasAll : Shape → ListsOf → ℕ → Option Lengths → Type 0
HasAll config lists s heard = (p : ℕ) → p < config.replicas → Says heard (s * config.replicas + p) (length (list_at lists s p))

-- what a least makes of an orderer
pub record LeastTaken (config : Shape) (agreed : Agreed) (lists : ListsOf) (i : ℕ) (node : Node) (shard : Shard) (said : Lengths) (place index : ℕ) : Type 0 where
  pub after : Node
  pub rule : node_outcome config (orderer_node config i) (Ordering node) (Deliver place index (Some (Least shard said))) Done
      ≡ Some (record { state = Ordering after; outputs = []; reply = Nothing })
  pub fine : IsOrderer config agreed i lists after
  pub stays : (t : ℕ) → t < config.shards → HasAll config lists t (heard_by node.mode) → HasAll config lists t (heard_by after.mode)
  pub now : HasAll config lists shard.0 (heard_by after.mode)

module _ (config : Shape) (range : InRange config) (agreed : Agreed) (lists : ListsOf) (sizes : AreLists config lists) (i : ℕ) (within : i < config.orderers) (node : Node)
    (o : IsOrderer config agreed i lists node) (shard : Shard) (said : Lengths) (a : shard.0 < config.shards) (says : said.length ≡ (report_of (lists shard.0)).length) (place index : ℕ) where
  abbrev raised_memory : OrdererMemory
  raised_memory = record o.orderer { heard = raise config.replicas (shard.0 * config.replicas) said.length o.orderer.heard }

  least_row : on_least config o.orderer shard.0 said.length ≡ quiet raised_memory
  unfolding on_least
  least_row = refl

  pub least_taken : LeastTaken config agreed lists i node shard said place index
  least_taken = record {
    after = record { durable = node.durable; mode = Running raised_memory };
    rule = orderer_takes config i within node o.orderer (quiet raised_memory) o.runs (Deliver place index (Some (Least shard said))) refl (ap Some least_row);
    fine = record {
      orderer = raised_memory;
      runs = refl;
      knows = o.knows;
      wishes = o.wishes;
      heard = raised_heard config range lists sizes shard.0 a said.length says o.orderer.heard o.heard;
      leads = o.leads;
      cast = o.cast;
    };
    stays = λ t c all p d.
        raised_stays config range lists sizes shard.0 a said.length says o.orderer.heard o.heard t p c d
        (subst (λ (mode : OrdererMode). Says (heard_by mode) (t * config.replicas + p) (length (list_at lists t p))) o.runs (all p d));
    now = λ p d. raised_now config range lists sizes shard.0 a said.length says o.orderer.heard o.heard p d;
  }
