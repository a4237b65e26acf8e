-- Each row of a gatherer: what it heard is so, and what it tells is so.
use Rattle.std.proofs.Common.{◌≡◌, ◌≢◌, ◌⊎◌, ◌+◌, ◌*◌, ◌/◌, ◌%◌, ◌<◌, ◌≤◌, ℕ, zero, suc, cond, ◌==◌, List, [], ◌∷◌, length, replicate, take, drop, get_or, Option, Some, None, refl, sym, ap, subst, inl, inr, ⊎_elim, arith, ◌∙◌}
use Rattle.std.specs.Prelude.{slice_index_or, slice_set}
use Rattle.std.specs.List.{Contains}
use Rattle.std.proofs.lemmas.Bool.{cond_both}
use Rattle.std.proofs.lemmas.List.{get_or_default, get_or-drop, get_or-take, length-drop, length-set, length-take}
use Rattle.std.proofs.lemmas.Nat.{div-mul-add, mod-mul-add}
use Rattle.std.proofs.lemmas.Option.{none-some, same_Some}
use Rattle.std.proofs.Math.Nat.{mul-le-mul_left}
use Rattle.aggregator.specs.Hearing.{Hearing, after_note, fresh, heard_after, least_in, least_of_all, least_with, lesser_of}
use Rattle.aggregator.proofs.Leasts.{below_all, none_exactly}
use Rattle.aggregator.proofs.Merged.{get_or-greater_of}
use Rattle.aggregator.proofs.Sound.{greater_sound, least_sound}
use Rattle.history_frame.specs.declared.inputs.Input.{Input}
use Rattle.history_frame.specs.declared.inputs.Input.TheVariants.{Deliver, Call as ACall, Tick, Lead, Stop, Restart}
use Rattle.log_base.specs.ClusterShape.{InRange, Shape}
use Rattle.message_frame.specs.declared.messages.Message.{Message}
use Rattle.message_frame.specs.declared.messages.Message.TheVariants.{Copy, CopyAck, Report, Least, Prepare, Promised, Lower, Accept, Accepted, Decide, Want}
use Rattle.node_table.specs.declared.role.Role.TheVariants.{Gatherer, Orderer}
use Rattle.node_table.specs.Numbering.{orderer_node}
use Rattle.record_frame.specs.declared.values.Lengths.{Lengths}
use Rattle.node_model.specs.GathererRow.{GathererChange, least_letters, leasts, message_row, on_report, on_tick, row}
use Rattle.node_model.specs.Messages.{least_message}
use Rattle.node_model.specs.Nodes.{before_orderers, to_nodes, to_orderers}
use Rattle.node_model.proofs.Turning.{ForSome}
use Rattle.safety_law.specs.Fit.{IsHearing}
use Rattle.safety_law.specs.Letters.{AreGoodLetters, IsGoodMessage, IsTrueReport}
use Rattle.safety_law.specs.Lists.{Lists}
use Rattle.safety_law.specs.Events.{IsGoodInput}
use Rattle.safety_law.proofs.Sending.{both_sent, first_sent, letter_to, none_sent}

-- a message to every orderer
module _ (config : Shape) (lists : Lists) (m : Message) (good : (i : ℕ) → i < config.orderers → IsGoodMessage config lists (Orderer i) m) where
  pub orderers_from : (i count : ℕ) → i + count ≤ config.orderers → AreGoodLetters config lists (to_nodes (orderer_node config i) count m)
  orderers_from i zero below = none_sent config lists
  orderers_from i (suc count) below =
      first_sent config lists _ (to_nodes (suc (orderer_node config i)) count m)
      (letter_to config lists (Orderer i) m (omega arith) (good i (omega arith)))
      (subst (λ (n : ℕ). AreGoodLetters config lists (to_nodes n count m)) next (orderers_from (suc i) count (omega arith)))
    where
      next : orderer_node config (suc i) ≡ suc (orderer_node config i)
      next = omega arith

  pub all_orderers : AreGoodLetters config lists (to_orderers config m)
  unfolding to_orderers
  all_orderers =
      let first : orderer_node config 0 ≡ before_orderers config = omega arith in
      subst (λ (n : ℕ). AreGoodLetters config lists (to_nodes n config.orderers m)) first (orderers_from 0 config.orderers (omega arith))

-- a cell of which one was set
cell_at : (xs : List (Option Lengths)) (i : ℕ) (v : Option Lengths) (p : ℕ)
    → (slice_index_or (slice_set xs i v) p None ≡ slice_index_or xs p None) ⊎ ((p ≡ i) × (slice_index_or (slice_set xs i v) p None ≡ v))
cell_at [] i v p = inl refl
cell_at (x ∷ xs) zero v zero = inr (refl, refl)
cell_at (x ∷ xs) zero v (suc p) = inl refl
cell_at (x ∷ xs) (suc i) v zero = inl refl
cell_at (x ∷ xs) (suc i) v (suc p) = ⊎_elim (λ e. inl e) (λ e. inr (ap suc e.0, e.1)) (cell_at xs i v p)

-- a shard and a replica are known by their cell
pub same_cell : (n s r t q : ℕ) → r < n → q < n → s * n + r ≡ t * n + q → (s ≡ t) × (r ≡ q)
same_cell n s r t q a b e =
    let one = div-mul-add s n r a in let other = div-mul-add t n q b in
    let rest = mod-mul-add s n r a in let more = mod-mul-add t n q b in
    (sym one ∙ ap (λ (x : ℕ). x / n) e ∙ other, sym rest ∙ ap (λ (x : ℕ). x % n) e ∙ more)

-- a least has the count of one that was heard, and each was heard
with_count : (first : Lengths) (cells : List (Option Lengths)) (least : Lengths) → least_with first cells ≡ Some least → least.count ≡ first.count
with_count first [] least e = ap (λ (l : Lengths). l.count) (sym (same_Some first least e))
with_count first (None ∷ cells) least e = absurd (none-some least e)
with_count first (Some next ∷ cells) least e = with_count (record { count = first.count; length = lesser_of first.length next.length }) cells least e

least_count : (cells : List (Option Lengths)) (least : Lengths) → least_of_all cells ≡ Some least
    → (heard : Lengths) × Contains cells (Some heard) × (least.count ≡ heard.count)
least_count [] least e = absurd (none-some least e)
least_count (None ∷ cells) least e = absurd (none-some least e)
least_count (Some first ∷ cells) least e = (first, (0, omega arith, refl), with_count first cells least e)

all_heard : (cells : List (Option Lengths)) (least : Lengths) → least_of_all cells ≡ Some least → (k : ℕ) → k < length cells
    → (heard : Lengths) × (get_or cells k None ≡ Some heard)
all_heard cells least found k below = at (get_or cells k None) refl
  where
    some : cells ≢ []
    some e = let none = ap length e in absurd (omega arith)

    at : (o : Option Lengths) → get_or cells k None ≡ o → (heard : Lengths) × (get_or cells k None ≡ Some heard)
    at (Some heard) e = (heard, e)
    at None e = absurd (none-some least (sym ((none_exactly cells some).1 (k, below, e)) ∙ found))

pub record GathererFits (config : Shape) (lists : Lists) (change : GathererChange) : Type 0 where
  pub after : IsHearing config lists change.after
  pub letters : AreGoodLetters config lists change.outputs

module _ (config : Shape) (range : InRange config) (lists : Lists) (hearing : Hearing) (good : IsHearing config lists hearing) where
  said_more : (s r : ℕ) (o : Option Lengths) (said : Lengths) → ((before : Lengths) → o ≡ Some before → IsTrueReport config lists s r before)
      → IsTrueReport config lists s r said → IsTrueReport config lists s r (heard_after o said)
  said_more s r None said old new = new
  said_more s r (Some before) said old new =
      let b = old before refl in record {
        range = greater_sound 5 before said b.range new.range (b.count ∙ sym new.count);
        count = b.count;
        held = λ j below. omega (arith, get_or-greater_of before.length said.length j, b.held j below, new.held j below);
      }

  note_heard : (s r : ℕ) (said : Lengths) → r < config.replicas → s < config.shards → IsTrueReport config lists s r said
      → (t q : ℕ) → t < config.shards → q < config.replicas → (now : Lengths)
      → slice_index_or (after_note hearing s r said).cells (t * config.replicas + q) None ≡ Some now → IsTrueReport config lists t q now
  note_heard s r said a b new t q c d now e =
      ⊎_elim
      (λ same. good.heard t q c d now (sym same ∙ e))
      (λ here.
      let cell = same_cell config.replicas t q s r d a (here.0 ∙ ap (λ (n : ℕ). s * n + r) good.replicas) in
      let is : heard_after (slice_index_or hearing.cells (s * hearing.replicas + r) None) said ≡ now = same_Some _ now (sym here.1 ∙ e) in
      subst (λ (x : ℕ × ℕ). IsTrueReport config lists x.0 x.1 now) (λ i. (sym cell.0 i, sym cell.1 i))
      (subst (IsTrueReport config lists s r) is
      (said_more s r (slice_index_or hearing.cells (s * hearing.replicas + r) None) said
      (λ before f. good.heard s r b a before (ap (λ (n : ℕ). slice_index_or hearing.cells (s * n + r) None) (sym good.replicas) ∙ f)) new)))
      (cell_at hearing.cells (s * hearing.replicas + r) (Some (heard_after (slice_index_or hearing.cells (s * hearing.replicas + r) None) said)) (t * config.replicas + q))

  pub note_hears : (s r : ℕ) (said : Lengths) → s < config.shards → r < config.replicas → IsTrueReport config lists s r said → IsHearing config lists (after_note hearing s r said)
  note_hears s r said a b new = record {
    replicas = good.replicas;
    size = length-set hearing.cells (s * hearing.replicas + r) (Some (heard_after (slice_index_or hearing.cells (s * hearing.replicas + r) None) said)) ∙ good.size;
    heard = note_heard s r said b a new;
  }

  -- the cells of a shard
  abbrev cells_of : ℕ → List (Option Lengths)
  cells_of s = take hearing.replicas (drop (s * hearing.replicas) hearing.cells)

  cells_length : (s : ℕ) → s < config.shards → length (take hearing.replicas (drop (s * hearing.replicas) hearing.cells)) ≡ config.replicas
  cells_length s below =
      let more : config.replicas * suc s ≤ config.replicas * config.shards = mul-le-mul_left config.replicas (omega arith) in
      let whole : hearing.replicas ≡ config.replicas = good.replicas in
      let at : s * hearing.replicas ≡ s * config.replicas = ap (λ (n : ℕ). s * n) whole in
      omega (arith, length-take hearing.replicas (drop (s * hearing.replicas) hearing.cells), length-drop (s * hearing.replicas) hearing.cells, good.size, range.segments)

  cell_is : (s k : ℕ) → k < config.replicas
      → get_or (take hearing.replicas (drop (s * hearing.replicas) hearing.cells)) k None ≡ get_or hearing.cells (s * config.replicas + k) None
  cell_is s k below =
      get_or-take hearing.replicas (drop (s * hearing.replicas) hearing.cells) k None (omega (arith, good.replicas))
      ∙ get_or-drop (s * hearing.replicas) hearing.cells k None
      ∙ ap (λ (n : ℕ). get_or hearing.cells (s * n + k) None) good.replicas

  -- each one that is listed was heard
  listed : (s : ℕ) → s < config.shards → (heard : Lengths) → Contains (take hearing.replicas (drop (s * hearing.replicas) hearing.cells)) (Some heard)
      → (r : ℕ) × (r < config.replicas) × IsTrueReport config lists s r heard
  listed s below heard (k, inside, is) =
      let small : k < config.replicas = omega (arith, inside, cells_length s below) in
      let cells : List (Option Lengths) = take hearing.replicas (drop (s * hearing.replicas) hearing.cells) in
      (k, small, good.heard s k below small heard (sym (cell_is s k small) ∙ get_or_default cells k None (Some heard) inside ∙ is))

  pub least_good : (s : ℕ) (least : Lengths) → s < config.shards → least_in hearing s ≡ Some least → (i : ℕ) → i < config.orderers
      → IsGoodMessage config lists (Orderer i) (least_message s least)
  least_good s least below found i inside = record {
    named = refl;
    range = (omega (arith, below, range.shards), least_sound 5 (cells_of s) least (λ heard holds. (listed s below heard holds).2.range) found);
    of_config = (below, count_is);
    truth = λ r b j c.
        let k : r < length (cells_of s) = omega (arith, cells_length s below) in
        let said = all_heard (cells_of s) least found r k in
        let low = below_all (cells_of s) least said.0 j found (r, k, get_or_default (cells_of s) r (Some said.0) None k ∙ said.1) in
        let high = (good.heard s r below b said.0 (sym (cell_is s r b) ∙ said.1)).held j c in
        omega (arith, low, high);
  }
    where
      count_is : least.count ≡ config.replicas
      count_is =
          let one = least_count (cells_of s) least found in
          one.2 ∙ (listed s below one.0 one.1).2.count

  least_letters_good : (s : ℕ) (o : Option Lengths) → s < config.shards → least_in hearing s ≡ o → AreGoodLetters config lists (least_letters config s o)
  least_letters_good s None below e = none_sent config lists
  least_letters_good s (Some least) below e = all_orderers config lists (least_message s least) (least_good s least below e)

  leasts_good : (index s count : ℕ) → s + count ≤ config.shards → AreGoodLetters config lists (leasts config index hearing s count)
  leasts_good index s zero below = none_sent config lists
  leasts_good index s (suc count) below =
      both_sent config lists (cond (s % config.gatherers == index) (least_letters config s (least_in hearing s)) []) (leasts config index hearing (suc s) count)
      (cond_both (s % config.gatherers == index) (least_letters config s (least_in hearing s)) [] (AreGoodLetters config lists)
      (λ e. least_letters_good s (least_in hearing s) (omega arith) refl) (λ e. none_sent config lists))
      (leasts_good index (suc s) count (omega arith))

  tick_fits : (index : ℕ) → GathererFits config lists (on_tick config index hearing)
  unfolding on_tick
  tick_fits index = record { after = good; letters = leasts_good index 0 config.shards (omega arith) }

  report_fits : (s r : ℕ) (said : Lengths) → s < config.shards → r < config.replicas → IsTrueReport config lists s r said → GathererFits config lists (on_report hearing s r said)
  unfolding on_report
  report_fits s r said a b new = record { after = note_hears s r said a b new; letters = none_sent config lists }

  message_fits : (index : ℕ) (m : Message) → IsGoodMessage config lists (Gatherer index) m → ForSome (GathererFits config lists) (message_row hearing m)
  message_fits index (Report s r said) h =
      report_fits s.0 r.0 said h.of_config.0 h.of_config.1 (record { range = h.range.2; count = h.of_config.2; held = h.truth })
  message_fits index (Copy segment offset entry) h = tt
  message_fits index (CopyAck peer held) h = tt
  message_fits index (Least shard lengths) h = tt
  message_fits index (Prepare ballot slot) h = tt
  message_fits index (Promised ballot slot who votes) h = tt
  message_fits index (Lower ballot promise) h = tt
  message_fits index (Accept ballot slot value) h = tt
  message_fits index (Accepted ballot slot who) h = tt
  message_fits index (Decide slot value) h = tt
  message_fits index (Want slot node) h = tt

  pub row_fits : (index : ℕ) (input : Input) → IsGoodInput config lists (Gatherer index) input → ForSome (GathererFits config lists) (row config index hearing input)
  row_fits index (Deliver place at (Some m)) h = message_fits index m h
  row_fits index (Deliver place at None) h = tt
  row_fits index (ACall call) h = tt
  row_fits index Tick h = tick_fits index
  row_fits index Lead h = tt
  row_fits index Stop h = tt
  row_fits index Restart h = tt

abbrev no_lengths : Option Lengths
no_lengths = None

nothing : (n k : ℕ) → get_or (replicate n no_lengths) k None ≡ None
nothing zero k = refl
nothing (suc n) zero = refl
nothing (suc n) (suc k) = nothing n k

-- a gatherer that has just started has heard of nothing
pub fresh_hears : (config : Shape) (lists : Lists) (index : ℕ) → IsHearing config lists (fresh index config.replicas config.shards)
fresh_hears config lists index = record {
  replicas = refl;
  size = refl;
  heard = λ s r a b said e. absurd (none-some said (sym (nothing 32 (s * config.replicas + r)) ∙ e));
}
