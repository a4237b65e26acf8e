-- A fine orderer stays fine as it learns, hears and takes wishes.
use Rattle.std.proofs.Common.{◌≡◌, ◌≢◌, ◌⊎◌, ℕ, zero, suc, ◌+◌, ◌-◌, ◌*◌, ◌<◌, ◌≤◌, max, Bool, true, false, cond, ◌==◌, ◌&&◌, nat_le, nat_lt, List, [], ◌∷◌, ◌++◌, length, get_or, replicate, Option, Some, None, refl, ap, sym, subst, inl, inr, mul-pos, mul-le-mul_right, ◌∙◌, ⊎_elim, arith, length-append, get_or-set_other, get_or-set_same}
use Rattle.std.specs.Prelude.{slice_index}
use Rattle.std.specs.Option.{MatchOption, option_map}
use Rattle.std.specs.List.{AllByRecursion, filter}
use Rattle.std.proofs.lemmas.Bool.{cases_eq, cases_lt, cond_both, eqb-true}
use Rattle.std.proofs.lemmas.List.{get_or_default, length-set, same_lists}
use Rattle.std.proofs.Math.ListN.{get_or-eq_default, set}
use Rattle.std.proofs.lemmas.Bool.Decides.{nat_tests}
use Rattle.cut_chain.specs.Known.{Known, known_of, learned as grown}
use Rattle.cut_chain.proofs.Growing.{known_grows}
use Rattle.log_base.specs.ClusterShape.{InRange, Shape}
use Rattle.record_frame.specs.declared.values.Lengths.{Lengths}
use Rattle.record_frame.specs.declared.values.Value.{Value}
use Rattle.record_frame.specs.Values.{IsLengths}
use Rattle.node_model.specs.OrdererNode.{Orderer, fresh}
use Rattle.node_model.specs.OrdererRow.{leader_after, learned, with_leader}
use Rattle.paxos_model.specs.Leader.{Leader, Pending, drop_pending}
use Rattle.paxos_model.specs.Learner.{Wish, is_left, learn, left_wishes, nothing_heard, raise, raised_from}
use Rattle.paxos_leader.proofs.Passing.{next_after_learning, passed_is_learned}
use Rattle.paxos_leader.specs.Leading.{IsAtNext, without_below}
use Rattle.paxos_learner.specs.Learning.{learned_of}
use Rattle.paxos_learner.specs.declared.known.Learned.TheVariants.{Added, Have, Gap}
use Rattle.orderer_node.specs.Fine.{IsFine, IsFineLeader, IsFineLeaderOr, IsFineOrderer, IsFinePendingOr, IsFineWish}
use Rattle.orderer_node.specs.Remembering.{IsMemory}
use Rattle.orderer_node.proofs.Values.{each-push, short_lengths}

each-filter : {A : Type 0} (P : A → Type 0) (test : A → Bool) (xs : List A) → AllByRecursion P xs → AllByRecursion P (filter test xs)
each-filter P test [] h = tt
each-filter {A} P test (x ∷ xs) h = at (test x) (each-filter P test xs h.1)
  where
    at : (b : Bool) → AllByRecursion P (filter test xs) → AllByRecursion P (cond {A = List A} b (x ∷ filter test xs) (filter test xs))
    at true rest = (h.0, rest)
    at false rest = rest

module _ (config : Shape) where
  learn_few : (known : List Value) (slot : ℕ) (value : Value) → slot ≤ 16383 → length known ≤ 16384 → length (learn known slot value) ≤ 16384
  unfolding learn
  learn_few known slot value within few =
      cond_both (slot == length known) (known ++ value ∷ []) known (λ l. length l ≤ 16384)
      (λ e. let here : slot ≡ length known = eqb-true slot (length known) e in omega (arith, length-append known (value ∷ [])))
      (λ e. few)

  pub learn_fine : (known : List Value) (slot : ℕ) (value : Value) → AllByRecursion (IsFine config) known → IsFine config value → AllByRecursion (IsFine config) (learn known slot value)
  unfolding learn
  learn_fine known slot value h f =
      cond_both (slot == length known) (known ++ value ∷ []) known (AllByRecursion (IsFine config))
      (λ e. each-push (IsFine config) known value h f) (λ e. h)

  left_fine : (wishes : List Wish) (slot : ℕ) (value : Value) → AllByRecursion (IsFineWish config) wishes → AllByRecursion (IsFineWish config) (left_wishes wishes slot value)
  unfolding left_wishes
  left_fine wishes slot value h = each-filter (IsFineWish config) (is_left slot value) wishes h

  pub at_next : (known : ℕ) (leader : Leader) → IsFineLeader config known leader → IsAtNext leader known
  at_next known leader h = at leader.pending h.pending
    where
      at : (pending : Option Pending) → IsFinePendingOr config known pending → MatchOption pending (Unit {0}) (λ p. p.slot ≡ known)
      at None p = tt
      at (Some pending) p = p.next

  pending_after : (known after slot : ℕ) (pending : Option Pending) → IsFinePendingOr config known pending
      → MatchOption (drop_pending pending slot) (Unit {0}) (λ p. p.slot ≡ after) → IsFinePendingOr config after (drop_pending pending slot)
  pending_after known after slot None h next = tt
  pending_after known after slot (Some pending) h next = at (pending.slot == slot) next
    where
      at : (b : Bool) → MatchOption (cond b None (Some pending)) (Unit {0}) (λ p. p.slot ≡ after) → IsFinePendingOr config after (cond b None (Some pending))
      at true n = tt
      at false n = record { next = n; within = h.within; value = h.value }

  leader_after_fine : (known : List Value) (slot : ℕ) (value : Value) (lead : Option Leader) → IsFineLeaderOr config (length known) lead
      → IsFineLeaderOr config (length (learn known slot value)) (leader_after lead slot)
  leader_after_fine known slot value None h = tt
  leader_after_fine known slot value (Some leader) h = record {
    ballot = h.ballot;
    window = h.window;
    best = h.best;
    pending = pending_after (length known) (length (learn known slot value)) slot leader.pending h.pending
        (next_after_learning leader known slot value (at_next (length known) leader h));
  }

  pub learned_fine : (o : Orderer) (slot : ℕ) (value : Value) → slot ≤ 16383 → IsFine config value → IsFineOrderer config o → IsFineOrderer config (learned o slot value)
  unfolding learned
  learned_fine o slot value within f h = record {
    few = learn_few o.known slot value within h.few;
    known = learn_fine o.known slot value h.known f;
    heard = h.heard;
    all_heard = h.all_heard;
    wishes = left_fine o.wishes slot value h.wishes;
    leader = leader_after_fine o.known slot value o.leader h.leader;
  }

-- ---- the lengths that were heard

-- what stands at a place after some lengths are raised
abbrev pub raised_to : ℕ → ℕ → List ℕ → ℕ → ℕ → ℕ
raised_to first count given place length =
    cond (nat_le first place && nat_lt place (first + count)) (max length (slice_index given (place - first))) length

pub length-raised : (at first count : ℕ) (given lengths : List ℕ) → length (raised_from at first count given lengths) ≡ length lengths
length-raised at first count given [] = refl
length-raised at first count given (x ∷ xs) = ap suc (length-raised (suc at) first count given xs)

pub raised_at : (at first count : ℕ) (given lengths : List ℕ) (k d : ℕ) → k < length lengths
    → get_or (raised_from at first count given lengths) k d ≡ raised_to first count given (at + k) (get_or lengths k d)
raised_at at first count given [] k d h = absurd (omega arith)
raised_at at first count given (x ∷ xs) zero d h = let e : at ≡ at + 0 = omega arith in ap (λ (n : ℕ). raised_to first count given n x) e
raised_at at first count given (x ∷ xs) (suc k) d h =
    let e : suc at + k ≡ at + suc k = omega arith in
    let below : k < length xs = omega arith in
    raised_at (suc at) first count given xs k d below ∙ ap (λ (n : ℕ). raised_to first count given n (get_or xs k d)) e

-- no length is raised yet
outside : (first place : ℕ) → (nat_le first place && nat_lt place (first + 0)) ≡ false
outside first place = grind (arith, nat_tests)

pub raised_none : (at first : ℕ) (given lengths : List ℕ) → lengths ≡ raised_from at first 0 given lengths
raised_none at first given [] = refl
raised_none at first given (x ∷ xs) =
    ap (λ (l : List ℕ). x ∷ l) (raised_none (suc at) first given xs)
    ∙ ap (λ b. cond b (max x (slice_index given (at - first))) x ∷ raised_from (suc at) first 0 given xs) (sym (outside first at))

-- one more is raised
not_here : (first count : ℕ) → (nat_le first (first + count) && nat_lt (first + count) (first + count)) ≡ false
not_here first count = grind (arith, nat_tests)

here : (first count : ℕ) → (nat_le first (first + count) && nat_lt (first + count) (first + (count + 1))) ≡ true
here first count = grind (arith, nat_tests)

elsewhere : (first count place : ℕ) → place ≢ first + count
    → (nat_le first place && nat_lt place (first + count)) ≡ (nat_le first place && nat_lt place (first + (count + 1)))
elsewhere first count place other = grind (arith, nat_tests)

pub raised_more : (first count : ℕ) (given lengths : List ℕ) (raised : ℕ) → first + count < length lengths
    → raised ≡ max (get_or (raised_from 0 first count given lengths) (first + count) 0) (get_or given count 0)
    → set (raised_from 0 first count given lengths) (first + count) raised ≡ raised_from 0 first (count + 1) given lengths
raised_more first count given lengths raised fits is =
    same_lists _ _ (length-set _ _ _ ∙ length-raised 0 first count given lengths ∙ sym (length-raised 0 first (count + 1) given lengths)) each
  where
    old : List ℕ
    old = raised_from 0 first count given lengths

    each : (k d : ℕ) → k < length (set (raised_from 0 first count given lengths) (first + count) raised)
        → get_or (set (raised_from 0 first count given lengths) (first + count) raised) k d ≡ get_or (raised_from 0 first (count + 1) given lengths) k d
    each k d h =
        let size : length (set (raised_from 0 first count given lengths) (first + count) raised) ≡ length lengths = length-set _ _ _ ∙ length-raised 0 first count given lengths in
        let below : k < length lengths = omega arith in
        let start : k ≡ 0 + k = omega arith in
        ⊎_elim
        (λ (e : k ≡ first + count).
        let zero_place : 0 + (first + count) ≡ first + count = omega arith in
        let minus : first + count - first ≡ count = omega arith in
        let at_old : get_or old (first + count) 0 ≡ get_or lengths (first + count) 0 =
        raised_at 0 first count given lengths (first + count) 0 fits ∙ ap (λ (n : ℕ). raised_to first count given n (get_or lengths (first + count) 0)) zero_place
        ∙ ap (λ b. cond b (max (get_or lengths (first + count) 0) (slice_index given (first + count - first))) (get_or lengths (first + count) 0)) (not_here first count) in
        let defaults : get_or lengths (first + count) 0 ≡ get_or lengths (first + count) d = get_or_default lengths (first + count) 0 d fits in
        let within : first + count < length old = subst (λ (n : ℕ). first + count < n) (sym (length-raised 0 first count given lengths)) fits in
        let left : get_or (set old (first + count) raised) (first + count) d ≡ raised = get_or-set_same old (first + count) raised d within in
        let value : raised ≡ max (get_or lengths (first + count) d) (get_or given count 0) = is ∙ ap (λ (n : ℕ). max n (get_or given count 0)) (at_old ∙ defaults) in
        let right : get_or (raised_from 0 first (count + 1) given lengths) (first + count) d ≡ max (get_or lengths (first + count) d) (get_or given count 0) =
        raised_at 0 first (count + 1) given lengths (first + count) d fits ∙ ap (λ (n : ℕ). raised_to first (count + 1) given n (get_or lengths (first + count) d)) zero_place
        ∙ ap (λ b. cond b (max (get_or lengths (first + count) d) (slice_index given (first + count - first))) (get_or lengths (first + count) d)) (here first count)
        ∙ ap (λ (n : ℕ). max (get_or lengths (first + count) d) (get_or given n 0)) minus in
        subst (λ (n : ℕ). get_or (set old (first + count) raised) n d ≡ get_or (raised_from 0 first (count + 1) given lengths) n d) (sym e) (left ∙ value ∙ sym right))
        (λ (other : k ≢ first + count).
        get_or-set_other old (first + count) k raised d other ∙ raised_at 0 first count given lengths k d below
        ∙ ap (λ (n : ℕ). raised_to first count given n (get_or lengths k d)) (sym start)
        ∙ ap (λ b. cond b (max (get_or lengths k d) (slice_index given (k - first))) (get_or lengths k d)) (elsewhere first count k other)
        ∙ ap (λ (n : ℕ). raised_to first (count + 1) given n (get_or lengths k d)) start
        ∙ sym (raised_at 0 first (count + 1) given lengths k d below))
        (cases_eq k (first + count))

-- lengths that are heard stay lengths
raised_short : (b : Bool) (length more : ℕ) → length ≤ 16384 → more ≤ 16384 → cond b (max length more) length ≤ 16384
raised_short true length more h k = omega arith
raised_short false length more h k = h

past : (first count place : ℕ) → first + count ≤ place → (nat_le first place && nat_lt place (first + count)) ≡ false
past first count place h = grind (arith, nat_tests)

pub raise_fine : (replicas first : ℕ) (given : List ℕ) (heard : Lengths) → ((k : ℕ) → slice_index given k ≤ 16384) → first + replicas ≤ heard.count
    → IsLengths 32 heard → IsLengths 32 (raise replicas first given heard)
unfolding raise
raise_fine replicas first given heard short fits is = record {
  some = is.some;
  count = is.count;
  cells = length-raised 0 first replicas given heard.length ∙ is.cells;
  small = λ k h.
      let below : k < length heard.length = omega (arith, is.cells, is.count) in
      let old : slice_index heard.length k ≤ 16384 = is.small k h in
      subst (λ (n : ℕ). n ≤ 16384) (sym (raised_at 0 first replicas given heard.length k 0 below))
      (raised_short (nat_le first (0 + k) && nat_lt (0 + k) (first + replicas)) (get_or heard.length k 0) (slice_index given (0 + k - first)) old (short (0 + k - first)));
  rest = λ k h. at_rest k h (cases_lt k (length heard.length));
}
  where
    at_rest : (k : ℕ) → heard.count ≤ k → (k < length heard.length) ⊎ (length heard.length ≤ k) → slice_index (raised_from 0 first replicas given heard.length) k ≡ 0
    at_rest k h (inl below) =
        let beyond : first + replicas ≤ 0 + k = omega arith in
        raised_at 0 first replicas given heard.length k 0 below
        ∙ ap (λ b. cond b (max (get_or heard.length k 0) (slice_index given (0 + k - first))) (get_or heard.length k 0)) (past first replicas (0 + k) beyond)
        ∙ is.rest k h
    at_rest k h (inr none) =
        get_or-eq_default (raised_from 0 first replicas given heard.length) 0 (let e = length-raised 0 first replicas given heard.length in omega (arith, e))

-- ---- an orderer that has just started

zeros : (count k : ℕ) → get_or {A = ℕ} (replicate {A = ℕ} count 0) k 0 ≡ 0
zeros zero k = refl
zeros (suc count) zero = refl
zeros (suc count) (suc k) = zeros count k

nothing_fine : (segments : ℕ) → 1 ≤ segments → segments ≤ 32 → IsLengths 32 (nothing_heard segments)
unfolding nothing_heard
nothing_fine segments some few = record {
  some = some;
  count = few;
  cells = refl;
  small = λ k h. let e = zeros 32 k in omega (arith, e);
  rest = λ k h. zeros 32 k;
}

heard_all : (segments : ℕ) → (nothing_heard segments).count ≡ segments
unfolding nothing_heard
heard_all segments = refl

pub fresh_orderer : (config : Shape) → InRange config → IsFineOrderer config (fresh config)
fresh_orderer config range =
    let same : config.shards * config.replicas ≡ config.replicas * config.shards = omega arith in
    let some : 1 ≤ config.replicas * config.shards = mul-pos range.some_replica range.some_shard in
    record {
      few = omega arith;
      known = tt;
      heard = nothing_fine (config.shards * config.replicas) (omega (arith, some, same)) (omega (arith, range.segments, same));
      all_heard = heard_all (config.shards * config.replicas) ∙ same;
      wishes = tt;
      leader = tt;
    }

-- ---- the parts of a memory

pub memory_fresh : (config : Shape) (known : List Value) (heard : Lengths) (wishes : List Wish) (leader : Option Leader) (chain : Known) (orderers : ℕ) → InRange config
    → known ≡ [] → heard ≡ (fresh config).heard → wishes ≡ [] → leader ≡ None → chain ≡ known_of config [] → orderers ≡ config.orderers
    → IsMemory config (record { known = known; heard = heard; wishes = wishes; ticks = 0; leader = leader }) chain orderers
memory_fresh config known heard wishes leader chain orderers range k h w l c o =
    let same : fresh config ≡ record { known = known; heard = heard; wishes = wishes; ticks = 0; leader = leader } =
    λ j. let at : Orderer = record { known = sym k j; heard = sym h j; wishes = sym w j; ticks = 0; leader = sym l j } in at in
    record {
      range = range;
      fine = subst (λ (p : Orderer). IsFineOrderer config p) same (fresh_orderer config range);
      chained = c ∙ ap (λ (vs : List Value). known_of config vs) (sym k);
      counted = o;
    }

pub memory_leader : (config : Shape) (o : Orderer) (chain : Known) (orderers after : ℕ) (leader : Option Leader) → IsMemory config o chain orderers
    → IsFineLeaderOr config (length o.known) leader → after ≡ orderers → IsMemory config (with_leader o leader) chain after
memory_leader config o chain orderers after leader is fine same = record {
  range = is.range;
  fine = record {
    few = is.fine.few;
    known = is.fine.known;
    heard = is.fine.heard;
    all_heard = is.fine.all_heard;
    wishes = is.fine.wishes;
    leader = fine;
  };
  chained = is.chained;
  counted = same ∙ is.counted;
}

-- the parts of an orderer that learned
pub learned_parts : (config : Shape) (o : Orderer) (slot : ℕ) (value : Value) (known : List Value) (wishes : List Wish) (count : ℕ) (leader : Option Leader)
    → IsFineLeaderOr config (length o.known) o.leader → known ≡ learn o.known slot value → wishes ≡ left_wishes o.wishes slot value → count ≡ length known
    → leader ≡ option_map (without_below count) o.leader
    → learned o slot value ≡ record { known = known; heard = o.heard; wishes = wishes; ticks = o.ticks; leader = leader }
unfolding learned
learned_parts config o slot value known wishes count leader fine k w n l =
    let lead : leader_after o.leader slot ≡ leader = at o.leader fine ∙ ap (λ (m : ℕ). option_map (without_below m) o.leader) (ap length (sym k) ∙ sym n) ∙ sym l in
    λ j. let here : Orderer = record { known = sym k j; heard = o.heard; wishes = sym w j; ticks = o.ticks; leader = lead j } in here
  where
    at : (lead : Option Leader) → IsFineLeaderOr config (length o.known) lead → leader_after lead slot ≡ option_map (without_below (length (learn o.known slot value))) lead
    at None f = refl
    at (Some leader) f = ap Some (sym (passed_is_learned leader o.known slot value (at_next config (length o.known) leader f)))

-- the slot of a value that was added is the next
pub added_slot : (count slot : ℕ) → Added ≡ learned_of count slot → (slot == count) ≡ true
added_slot count slot e = at (slot == count) (nat_lt slot count) e
  where
    at : (b c : Bool) → Added ≡ cond b Added (cond c Have (Gap (record { 0 = count }))) → b ≡ true
    at true c e = refl
    at false true e = absurd cc
    at false false e = absurd cc

pub added_known : (config : Shape) (known : List Value) (slot : ℕ) (value : Value) → Added ≡ learned_of (length known) slot
    → grown (known_of config known) value ≡ known_of config (learn known slot value)
unfolding learn
added_known config known slot value e =
    known_grows config known value ∙ ap (λ b. known_of config (cond b (known ++ value ∷ []) known)) (sym (added_slot (length known) slot e))

-- a memory that heard
pub heard_fine : (config : Shape) (shard first count : ℕ) (given : Lengths) (raised : List ℕ) (o : Orderer) (chain : Known) (orderers : ℕ) → shard < config.shards
    → first ≡ shard * config.replicas → count ≡ config.replicas → IsLengths 5 given → raised ≡ raised_from 0 first count given.length o.heard.length → IsMemory config o chain orderers
    → IsMemory config (record { known = o.known; heard = record { count = o.heard.count; length = raised }; wishes = o.wishes; ticks = o.ticks; leader = o.leader }) chain orderers
unfolding raise
heard_fine config shard first count given raised o chain orderers within place size is heard h =
    let least : (shard + 1) * config.replicas ≤ config.shards * config.replicas = mul-le-mul_right config.replicas (let w : shard + 1 ≤ config.shards = omega arith in w) in
    let fits : first + count ≤ o.heard.count = omega (arith, least, place, size, h.fine.all_heard) in
    let lengths = raise_fine count first given.length o.heard (short_lengths 5 given is) fits h.fine.heard in
    record {
      range = h.range;
      fine = record {
        few = h.fine.few;
        known = h.fine.known;
        heard = subst (λ (l : List ℕ). let r : Lengths = record { count = o.heard.count; length = l } in IsLengths 32 r) (sym heard) lengths;
        all_heard = h.fine.all_heard;
        wishes = h.fine.wishes;
        leader = h.fine.leader;
      };
      chained = h.chained;
      counted = h.counted;
    }
