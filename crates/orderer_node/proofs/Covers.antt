-- Whether a cut covers something more, shard by shard.
use Rattle.std.proofs.Common.{◌≡◌, ◌≢◌, ℕ, zero, suc, ◌+◌, ◌-◌, ◌*◌, ◌<◌, ◌≤◌, Bool, true, false, not, cond, eqb, ◌&&◌, ◌||◌, replicate, List, [], ◌∷◌, ◌++◌, length, get_or, Option, Some, None, is_some, refl, ap, sym, subst, ◌∙◌, ⊎_elim, arith}
use Rattle.std.specs.Prelude.{slice_index}
use Rattle.std.specs.Option.{option_map}
use Rattle.std.specs.List.{All, AllByRecursion, list_any}
use Rattle.std.proofs.lemmas.Bool.{cases_eq, cases_lt, cond_both}
use Rattle.std.proofs.lemmas.List.Elements.{All-nil, All-map, All-weaker, All-push, All-head, All-tail}
use Rattle.log_base.specs.ClusterShape.{Shape}
use Rattle.log_base.specs.declared.numbers.Place.{Place}
use Rattle.log_model.specs.Chain.{AreApart, ChainState, Frozen, IsChain, Live, ShardState, Standing, apply, apply_all, chain_of, covered_in_segments, covered_in_shard, covered_in_shards, covered_length, covered_of, freeze, is_added, is_of, no_values, state_in}
use Rattle.log_model.specs.Places.{places_from}
use Rattle.log_model.proofs.Coverage.{cut_state, cut_state-shard}
use Rattle.log_model.proofs.Frozen.{state_in-shard}
use Rattle.log_model.proofs.Growth.{freeze-shard}
use Rattle.log_model.proofs.States.{state_in-here, state_in-later}
use Rattle.paxos_model.specs.Learner.{is_empty}
use Rattle.record_frame.specs.declared.values.Value.{Value}
use Rattle.record_frame.specs.declared.values.Value.TheVariants.{Noop, Cut, Add, Finalise, Trim}
use Rattle.orderer_node.specs.Fine.{IsFine}
use Rattle.shard_registry.specs.Order.{state_of}
use Rattle.shard_registry.specs.declared.answers.State.TheVariants.{Live as LiveState}
use Rattle.orderer_node.specs.Wishing.{Rises, covers_of}

-- ---- empty lists

empty-append : (xs ys : List Place) → is_empty (xs ++ ys) ≡ (is_empty xs && is_empty ys)
empty-append [] ys = refl
empty-append (x ∷ xs) ys = refl

is_nil : (xs : List Place) → not (is_empty xs) ≡ false → xs ≡ []
is_nil [] e = refl
is_nil (x ∷ xs) e = absurd cc

-- ---- all shards of a chain are the cluster's

abbrev pub IsBelow : ℕ → ShardState → Type 0
IsBelow shards state = state.shard < shards

below-apply : (config : Shape) (chain : ChainState) (value : Value) → IsFine config value → All (IsBelow config.shards) chain.shards
    → All (IsBelow config.shards) (apply config.replicas chain value).shards
below-apply config chain Noop fine h = h
below-apply config chain (Cut lengths) fine h =
    All-map (IsBelow config.shards) (cut_state config.replicas lengths.length) chain.shards
    (All-weaker (IsBelow config.shards) (λ (state : ShardState). (cut_state config.replicas lengths.length state).shard < config.shards)
    (λ state is. let e = cut_state-shard config.replicas lengths.length state in omega (arith, e)) chain.shards h)
below-apply config chain (Add shard) fine h =
    let new : ShardState = record { shard = shard.0; standing = Live; covered = replicate config.replicas 0 } in
    cond_both (is_added chain shard.0) chain (record chain { shards = chain.shards ++ new ∷ [] }) (λ (c : ChainState). All (IsBelow config.shards) c.shards) (λ _. h)
    (λ _. All-push (IsBelow config.shards) chain.shards new h fine.own)
below-apply config chain (Finalise shard) fine h =
    All-map (IsBelow config.shards) (freeze shard.0) chain.shards
    (All-weaker (IsBelow config.shards) (λ (state : ShardState). (freeze shard.0 state).shard < config.shards)
    (λ state is. let e = freeze-shard shard.0 state in omega (arith, e)) chain.shards h)
below-apply config chain (Trim position) fine h = h

below-all : (config : Shape) (chain : ChainState) (values : List Value) → AllByRecursion (IsFine config) values → All (IsBelow config.shards) chain.shards
    → All (IsBelow config.shards) (apply_all config.replicas chain values).shards
below-all config chain [] fine h = h
below-all config chain (value ∷ values) fine h =
    below-all config (apply config.replicas chain value) values fine.1 (below-apply config chain value fine.0 h)

pub shards_below : (config : Shape) (values : List Value) → AllByRecursion (IsFine config) values
    → All (IsBelow config.shards) (chain_of config.replicas values).shards
shards_below config values fine = below-all config no_values values fine (All-nil (IsBelow config.shards))

-- a shard that is none of the cluster's was not added
not_there : (shards : ℕ) (states : List ShardState) (shard : ℕ) → shards ≤ shard → All (IsBelow shards) states → state_in states shard ≡ None
not_there shards [] shard past h = refl
not_there shards (state ∷ states) shard past h =
    let here : state.shard < shards = All-head (IsBelow shards) state states h in
    let other : state.shard ≢ shard = omega arith in
    state_in-later state states shard other ∙ not_there shards states shard past (All-tail (IsBelow shards) state states h)

-- ---- nothing more, or something more

absent : (states : List ShardState) (shard : ℕ) → list_any (is_of shard) states ≡ false → state_in states shard ≡ None
absent [] shard e = refl
absent (state ∷ states) shard e = at (eqb state.shard shard) (absent states shard) e
  where
    at : (b : Bool) → (list_any (is_of shard) states ≡ false → state_in states shard ≡ None) → (b || list_any (is_of shard) states) ≡ false
        → cond b (Some state) (state_in states shard) ≡ None
    at true rest h = absurd cc
    at false rest h = rest h

module _ (replicas : ℕ) (lengths : List ℕ) where
  nothing_more : (states : List ShardState) → AreApart states → ((shard : ℕ) → covers_of replicas lengths (state_in states shard) ≡ false)
      → covered_in_shards replicas lengths states ≡ []
  nothing_more [] apart none = refl
  nothing_more (state ∷ states) apart none =
      let own : covers_of replicas lengths (Some state) ≡ false =
      subst (λ (s : Option ShardState). covers_of replicas lengths s ≡ false) (state_in-here state states state.shard refl) (none state.shard) in
      let here : covered_in_shard replicas lengths state.standing state ≡ [] = is_nil (covered_in_shard replicas lengths state.standing state) own in
      let later : covered_in_shards replicas lengths states ≡ [] = nothing_more states apart.1 others in
      ap (λ (l : List Place). l ++ covered_in_shards replicas lengths states) here ∙ later
    where
      others : (shard : ℕ) → covers_of replicas lengths (state_in states shard) ≡ false
      others shard =
          ⊎_elim
          (λ (same : state.shard ≡ shard).
          let gone : state_in states shard ≡ None = absent states shard (subst (λ (n : ℕ). list_any (is_of n) states ≡ false) same apart.0) in
          subst (λ (s : Option ShardState). covers_of replicas lengths s ≡ false) (sym gone) refl)
          (λ other. subst (λ (s : Option ShardState). covers_of replicas lengths s ≡ false) (state_in-later state states shard other) (none shard))
          (cases_eq state.shard shard)

  something_more : (states : List ShardState) (shard : ℕ) → covers_of replicas lengths (state_in states shard) ≡ true
      → is_empty (covered_in_shards replicas lengths states) ≡ false
  something_more [] shard e = absurd cc
  something_more (state ∷ states) shard e =
      empty-append here later ∙ at (eqb state.shard shard) (something_more states shard) e
    where
      here : List Place
      here = covered_in_shard replicas lengths state.standing state

      later : List Place
      later = covered_in_shards replicas lengths states

      both : (a b : Bool) → a ≡ false → (a && b) ≡ false
      both true b h = absurd cc
      both false b h = refl

      right : (a b : Bool) → b ≡ false → (a && b) ≡ false
      right true b h = h
      right false b h = refl

      opened : (b : Bool) → not b ≡ true → b ≡ false
      opened true h = absurd cc
      opened false h = refl

      at : (b : Bool) → (covers_of replicas lengths (state_in states shard) ≡ true → is_empty later ≡ false)
          → covers_of replicas lengths (cond b (Some state) (state_in states shard)) ≡ true → (is_empty here && is_empty later) ≡ false
      at true rest h = both (is_empty here) (is_empty later) (opened (is_empty here) h)
      at false rest h = right (is_empty here) (is_empty later) (rest h)

-- a cut that covers nothing more of any shard of the cluster covers nothing more
pub none_covered : (config : Shape) (lengths : List ℕ) (states : List ShardState) → AreApart states → All (IsBelow config.shards) states
    → ((shard : ℕ) → shard < config.shards → covers_of config.replicas lengths (state_in states shard) ≡ false)
    → false ≡ not (is_empty (covered_in_shards config.replicas lengths states))
none_covered config lengths states apart below none =
    ap (λ (l : List Place). not (is_empty l)) (sym (nothing_more config.replicas lengths states apart all))
  where
    all : (shard : ℕ) → covers_of config.replicas lengths (state_in states shard) ≡ false
    all shard =
        ⊎_elim
        (λ (h : shard < config.shards). none shard h)
        (λ (h : config.shards ≤ shard).
        subst (λ (s : Option ShardState). covers_of config.replicas lengths s ≡ false) (sym (not_there config.shards states shard h below)) refl)
        (cases_lt shard config.shards)

pub some_covered : (replicas : ℕ) (lengths : List ℕ) (states : List ShardState) (shard : ℕ) → true ≡ covers_of replicas lengths (state_in states shard)
    → true ≡ not (is_empty (covered_in_shards replicas lengths states))
some_covered replicas lengths states shard e = ap not (sym (something_more replicas lengths states shard (sym e)))

-- ---- a live shard

-- whether a length is above what is covered of its segment
abbrev pub RisesAt : List ℕ → List ℕ → ℕ → Bool → Type 0
RisesAt covered lengths at true = (j : ℕ) × (j < length covered) × (get_or covered j 0 < slice_index lengths (at + j))
RisesAt covered lengths at false = (j : ℕ) → j < length covered → slice_index lengths (at + j) ≤ get_or covered j 0

some_places : (shard segment first count : ℕ) (rest : List Place) → 0 < count → is_empty (places_from shard segment first count ++ rest) ≡ false
some_places shard segment first zero rest h = absurd (omega arith)
some_places shard segment first (suc count) rest h = refl

after_some : (xs rest : List Place) → is_empty rest ≡ false → is_empty (xs ++ rest) ≡ false
after_some [] rest e = e
after_some (x ∷ xs) rest e = refl

no_places : (shard segment first count : ℕ) → count ≡ 0 → places_from shard segment first count ≡ []
no_places shard segment first count e = ap (λ (n : ℕ). places_from shard segment first n) e

pub rises : (shard segment : ℕ) (lengths : List ℕ) (at : ℕ) (covered : List ℕ) (b : Bool) → RisesAt covered lengths at b
    → b ≡ not (is_empty (covered_in_segments shard segment lengths at covered))
rises shard segment lengths at [] true h = absurd (let k = h.1 in omega arith)
rises shard segment lengths at [] false h = refl
rises shard segment lengths at (first ∷ rest) true h = sym (ap not (above (rises shard (suc segment) lengths (suc at) rest true) h.0 h.1 h.2))
  where
    turn : (b : Bool) → true ≡ not b → b ≡ false
    turn true e = absurd cc
    turn false e = refl

    above : (RisesAt rest lengths (suc at) true → true ≡ not (is_empty (covered_in_segments shard (suc segment) lengths (suc at) rest)))
        → (j : ℕ) → j < suc (length rest) → get_or (first ∷ rest) j 0 < slice_index lengths (at + j)
        → is_empty (covered_in_segments shard segment lengths at (first ∷ rest)) ≡ false
    above again zero below up =
        let here : at + 0 ≡ at = omega arith in
        let more : first < slice_index lengths at = subst (λ (n : ℕ). first < slice_index lengths n) here up in
        some_places shard segment first (slice_index lengths at - first) (covered_in_segments shard (suc segment) lengths (suc at) rest) (omega arith)
    above again (suc j) below up =
        let there : at + suc j ≡ suc at + j = omega arith in
        let more : get_or rest j 0 < slice_index lengths (suc at + j) = subst (λ (n : ℕ). get_or rest j 0 < slice_index lengths n) there up in
        let within : j < length rest = omega arith in
        let later = again (j, within, more) in
        after_some (places_from shard segment first (slice_index lengths at - first)) (covered_in_segments shard (suc segment) lengths (suc at) rest)
        (turn (is_empty (covered_in_segments shard (suc segment) lengths (suc at) rest)) later)
rises shard segment lengths at (first ∷ rest) false h =
    let here : slice_index lengths at ≤ first = subst (λ (n : ℕ). slice_index lengths n ≤ first) (zero_more at) (h 0 (omega arith)) in
    let none : slice_index lengths at - first ≡ 0 = omega arith in
    rises shard (suc segment) lengths (suc at) rest false later
    ∙ ap (λ (l : List Place). not (is_empty (l ++ covered_in_segments shard (suc segment) lengths (suc at) rest))) (sym (no_places shard segment first (slice_index lengths at - first) none))
  where
    zero_more : (n : ℕ) → n + 0 ≡ n
    zero_more n = omega arith

    later : (j : ℕ) → j < length rest → slice_index lengths (suc at + j) ≤ get_or rest j 0
    later j below =
        let there : at + suc j ≡ suc at + j = omega arith in
        subst (λ (n : ℕ). slice_index lengths n ≤ get_or rest j 0) there (h (suc j) (omega arith))

-- ---- added shards

-- a shard was added where it has a state
pub is_there : (states : List ShardState) (shard : ℕ) → is_some (state_in states shard) ≡ list_any (is_of shard) states
is_there [] shard = refl
is_there (state ∷ states) shard = at (eqb state.shard shard) (is_there states shard)
  where
    at : (b : Bool) → is_some (state_in states shard) ≡ list_any (is_of shard) states → is_some (cond b (Some state) (state_in states shard)) ≡ (b || list_any (is_of shard) states)
    at true e = refl
    at false e = e

pub is_some-map : {A B : Type 0} (f : A → B) (o : Option A) → is_some (option_map f o) ≡ is_some o
is_some-map f None = refl
is_some-map f (Some x) = refl

-- ---- a live shard of a chain

found_all : (P : ShardState → Type 0) (states : List ShardState) (shard : ℕ) (state : ShardState) → All P states → state_in states shard ≡ Some state → P state
found_all P [] shard state h e = absurd cc
found_all P (first ∷ rest) shard state h e = at (eqb first.shard shard) (found_all P rest shard state (All-tail P first rest h)) e
  where
    at : (b : Bool) → (state_in rest shard ≡ Some state → P state) → cond b (Some first) (state_in rest shard) ≡ Some state → P state
    at true others same = let q : first ≡ state = cc in subst P q (All-head P first rest h)
    at false others same = others same

live_standing : (standing : Standing) → state_of standing ≡ LiveState → standing ≡ Live
live_standing Live e = refl
live_standing Frozen e = absurd cc

pub live_covers : (replicas : ℕ) (chain : ChainState) (shard : ℕ) (lengths : List ℕ) (b : Bool) → IsChain replicas chain
    → option_map (λ (found : ShardState). state_of found.standing) (state_in chain.shards shard) ≡ Some LiveState → Rises replicas chain lengths shard b
    → b ≡ covers_of replicas lengths (state_in chain.shards shard)
live_covers replicas chain shard lengths b is live up = at (state_in chain.shards shard) refl live
  where
    covered_same : (state : ShardState) → state_in chain.shards shard ≡ Some state → (j : ℕ) → covered_of chain shard j ≡ get_or state.covered j 0
    covered_same state e j = ap (λ (o : Option ShardState). covered_length o j) e

    risen : (state : ShardState) → state_in chain.shards shard ≡ Some state → state.shard ≡ shard → length state.covered ≡ replicas
        → (c : Bool) → Rises replicas chain lengths shard c → RisesAt state.covered lengths (state.shard * replicas) c
    risen state e same size true h = (
      h.0,
      subst (λ (n : ℕ). h.0 < n) (sym size) h.1,
      subst (λ (s : ℕ). get_or state.covered h.0 0 < slice_index lengths (s * replicas + h.0)) (sym same)
          (subst (λ (n : ℕ). n < slice_index lengths (shard * replicas + h.0)) (covered_same state e h.0) h.2),
    )
    risen state e same size false h = λ j below.
        subst (λ (s : ℕ). slice_index lengths (s * replicas + j) ≤ get_or state.covered j 0) (sym same)
        (subst (λ (n : ℕ). slice_index lengths (shard * replicas + j) ≤ n) (covered_same state e j) (h j (subst (λ (n : ℕ). j < n) size below)))

    at : (o : Option ShardState) → state_in chain.shards shard ≡ o → option_map (λ (found : ShardState). state_of found.standing) o ≡ Some LiveState
        → b ≡ covers_of replicas lengths o
    at None e h = absurd cc
    at (Some state) e h =
        let standing : state_of state.standing ≡ LiveState = cc in
        let same = state_in-shard chain.shards shard state e in
        let size = found_all (λ (s : ShardState). length s.covered ≡ replicas) chain.shards shard state is.segments e in
        rises state.shard 0 lengths (state.shard * replicas) state.covered b (risen state e same size b up)
        ∙ ap (λ (s : Standing). not (is_empty (covered_in_shard replicas lengths s state))) (sym (live_standing state.standing standing))
