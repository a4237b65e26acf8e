-- Which places values spell: each offset below the covered length of its segment, once, and no other.
use Rattle.std.proofs.Common.{◌≡◌, ℕ, ◌+◌, ◌<◌, ◌≤◌, Bool, cond, ltb, List, [], ◌∷◌, ◌++◌, length, replicate, Option, None, Some, refl, sym, ap, ◌∙◌, ⊎_elim, arith, zero-add, append_assoc, length-append}
use Rattle.std.specs.Prelude.{◌↔◌, slice_get}
use Rattle.std.specs.List.{Contains, filter}
use Rattle.std.specs.Option.{option_map}
use Rattle.std.proofs.lemmas.Bool.{cond_both, lt-ltb, le-ltb, ltb-true, cases_lt}
use Rattle.std.proofs.lemmas.List.{append-nil}
use Rattle.std.proofs.lemmas.List.Elements.{filter-append}
use Rattle.log_base.specs.declared.numbers.Place.{Place}
use Rattle.record_frame.specs.declared.values.Value.{Value}
use Rattle.record_frame.specs.declared.values.Value.TheVariants.{Noop, Cut, Add, Finalise, Trim}
use Rattle.log_model.specs.Places.{place_at, places_from, is_in}
use Rattle.log_model.specs.Chain.{ShardState, Live, ChainState, no_values, apply, apply_all, chain_of, covered_by, covered_of, covered_length, state_in, is_added, freeze, IsChain}
use Rattle.log_model.specs.Spelling.{spell, spell_from}
use Rattle.log_model.specs.Lookup.{position_of_place, place_at_position}
use Rattle.log_model.proofs.Times.{times, one_below, times-in_segment, times-run, one_index, listed_where_contained, contained_where_listed}
use Rattle.log_model.proofs.States.{state_in-map, covered_length-push, replicate-zero}
use Rattle.log_model.proofs.Coverage.{cut_state, cut_state-shard, shards-kept}
use Rattle.log_model.proofs.Runs.{in_segment, length-places_from}
use Rattle.log_model.proofs.Growth.{freeze-shard, freeze-covered, apply-IsChain, no_values-IsChain}
use Rattle.log_model.proofs.Position.{index_from_position, position_from_index, position_from_none, times-position_none, slice_get_kept}
use Rattle.log_model.proofs.Appending.{spell-append}

-- A change that keeps a shard's lengths keeps them where it is looked up.
pub covered_length-map : (change : ShardState → ShardState) → ((state : ShardState) → (change state).covered ≡ state.covered)
    → (found : Option ShardState) (segment : ℕ) → covered_length (option_map change found) segment ≡ covered_length found segment
covered_length-map change keeps None segment = refl
covered_length-map change keeps (Some state) segment = rw (keeps state) refl

-- A finalisation and an addition cover nothing more.
pub covered_of-finalise : (replicas : ℕ) (chain : ChainState) (one shard segment : ℕ)
    → covered_of (apply replicas chain (Finalise (record { 0 = one }))) shard segment ≡ covered_of chain shard segment
covered_of-finalise replicas chain one shard segment =
    ap (λ (found : Option ShardState). covered_length found segment) (state_in-map (freeze one) (freeze-shard one) chain.shards shard)
    ∙ covered_length-map (freeze one) (freeze-covered one) (state_in chain.shards shard) segment

pub covered_of-add : (replicas : ℕ) (chain : ChainState) (new shard segment : ℕ)
    → covered_of (apply replicas chain (Add (record { 0 = new }))) shard segment ≡ covered_of chain shard segment
covered_of-add replicas chain new shard segment =
    cond_both (is_added chain new) chain _ (λ (c : ChainState). covered_of c shard segment ≡ covered_of chain shard segment) (λ _. refl)
    (λ _. covered_length-push chain.shards (record { shard = new; standing = Live; covered = replicate replicas 0 }) shard segment (replicate-zero replicas segment))

-- The places below the covered length of a segment and those that a value newly covers in it are those below the new one.
pub covered_by-kept : (replicas : ℕ) (chain : ChainState) (value : Value) (shard segment : ℕ) → IsChain replicas chain
    → places_from shard segment 0 (covered_of chain shard segment) ++ in_segment shard segment (covered_by replicas chain value)
    ≡ places_from shard segment 0 (covered_of (apply replicas chain value) shard segment)
covered_by-kept replicas chain Noop shard segment is = append-nil _
covered_by-kept replicas chain (Cut lengths) shard segment is =
    shards-kept replicas lengths.length chain.shards shard segment is.apart
    ∙ ap (λ (found : Option ShardState). places_from shard segment 0 (covered_length found segment))
    (sym (state_in-map (cut_state replicas lengths.length) (cut_state-shard replicas lengths.length) chain.shards shard))
covered_by-kept replicas chain (Add new) shard segment is =
    append-nil _ ∙ ap (places_from shard segment 0) (sym (covered_of-add replicas chain new.0 shard segment))
covered_by-kept replicas chain (Finalise one) shard segment is =
    append-nil _ ∙ ap (places_from shard segment 0) (sym (covered_of-finalise replicas chain one.0 shard segment))
covered_by-kept replicas chain (Trim position) shard segment is = append-nil _

pub spell_from-kept : (replicas : ℕ) (chain : ChainState) (values : List Value) (shard segment : ℕ) → IsChain replicas chain
    → places_from shard segment 0 (covered_of chain shard segment) ++ in_segment shard segment (spell_from replicas chain values)
    ≡ places_from shard segment 0 (covered_of (apply_all replicas chain values) shard segment)
spell_from-kept replicas chain [] shard segment is = append-nil _
spell_from-kept replicas chain (value ∷ values) shard segment is =
    let after = apply replicas chain value in
    let before = places_from shard segment 0 (covered_of chain shard segment) in
    let here = covered_by replicas chain value in
    let later = spell_from replicas after values in
    ap (λ (places : List Place). before ++ places) (filter-append (is_in shard segment) here later)
    ∙ sym (append_assoc before (in_segment shard segment here) (in_segment shard segment later))
    ∙ ap (λ (places : List Place). places ++ in_segment shard segment later) (covered_by-kept replicas chain value shard segment is)
    ∙ spell_from-kept replicas after values shard segment (apply-IsChain replicas chain value is)

-- The places of a segment that are spelled are those below its covered length, in order of offset.
pub segment_in_order : (replicas : ℕ) (values : List Value) (shard segment : ℕ)
    → filter (is_in shard segment) (spell replicas values) ≡ places_from shard segment 0 (covered_of (chain_of replicas values) shard segment)
segment_in_order replicas values shard segment = spell_from-kept replicas no_values values shard segment (no_values-IsChain replicas)

one_below-zero : (offset : ℕ) → one_below offset 0 ≡ 0
one_below-zero offset = ap (λ (b : Bool). cond b 1 0) (le-ltb offset 0 (omega arith))

one_below-most : (offset length : ℕ) → one_below offset length ≤ 1
one_below-most offset length = cond_both (ltb offset length) 1 0 (λ (n : ℕ). n ≤ 1) (λ _. omega arith) (λ _. omega arith)

pub below_from_one : (offset length : ℕ) → 1 ≤ one_below offset length → offset < length
below_from_one offset length =
    cond_both (ltb offset length) 1 0 (λ (n : ℕ). 1 ≤ n → offset < length) (λ below _. ltb-true offset length below) (λ _ none. absurd (omega arith))

pub one_from_below : (offset length : ℕ) → offset < length → one_below offset length ≡ 1
one_from_below offset length below = ap (λ (b : Bool). cond b 1 0) (lt-ltb offset length below)

-- A place is spelled once where its offset is below the covered length of its segment, and otherwise never.
pub spell-times : (replicas : ℕ) (values : List Value) (shard segment offset : ℕ)
    → times (spell replicas values) (place_at shard segment offset) ≡ one_below offset (covered_of (chain_of replicas values) shard segment)
spell-times replicas values shard segment offset =
    let length = covered_of (chain_of replicas values) shard segment in
    let place = place_at shard segment offset in
    let inside = times-in_segment (spell replicas values) shard segment offset in
    let run = ap (λ (places : List Place). times places place) (segment_in_order replicas values shard segment) in
    let all = times-run shard segment 0 length offset in
    let whole : one_below offset (0 + length) ≡ one_below offset length = ap (one_below offset) (zero-add length) in
    let none = one_below-zero offset in
    omega (arith, inside, run, all, whole, none)

pub spell-once : (replicas : ℕ) (values : List Value) (place : Place) → times (spell replicas values) place ≤ 1
spell-once replicas values place =
    let count = spell-times replicas values place.shard.0 place.segment.0 place.offset in
    omega (arith, count, one_below-most place.offset (covered_of (chain_of replicas values) place.shard.0 place.segment.0))

-- No place is spelled twice.
pub one_position : (replicas : ℕ) (values : List Value) (place : Place) (i j : ℕ)
    → slice_get (spell replicas values) i ≡ Some place → slice_get (spell replicas values) j ≡ Some place → i ≡ j
one_position replicas values place i j at_i at_j =
    one_index (spell replicas values) i j place (spell-once replicas values place) at_i at_j

-- A place is spelled exactly where its offset is below the covered length of its segment.
pub spelled_where_covered : (replicas : ℕ) (values : List Value) (shard segment offset : ℕ)
    → Contains (spell replicas values) (place_at shard segment offset) ↔ (offset < covered_of (chain_of replicas values) shard segment)
spelled_where_covered replicas values shard segment offset =
    let count = spell-times replicas values shard segment offset in
    let length = covered_of (chain_of replicas values) shard segment in
    let place = place_at shard segment offset in (
      λ found. below_from_one offset length (omega (arith, count, listed_where_contained (spell replicas values) place found)),
      λ below. contained_where_listed (spell replicas values) place (omega (arith, count, one_from_below offset length below)),
    )

-- The position of a place is the index at which it is spelled.
pub position_is_index : (replicas : ℕ) (values : List Value) (place : Place) (position : ℕ)
    → (position_of_place replicas values place ≡ Some position) ↔ (place_at_position replicas values position ≡ Some place)
position_is_index replicas values place position = (
  λ found.
      let at = index_from_position 0 (spell replicas values) place position found in
      let same : at.0 ≡ position = omega (arith, at.1) in
      rw same at at.2,
  λ stands.
      let zero : 0 + position ≡ position = omega arith in
      position_from_index 0 (spell replicas values) place position (spell-once replicas values place) stands ∙ ap Some zero,
)

pub no_position : (replicas : ℕ) (values : List Value) (place : Place)
    → (position_of_place replicas values place ≡ None) ↔ (¬ Contains (spell replicas values) place)
no_position replicas values place = (
  λ none found.
      omega (arith, times-position_none 0 (spell replicas values) place none, listed_where_contained (spell replicas values) place found),
  λ absent.
      ⊎_elim
      (λ never. position_from_none 0 (spell replicas values) place (omega (arith, never)))
      (λ listed. absurd (absent (contained_where_listed (spell replicas values) place listed)))
      (cases_lt (times (spell replicas values) place) 1),
)

-- Covered lengths only grow.
pub covered_of-apply_all : (replicas : ℕ) (chain : ChainState) (values : List Value) (shard segment : ℕ) → IsChain replicas chain
    → covered_of chain shard segment ≤ covered_of (apply_all replicas chain values) shard segment
covered_of-apply_all replicas chain values shard segment is =
    let before = covered_of chain shard segment in
    let after = covered_of (apply_all replicas chain values) shard segment in
    let more = in_segment shard segment (spell_from replicas chain values) in
    let all = ap length (spell_from-kept replicas chain values shard segment is) in
    omega (
      arith,
      all,
      length-append (places_from shard segment 0 before) more,
      length-places_from shard segment 0 before,
      length-places_from shard segment 0 after,
    )

-- A place keeps its position when more values follow.
pub position_stays : (replicas : ℕ) (values more : List Value) (place : Place) (position : ℕ)
    → place_at_position replicas values position ≡ Some place → place_at_position replicas (values ++ more) position ≡ Some place
position_stays replicas values more place position stands =
    ap (λ (places : List Place). slice_get places position) (spell-append replicas values more)
    ∙ slice_get_kept (spell replicas values) (spell_from replicas (chain_of replicas values) more) position place stands
