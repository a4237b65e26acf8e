-- Values that change nothing: an addition of a shard that is there, a finalisation of one that is not, or
-- a second one, a cut that covers nothing more, and a trim at or below the mark.
use Rattle.std.proofs.Common.{◌≡◌, ℕ, zero, suc, ◌+◌, ◌-◌, ◌*◌, ◌≤◌, max, min, true, false, eqb, List, [], ◌∷◌, ◌++◌, map, length, refl, sym, ap, ◌∙◌, ⊎_elim, arith, length-append}
use Rattle.std.specs.Prelude.{slice_index}
use Rattle.std.specs.List.{list_any}
use Rattle.std.proofs.lemmas.Bool.{cond-true, cond-false, or_parts, cases_Bool}
use Rattle.std.proofs.lemmas.List.{nil_from_length}
use Rattle.log_base.specs.declared.numbers.Place.{Place}
use Rattle.record_frame.specs.declared.values.Value.TheVariants.{Cut, Add, Finalise, Trim}
use Rattle.record_frame.specs.declared.values.Lengths.{Lengths}
use Rattle.log_model.specs.Places.{places_from}
use Rattle.log_model.specs.Chain.{ShardState, Standing, Live, Frozen, ChainState, is_of, is_added, raised, cut_shard, freeze, apply, covered_in_segments, covered_in_shard, covered_in_shards, covered_by}
use Rattle.log_model.proofs.Coverage.{cut_state}

pub add-no_effect : (replicas : ℕ) (chain : ChainState) (shard : ℕ) → is_added chain shard ≡ true
    → apply replicas chain (Add (record { 0 = shard })) ≡ chain
add-no_effect replicas chain shard added = cond-true (is_added chain shard) chain _ added

map-freeze : (states : List ShardState) (shard : ℕ) → list_any (is_of shard) states ≡ false → map (freeze shard) states ≡ states
map-freeze [] shard absent = refl
map-freeze (state ∷ states) shard absent =
    let parts = or_parts (eqb state.shard shard) (list_any (is_of shard) states) absent in
    ap (λ (s : ShardState). s ∷ map (freeze shard) states) (cond-false (eqb state.shard shard) _ state parts.0)
    ∙ ap (λ (rest : List ShardState). state ∷ rest) (map-freeze states shard parts.1)

pub finalise-no_effect : (replicas : ℕ) (chain : ChainState) (shard : ℕ) → is_added chain shard ≡ false
    → apply replicas chain (Finalise (record { 0 = shard })) ≡ chain
finalise-no_effect replicas chain shard absent =
    ap (λ (states : List ShardState). record chain { shards = states }) (map-freeze chain.shards shard absent)

freeze-freeze : (shard : ℕ) (state : ShardState) → freeze shard (freeze shard state) ≡ freeze shard state
freeze-freeze shard state =
    ⊎_elim
    (λ own.
    let frozen : ShardState = record state { standing = Frozen } in
    let once : freeze shard state ≡ frozen = cond-true (is_of shard state) frozen state own in
    ap (freeze shard) once ∙ cond-true (is_of shard frozen) frozen frozen own ∙ sym once)
    (λ other. ap (freeze shard) (cond-false (is_of shard state) (record state { standing = Frozen }) state other))
    (cases_Bool (is_of shard state))

map-freeze_twice : (states : List ShardState) (shard : ℕ) → map (freeze shard) (map (freeze shard) states) ≡ map (freeze shard) states
map-freeze_twice [] shard = refl
map-freeze_twice (state ∷ states) shard =
    ap (λ (s : ShardState). s ∷ map (freeze shard) (map (freeze shard) states)) (freeze-freeze shard state)
    ∙ ap (λ (rest : List ShardState). freeze shard state ∷ rest) (map-freeze_twice states shard)

-- A second finalisation of a shard changes nothing.
pub finalise-again : (replicas : ℕ) (chain : ChainState) (shard : ℕ)
    → apply replicas (apply replicas chain (Finalise (record { 0 = shard }))) (Finalise (record { 0 = shard }))
    ≡ apply replicas chain (Finalise (record { 0 = shard }))
finalise-again replicas chain shard =
    ap (λ (states : List ShardState). record chain { shards = states }) (map-freeze_twice chain.shards shard)

-- Of two lists that join to nothing, each is nothing.
left_nothing : (xs ys : List Place) → xs ++ ys ≡ [] → xs ≡ []
left_nothing xs ys none = nil_from_length xs (omega (arith, length-append xs ys, ap length none))

right_nothing : (xs ys : List Place) → xs ++ ys ≡ [] → ys ≡ []
right_nothing xs ys none = nil_from_length ys (omega (arith, length-append xs ys, ap length none))

no_run : (shard segment from count : ℕ) → places_from shard segment from count ≡ [] → count ≡ 0
no_run shard segment from zero none = refl
no_run shard segment from (suc count) none = absurd (cc)

-- A cut that covers nothing in the segments of a shard leaves each length.
raised-nothing : (shard segment : ℕ) (lengths : List ℕ) (at : ℕ) (covered : List ℕ) → covered_in_segments shard segment lengths at covered ≡ []
    → raised lengths at covered ≡ covered
raised-nothing shard segment lengths at [] none = refl
raised-nothing shard segment lengths at (first ∷ rest) none =
    let n = slice_index lengths at - first in
    let run = places_from shard segment first n in
    let later = covered_in_segments shard (suc segment) lengths (suc at) rest in
    let no_more = no_run shard segment first n (left_nothing run later none) in
    let stays : max first (slice_index lengths at) ≡ first = omega (arith, no_more) in
    ap (λ (k : ℕ). k ∷ raised lengths (suc at) rest) stays
    ∙ ap (λ (ks : List ℕ). first ∷ ks) (raised-nothing shard (suc segment) lengths (suc at) rest (right_nothing run later none))

cut_shard-nothing : (replicas : ℕ) (lengths : List ℕ) (standing : Standing) (state : ShardState)
    → covered_in_shard replicas lengths standing state ≡ [] → cut_shard replicas lengths standing state ≡ state
cut_shard-nothing replicas lengths Live state none =
    ap (λ (covered : List ℕ). record state { covered = covered })
    (raised-nothing state.shard 0 lengths (state.shard * replicas) state.covered none)
cut_shard-nothing replicas lengths Frozen state none = refl

map-cut : (replicas : ℕ) (lengths : List ℕ) (states : List ShardState) → covered_in_shards replicas lengths states ≡ []
    → map (cut_state replicas lengths) states ≡ states
map-cut replicas lengths [] none = refl
map-cut replicas lengths (state ∷ states) none =
    let here = covered_in_shard replicas lengths state.standing state in
    let later = covered_in_shards replicas lengths states in
    ap (λ (s : ShardState). s ∷ map (cut_state replicas lengths) states)
    (cut_shard-nothing replicas lengths state.standing state (left_nothing here later none))
    ∙ ap (λ (rest : List ShardState). state ∷ rest) (map-cut replicas lengths states (right_nothing here later none))

pub cut-no_effect : (replicas : ℕ) (chain : ChainState) (lengths : Lengths) → covered_by replicas chain (Cut lengths) ≡ []
    → apply replicas chain (Cut lengths) ≡ chain
cut-no_effect replicas chain lengths none =
    let ends : chain.end + length (covered_in_shards replicas lengths.length chain.shards) ≡ chain.end = omega (arith, ap length none) in
    ap (λ (states : List ShardState). record chain { shards = states; end = chain.end + length (covered_in_shards replicas lengths.length chain.shards) })
    (map-cut replicas lengths.length chain.shards none)
    ∙ ap (λ (n : ℕ). record chain { end = n }) ends

pub trim-no_effect : (replicas : ℕ) (chain : ChainState) (position : ℕ) → position ≤ chain.mark
    → apply replicas chain (Trim (record { 0 = position })) ≡ chain
trim-no_effect replicas chain position below =
    let stays : max chain.mark (min position chain.end) ≡ chain.mark = omega arith in
    ap (λ (n : ℕ). record chain { mark = n }) stays
