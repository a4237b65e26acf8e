-- What a cut newly covers of a segment: the places from its covered length up to the raised one, in order of offset.
use Rattle.std.proofs.Common.{◌≡◌, ◌≢◌, ℕ, zero, suc, ◌+◌, ◌-◌, ◌*◌, ◌<◌, max, false, eqb, List, [], ◌∷◌, ◌++◌, refl, ap, ◌∙◌, subst, ⊎_elim, arith}
use Rattle.std.specs.List.{list_any}
use Rattle.std.specs.Prelude.{slice_index}
use Rattle.std.specs.Option.{option_map}
use Rattle.std.proofs.lemmas.Bool.{cases_eq, or_parts, eqb-false}
use Rattle.std.proofs.lemmas.List.{append-nil}
use Rattle.log_base.specs.declared.numbers.Place.{Place}
use Rattle.log_model.specs.Places.{places_from}
use Rattle.log_model.specs.Chain.{ShardState, Standing, Live, Frozen, is_of, raised, covered_in_segments, covered_in_shard, covered_in_shards, cut_shard, state_in, covered_length, AreApart}
use Rattle.log_model.proofs.Runs.{in_segment, run_from_start, in_segment-run, in_segment-other_shard, in_segment-other_segment, in_segment-left, in_segment-right}
use Rattle.log_model.proofs.States.{state_in-here, state_in-later}

-- Nothing is covered in another shard.
segments-other_shard : (shard first : ℕ) (lengths : List ℕ) (at : ℕ) (covered : List ℕ) (other segment : ℕ) → shard ≢ other
    → in_segment other segment (covered_in_segments shard first lengths at covered) ≡ []
segments-other_shard shard first lengths at [] other segment apart = refl
segments-other_shard shard first lengths at (length ∷ rest) other segment apart =
    let n = slice_index lengths at - length in
    in_segment-right other segment (places_from shard first length n) (covered_in_segments shard (suc first) lengths (suc at) rest) []
    (in_segment-other_shard shard first length n other segment apart)
    (segments-other_shard shard (suc first) lengths (suc at) rest other segment apart)

-- From one segment on, nothing is covered in those before it.
segments-earlier : (shard first : ℕ) (lengths : List ℕ) (at : ℕ) (covered : List ℕ) (segment : ℕ) → segment < first
    → in_segment shard segment (covered_in_segments shard first lengths at covered) ≡ []
segments-earlier shard first lengths at [] segment before = refl
segments-earlier shard first lengths at (length ∷ rest) segment before =
    let n = slice_index lengths at - length in
    in_segment-right shard segment (places_from shard first length n) (covered_in_segments shard (suc first) lengths (suc at) rest) []
    (in_segment-other_segment shard first length n segment (λ e. omega arith))
    (segments-earlier shard (suc first) lengths (suc at) rest segment (omega arith))

-- The places below the covered length of a segment and those newly covered in it are those below the raised length.
segments-kept : (shard first : ℕ) (lengths : List ℕ) (at : ℕ) (covered : List ℕ) (segment k : ℕ) → segment ≡ first + k
    → places_from shard segment 0 (slice_index covered k) ++ in_segment shard segment (covered_in_segments shard first lengths at covered)
    ≡ places_from shard segment 0 (slice_index (raised lengths at covered) k)
segments-kept shard first lengths at [] segment k is = refl
segments-kept shard first lengths at (length ∷ rest) segment zero is =
    let n = slice_index lengths at - length in
    let later = covered_in_segments shard (suc first) lengths (suc at) rest in
    let is_first : segment ≡ first = omega arith in
    let top : length + n ≡ max length (slice_index lengths at) = omega arith in
    let own : in_segment shard segment (places_from shard first length n) ≡ places_from shard segment length n =
    rw is_first (in_segment-run shard first length n) in
    let kept = in_segment-left shard segment (places_from shard first length n) later (places_from shard segment length n) own
    (segments-earlier shard (suc first) lengths (suc at) rest segment (omega arith)) in
    ap (λ (places : List Place). places_from shard segment 0 length ++ places) kept
    ∙ run_from_start shard segment length n
    ∙ ap (places_from shard segment 0) top
segments-kept shard first lengths at (length ∷ rest) segment (suc k) is =
    let n = slice_index lengths at - length in
    let later = covered_in_segments shard (suc first) lengths (suc at) rest in
    let kept = in_segment-right shard segment (places_from shard first length n) later (in_segment shard segment later)
    (in_segment-other_segment shard first length n segment (λ e. omega arith)) refl in
    ap (λ (places : List Place). places_from shard segment 0 (slice_index rest k) ++ places) kept
    ∙ segments-kept shard (suc first) lengths (suc at) rest segment k (omega arith)

-- a shard's state after a cut
abbrev pub cut_state : ℕ → List ℕ → ShardState → ShardState
cut_state replicas lengths state = cut_shard replicas lengths state.standing state

-- A cut leaves a shard its number.
cut_shard-shard : (replicas : ℕ) (lengths : List ℕ) (standing : Standing) (state : ShardState)
    → (cut_shard replicas lengths standing state).shard ≡ state.shard
cut_shard-shard replicas lengths Live state = refl
cut_shard-shard replicas lengths Frozen state = refl

pub cut_state-shard : (replicas : ℕ) (lengths : List ℕ) (state : ShardState) → (cut_state replicas lengths state).shard ≡ state.shard
cut_state-shard replicas lengths state = cut_shard-shard replicas lengths state.standing state

shard-other : (replicas : ℕ) (lengths : List ℕ) (standing : Standing) (state : ShardState) (other segment : ℕ) → state.shard ≢ other
    → in_segment other segment (covered_in_shard replicas lengths standing state) ≡ []
shard-other replicas lengths Live state other segment apart =
    segments-other_shard state.shard 0 lengths (state.shard * replicas) state.covered other segment apart
shard-other replicas lengths Frozen state other segment apart = refl

shard-kept : (replicas : ℕ) (lengths : List ℕ) (standing : Standing) (state : ShardState) (segment : ℕ)
    → places_from state.shard segment 0 (slice_index state.covered segment) ++ in_segment state.shard segment (covered_in_shard replicas lengths standing state)
    ≡ places_from state.shard segment 0 (slice_index (cut_shard replicas lengths standing state).covered segment)
shard-kept replicas lengths Live state segment =
    segments-kept state.shard 0 lengths (state.shard * replicas) state.covered segment segment (omega arith)
shard-kept replicas lengths Frozen state segment = append-nil _

-- Nothing is covered in a shard that is not there.
shards-none : (replicas : ℕ) (lengths : List ℕ) (states : List ShardState) (shard segment : ℕ) → list_any (is_of shard) states ≡ false
    → in_segment shard segment (covered_in_shards replicas lengths states) ≡ []
shards-none replicas lengths [] shard segment absent = refl
shards-none replicas lengths (state ∷ states) shard segment absent =
    let parts = or_parts (eqb state.shard shard) (list_any (is_of shard) states) absent in
    in_segment-right shard segment (covered_in_shard replicas lengths state.standing state) (covered_in_shards replicas lengths states) []
    (shard-other replicas lengths state.standing state shard segment (eqb-false state.shard shard parts.0))
    (shards-none replicas lengths states shard segment parts.1)

-- The same for a shard that is found among several.
pub shards-kept : (replicas : ℕ) (lengths : List ℕ) (states : List ShardState) (shard segment : ℕ) → AreApart states
    → places_from shard segment 0 (covered_length (state_in states shard) segment) ++ in_segment shard segment (covered_in_shards replicas lengths states)
    ≡ places_from shard segment 0 (covered_length (option_map (cut_state replicas lengths) (state_in states shard)) segment)
shards-kept replicas lengths [] shard segment apart = refl
shards-kept replicas lengths (state ∷ states) shard segment apart =
    let here = covered_in_shard replicas lengths state.standing state in
    let later = covered_in_shards replicas lengths states in
    ⊎_elim
    (λ same.
    let own = subst (λ (n : ℕ). places_from n segment 0 (slice_index state.covered segment) ++ in_segment n segment here
    ≡ places_from n segment 0 (slice_index (cut_state replicas lengths state).covered segment)) same
    (shard-kept replicas lengths state.standing state segment) in
    let absent = subst (λ (n : ℕ). list_any (is_of n) states ≡ false) same apart.0 in
    let kept = in_segment-left shard segment here later (in_segment shard segment here) refl (shards-none replicas lengths states shard segment absent) in
    rw (state_in-here state states shard same)
    (ap (λ (places : List Place). places_from shard segment 0 (slice_index state.covered segment) ++ places) kept ∙ own))
    (λ other.
    let kept = in_segment-right shard segment here later (in_segment shard segment later)
    (shard-other replicas lengths state.standing state shard segment other) refl in
    rw (state_in-later state states shard other)
    (ap (λ (places : List Place). places_from shard segment 0 (covered_length (state_in states shard) segment) ++ places) kept
    ∙ shards-kept replicas lengths states shard segment apart.1))
    (cases_eq state.shard shard)
