-- The test of kept payloads is passed exactly by those that do not break soundness.
use Rattle.std.proofs.Common.{◌≡◌, ◌⊎◌, inl, inr, ℕ, zero, suc, ◌+◌, ◌*◌, ◌/◌, ◌%◌, ◌^◌, ◌<◌, Bool, true, false, cond, ◌==◌, List, [], ◌∷◌, length, take, slice_get, Option, Some, None, refl, sym, ap, subst, arith, ltb-true, leb-true, lt-ltb, le-leb, eqb-true, eq-eqb}
use Rattle.std.proofs.lemmas.Bool.{and_parts}
use Rattle.std.proofs.lemmas.Bool.Decides.{nat_tests}
use Rattle.std.proofs.lemmas.Option.{slice_get_within}
use Rattle.history_frame.specs.declared.events.Kept.{Kept}
use Rattle.log_base.specs.ClusterShape.{Shape}
use Rattle.log_model.specs.Storage.{IsSpelled as IsEntrySpelled, entry_in, list_limit}
use Rattle.node_table.specs.declared.role.Role.{Role}
use Rattle.node_table.specs.declared.role.Role.TheVariants.{Storage, Gatherer, Orderer}
use Rattle.node_table.specs.Numbering.{nodes_of, role_at}
use Rattle.paxos_model.specs.Payloads.{IsPayload, IsSpelled, payload_in, payload_spelling}
use Rattle.paxos_model.specs.Values.{same_numbers}
use Rattle.paxos_model.specs.Votes.{Payload, Promise, Voted}
use Rattle.paxos_model.proofs.Same.{same_numbers-refl, same_numbers-true}
use Rattle.record_frame.specs.declared.values.Value.{Value}
use Rattle.record_frame.specs.declared.values.Value.TheVariants.{Noop, Cut, Add, Finalise, Trim}
use Rattle.record_frame.specs.Entries.{entry_spelling}
use Rattle.node_model.specs.Breaking.{all_below, break_from, first_break, is_entry_spelled, is_kept_cut, is_kept_value, is_kept_vote, is_payload, is_promise_spelled, is_there, may_come, may_keep, may_keep_as, may_keep_entry, may_keep_promise}
use Rattle.node_model.specs.NodeState.{KeptLists}
use Rattle.node_model.specs.Sound.{BreaksFirst, IsBefore, IsKeptCut, IsKeptValue, IsKeptVote, IsSound, IsSoundAs, IsSoundAt, IsSoundEntry, IsSoundPromise, orderer_limit, payloads_on, segment_disk}
use Rattle.node_model.proofs.Ranges.{ballot_is, ballot_passes, both, entry_is, entry_passes, value_is, value_passes}
use Rattle.node_model.proofs.Sounding.{sound_all, sound_each}

-- two lists of numbers that are one are the same
same_passes : (xs ys : List ℕ) → xs ≡ ys → same_numbers xs ys ≡ true
same_passes xs ys e = subst (λ zs. same_numbers xs zs ≡ true) e (same_numbers-refl xs)

entry_spelled_is : (payload : List ℕ) → is_entry_spelled payload ≡ true → IsEntrySpelled payload
entry_spelled_is payload t =
    let parts = and_parts _ _ t in
    record { entry = entry_is (entry_in payload) parts.0; spelling = same_numbers-true payload (entry_spelling (entry_in payload)) parts.1 }

entry_spelled_passes : (payload : List ℕ) → IsEntrySpelled payload → is_entry_spelled payload ≡ true
entry_spelled_passes payload h = both (entry_passes (entry_in payload) h.entry) (same_passes payload (entry_spelling (entry_in payload)) h.spelling)

payload_is : (payload : Payload) → is_payload payload ≡ true → IsPayload payload
payload_is (Promise ballot) t = ballot_is ballot t
payload_is (Voted vote) t =
    let parts = and_parts _ _ t in
    let rest = and_parts _ _ parts.1 in
    (ballot_is vote.ballot.0 parts.0, leb-true vote.slot.0 16383 rest.0, value_is vote.value rest.1)

payload_passes : (payload : Payload) → IsPayload payload → is_payload payload ≡ true
payload_passes (Promise ballot) h = ballot_passes ballot h
payload_passes (Voted vote) h = both (ballot_passes vote.ballot.0 h.0) (both (le-leb vote.slot.0 16383 h.1) (value_passes vote.value h.2))

promise_spelled_is : (payload : List ℕ) → is_promise_spelled payload ≡ true → IsSpelled payload
promise_spelled_is payload t =
    let parts = and_parts _ _ t in
    record { payload = payload_is (payload_in payload) parts.0; spelling = same_numbers-true payload (payload_spelling (payload_in payload)) parts.1 }

promise_spelled_passes : (payload : List ℕ) → IsSpelled payload → is_promise_spelled payload ≡ true
promise_spelled_passes payload h = both (payload_passes (payload_in payload) h.payload) (same_passes payload (payload_spelling (payload_in payload)) h.spelling)

there_is : (found : Option (List ℕ)) (payload : List ℕ) → is_there found payload ≡ true → found ≡ Some payload
there_is None payload t = absurd (cc)
there_is (Some found) payload t = ap (λ (p : List ℕ). Some p) (same_numbers-true found payload t)

there_passes : (found : Option (List ℕ)) (payload : List ℕ) → found ≡ Some payload → is_there found payload ≡ true
there_passes None payload e = absurd (cc)
there_passes (Some found) payload e = same_passes found payload cc

-- a bounded test
below_is : (n : ℕ) (test : ℕ → Bool) → all_below n test ≡ true → (k : ℕ) → k < n → test k ≡ true
below_is zero test t k below = absurd (omega arith)
below_is (suc n) test t k below = at (k == n) refl (λ less. below_is n test (and_parts _ _ t).1 k less)
  where
    at : (b : Bool) → (k == n) ≡ b → (k < n → test k ≡ true) → test k ≡ true
    at true e rest = subst (λ m. test m ≡ true) (sym (eqb-true k n e)) (and_parts _ _ t).0
    at false e rest = rest (grind (arith, nat_tests))

below_passes : (n : ℕ) (test : ℕ → Bool) → ((k : ℕ) → k < n → test k ≡ true) → all_below n test ≡ true
below_passes zero test h = refl
below_passes (suc n) test h = both (h n (omega arith)) (below_passes n test (λ k below. h k (omega arith)))

module _ (config : Shape) (kept : KeptLists) where
  cut_is : (lengths : List ℕ) → is_kept_cut config kept lengths ≡ true → IsKeptCut config kept lengths
  cut_is lengths t shard replica segment s r j =
      leb-true _ _ (below_is config.replicas _ (below_is config.replicas _ (below_is config.shards _ t shard s) replica r) segment j)

  cut_passes : (lengths : List ℕ) → IsKeptCut config kept lengths → is_kept_cut config kept lengths ≡ true
  cut_passes lengths h =
      below_passes config.shards _ (λ shard s. below_passes config.replicas _ (λ replica r. below_passes config.replicas _ (λ segment j. le-leb _ _ (h shard replica segment s r j))))

  value_kept : (value : Value) → is_kept_value config kept value ≡ true → IsKeptValue config kept value
  value_kept Noop t = tt
  value_kept (Cut lengths) t = let parts = and_parts _ _ t in (eqb-true lengths.count (config.replicas * config.shards) parts.0, cut_is lengths.length parts.1)
  value_kept (Add shard) t = ltb-true shard.0 config.shards t
  value_kept (Finalise shard) t = ltb-true shard.0 config.shards t
  value_kept (Trim position) t = tt

  value_keeps : (value : Value) → IsKeptValue config kept value → is_kept_value config kept value ≡ true
  value_keeps Noop h = refl
  value_keeps (Cut lengths) h = both (eq-eqb lengths.count (config.replicas * config.shards) h.0) (cut_passes lengths.length h.1)
  value_keeps (Add shard) h = lt-ltb shard.0 config.shards h
  value_keeps (Finalise shard) h = lt-ltb shard.0 config.shards h
  value_keeps (Trim position) h = refl

  vote_kept : (payload : Payload) → is_kept_vote config kept payload ≡ true → IsKeptVote config kept payload
  vote_kept (Promise ballot) t = tt
  vote_kept (Voted vote) t = value_kept vote.value t

  vote_keeps : (payload : Payload) → IsKeptVote config kept payload → is_kept_vote config kept payload ≡ true
  vote_keeps (Promise ballot) h = refl
  vote_keeps (Voted vote) h = value_keeps vote.value h

module _ (config : Shape) (run : ℕ) (kept : KeptLists) where
  entry_kept : (shard segment offset : ℕ) (payload : List ℕ) → may_keep_entry config run kept shard segment offset payload ≡ true
      → IsSoundEntry config (IsBefore run) kept shard segment offset payload
  entry_kept shard segment offset payload t =
      let spelled = and_parts _ _ t in
      let number = and_parts _ _ spelled.1 in
      let few = and_parts _ _ number.1 in
      record {
        spelled = entry_spelled_is payload spelled.0;
        number = ltb-true (entry_in payload).number.0 (run * 2 ^ 32) number.0;
        few = ltb-true offset list_limit few.0;
        primary = there_is (slice_get (kept (segment_disk config shard segment segment)) offset) payload few.1;
      }

  entry_keeps : (shard segment offset : ℕ) (payload : List ℕ) → IsSoundEntry config (IsBefore run) kept shard segment offset payload
      → may_keep_entry config run kept shard segment offset payload ≡ true
  entry_keeps shard segment offset payload h =
      both (entry_spelled_passes payload h.spelled)
      (both (lt-ltb (entry_in payload).number.0 (run * 2 ^ 32) h.number)
      (both (lt-ltb offset list_limit h.few) (there_passes (slice_get (kept (segment_disk config shard segment segment)) offset) payload h.primary)))

  promise_kept : (offset : ℕ) (payload : List ℕ) → may_keep_promise config kept offset payload ≡ true → IsSoundPromise config kept offset payload
  promise_kept offset payload t =
      let spelled = and_parts _ _ t in
      let few = and_parts _ _ spelled.1 in
      record {
        spelled = promise_spelled_is payload spelled.0;
        few = ltb-true offset orderer_limit few.0;
        value = vote_kept config kept (payload_in payload) few.1;
      }

  promise_keeps : (offset : ℕ) (payload : List ℕ) → IsSoundPromise config kept offset payload → may_keep_promise config kept offset payload ≡ true
  promise_keeps offset payload h =
      both (promise_spelled_passes payload h.spelled) (both (lt-ltb offset orderer_limit h.few) (vote_keeps config kept (payload_in payload) h.value))

  kept_as : (role : Role) (segment offset : ℕ) (payload : List ℕ) → may_keep_as config run kept role segment offset payload ≡ true
      → IsSoundAs config (IsBefore run) kept role segment offset payload
  kept_as (Storage shard replica) segment offset payload t =
      let parts = and_parts _ _ t in (ltb-true segment config.replicas parts.0, entry_kept shard.0 segment offset payload parts.1)
  kept_as (Gatherer index) segment offset payload t = absurd (cc)
  kept_as (Orderer index) segment offset payload t = let parts = and_parts _ _ t in (eqb-true segment 0 parts.0, promise_kept offset payload parts.1)

  keeps_as : (role : Role) (segment offset : ℕ) (payload : List ℕ) → IsSoundAs config (IsBefore run) kept role segment offset payload
      → may_keep_as config run kept role segment offset payload ≡ true
  keeps_as (Storage shard replica) segment offset payload h = both (lt-ltb segment config.replicas h.0) (entry_keeps shard.0 segment offset payload h.1)
  keeps_as (Gatherer index) segment offset payload h = absurd h
  keeps_as (Orderer index) segment offset payload h = both (eq-eqb segment 0 h.0) (promise_keeps offset payload h.1)

  -- the test of a payload
  pub kept_is : (disk offset : ℕ) (payload : List ℕ) → may_keep config run kept disk offset payload ≡ true → IsSoundAt config (IsBefore run) kept disk offset payload
  kept_is disk offset payload t =
      let parts = and_parts _ _ t in
      (ltb-true (disk / 8) (nodes_of config) parts.0, kept_as (role_at config (disk / 8)) (disk % 8) offset payload parts.1)

  pub kept_passes : (disk offset : ℕ) (payload : List ℕ) → IsSoundAt config (IsBefore run) kept disk offset payload → may_keep config run kept disk offset payload ≡ true
  kept_passes disk offset payload h = both (lt-ltb (disk / 8) (nodes_of config) h.0) (keeps_as (role_at config (disk / 8)) (disk % 8) offset payload h.1)

-- where the first break is, behind so many payloads
pub record FirstAt (config : Shape) (run : ℕ) (kept : List Kept) (index : ℕ) (rest : List Kept) (place : ℕ) : Type 0 where
  pub behind : ℕ
  pub place_is : place ≡ index + behind
  pub one : Kept
  pub there : slice_get rest behind ≡ Some one
  pub breaks : may_come config run kept (index + behind) one ≡ false
  pub before : (k : ℕ) (other : Kept) → k < behind → slice_get rest k ≡ Some other → may_come config run kept (index + k) other ≡ true

module _ (config : Shape) (run : ℕ) (kept : List Kept) where
  none_breaks : (index : ℕ) (rest : List Kept) → break_from config run kept index rest ≡ None
      → (k : ℕ) (one : Kept) → slice_get rest k ≡ Some one → may_come config run kept (index + k) one ≡ true
  none_breaks index [] e k one there = absurd (cc)
  none_breaks index (first ∷ rest) e k one there = at (may_come config run kept index first) refl e k one there (λ f j other o. none_breaks (suc index) rest f j other o)
    where
      at : (t : Bool) → may_come config run kept index first ≡ t → cond t (break_from config run kept (suc index) rest) (Some index) ≡ None
          → (k : ℕ) (one : Kept) → slice_get (first ∷ rest) k ≡ Some one
          → (break_from config run kept (suc index) rest ≡ None → (j : ℕ) (other : Kept) → slice_get rest j ≡ Some other → may_come config run kept (suc index + j) other ≡ true)
          → may_come config run kept (index + k) one ≡ true
      at true is f zero one there later =
          let same : first ≡ one = cc in
          subst (λ (x : ℕ × Kept). may_come config run kept x.0 x.1 ≡ true) (λ j. ((let z : index ≡ index + 0 = omega arith in z) j, same j)) is
      at true is f (suc k) one there later = subst (λ n. may_come config run kept n one ≡ true) (let z : suc index + k ≡ index + suc k = omega arith in z) (later f k one there)
      at false is f k one there later = absurd (cc)

  some_breaks : (index : ℕ) (rest : List Kept) (place : ℕ) → break_from config run kept index rest ≡ Some place → FirstAt config run kept index rest place
  some_breaks index [] place e = absurd (cc)
  some_breaks index (first ∷ rest) place e = at (may_come config run kept index first) refl e (λ f. some_breaks (suc index) rest place f)
    where
      here : index ≡ place → may_come config run kept index first ≡ false → FirstAt config run kept index (first ∷ rest) place
      here same is = record {
        behind = 0;
        place_is = omega (arith, same);
        one = first;
        there = refl;
        breaks = subst (λ n. may_come config run kept n first ≡ false) (let z : index ≡ index + 0 = omega arith in z) is;
        before = λ k other below there. absurd (omega arith);
      }

      earlier : (found : FirstAt config run kept (suc index) rest place) → may_come config run kept index first ≡ true
          → (k : ℕ) (other : Kept) → k < suc found.behind → slice_get (first ∷ rest) k ≡ Some other → may_come config run kept (index + k) other ≡ true
      earlier found is zero other below there =
          let same : first ≡ other = cc in
          subst (λ (x : ℕ × Kept). may_come config run kept x.0 x.1 ≡ true) (λ j. ((let z : index ≡ index + 0 = omega arith in z) j, same j)) is
      earlier found is (suc k) other below there =
          subst (λ n. may_come config run kept n other ≡ true) (let z : suc index + k ≡ index + suc k = omega arith in z) (found.before k other (omega arith) there)

      further : FirstAt config run kept (suc index) rest place → may_come config run kept index first ≡ true → FirstAt config run kept index (first ∷ rest) place
      further found is = record {
        behind = suc found.behind;
        place_is = omega (arith, found.place_is);
        one = found.one;
        there = found.there;
        breaks = subst (λ n. may_come config run kept n found.one ≡ false) (let z : suc index + found.behind ≡ index + suc found.behind = omega arith in z) found.breaks;
        before = earlier found is;
      }

      at : (t : Bool) → may_come config run kept index first ≡ t → cond t (break_from config run kept (suc index) rest) (Some index) ≡ Some place
          → (break_from config run kept (suc index) rest ≡ Some place → FirstAt config run kept (suc index) rest place) → FirstAt config run kept index (first ∷ rest) place
      at true is f later = further (later f) is
      at false is f later = here (cc) is

  -- what may come at an index is sound there
  one_sound : (index : ℕ) (one : Kept) → may_come config run kept index one ≡ true → IsSoundAt config (IsBefore run) (payloads_on kept) one.disk (length (payloads_on (take index kept) one.disk)) one.payload
  one_sound index one t = kept_is config run (payloads_on kept) one.disk (length (payloads_on (take index kept) one.disk)) one.payload t

  pub no_break_is_sound : first_break config run kept ≡ None → IsSound config run (payloads_on kept)
  unfolding first_break
  no_break_is_sound e = sound_all config run kept (λ index one there. one_sound index one (subst (λ n. may_come config run kept n one ≡ true) (let z : 0 + index ≡ index = omega arith in z) (none_breaks 0 kept e index one there)))

  pub break_is_first : (index : ℕ) → first_break config run kept ≡ Some index → BreaksFirst config run kept index
  unfolding first_break
  break_is_first index e =
      let found = some_breaks 0 kept index e in
      let at : 0 + found.behind ≡ index = omega (arith, found.place_is) in
      let is : found.behind ≡ index = omega (arith, found.place_is) in
      let there : slice_get kept index ≡ Some found.one = subst (λ n. slice_get kept n ≡ Some found.one) is found.there in
      let bad : may_come config run kept index found.one ≡ false = subst (λ n. may_come config run kept n found.one ≡ false) at found.breaks in
      record {
        within = slice_get_within kept index found.one there;
        breaks = λ sound. absurd (
            let good : may_come config run kept index found.one ≡ true =
            kept_passes config run (payloads_on kept) found.one.disk (length (payloads_on (take index kept) found.one.disk)) found.one.payload (sound found.one there) in
            cc);
        before = λ earlier below one o. one_sound earlier one
            (subst (λ n. may_come config run kept n one ≡ true) (let z : 0 + earlier ≡ earlier = omega arith in z) (found.before earlier one (omega (arith, is)) o));
      }

  pub sound_has_no_break : IsSound config run (payloads_on kept) → first_break config run kept ≡ None
  sound_has_no_break sound = at (first_break config run kept) refl
    where
      at : (o : Option ℕ) → first_break config run kept ≡ o → o ≡ None
      at None e = refl
      at (Some index) e = absurd ((break_is_first index e).breaks (sound_each config run kept sound index))

  pub first_is_break : (index : ℕ) → BreaksFirst config run kept index → first_break config run kept ≡ Some index
  first_is_break index first = at (first_break config run kept) refl
    where
      order : (other : ℕ) → BreaksFirst config run kept other → (index < other) ⊎ ((index ≡ other) ⊎ (other < index)) → Some other ≡ Some index
      order other found (inl less) = absurd (first.breaks (found.before index less))
      order other found (inr (inl same)) = ap (λ n. Some n) (sym same)
      order other found (inr (inr more)) = absurd (found.breaks (first.before other more))

      at : (o : Option ℕ) → first_break config run kept ≡ o → o ≡ Some index
      at None e = absurd (first.breaks (sound_each config run kept (no_break_is_sound e) index))
      at (Some other) e = order other (break_is_first other e) (grind arith)
