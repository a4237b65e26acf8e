-- What a put leaves of the lists of a replica.
use Rattle.std.proofs.Common.{◌≡◌, ℕ, zero, suc, ◌+◌, ◌<◌, ◌≤◌, true, false, List, [], ◌∷◌, ◌++◌, length, set, Option, Some, None, refl, sym, ap, ◌∙◌, subst, arith, length-append, inl, inr}
use Rattle.std.specs.Prelude.{option_to_list}
use Rattle.std.specs.List.{AllByRecursion}
use Rattle.std.proofs.lemmas.List.{map-set, length-set}
use Rattle.std.proofs.Math.Seq.{map-set_same}
use Rattle.log_model.specs.Storage.{HoldsCovered, list_in, with_entry}
use Rattle.log_model.specs.Chain.{covered_of}
use Rattle.node_model.specs.StorageNode.{Put}
use Rattle.record_frame.specs.declared.entries.Entry.{Entry}
use Rattle.shard_replica.specs.Lists.{Segment, after_put, no_segment, segment_at}
use Rattle.shard_replica.specs.Replica.{ReplicaState, lists_of, member_of, with_put}
use Rattle.shard_replica.proofs.Held.{list-of}
use Rattle.storage_node.specs.declared.node.Mode.TheVariants.{Down, Running}
use Rattle.storage_node.specs.StorageState.{HasNoFlight, HasOneFlight, IsAtRest, IsFew, IsSound, flight_from, flight_in, put_in_flight}
use Rattle.storage_node.proofs.Elements.{all-at, all-set}

-- a put of an entry
abbrev pub some_put : Entry → ℕ → Option Put
some_put entry segment = Some (record { segment = segment; entry = entry })

abbrev entries_of : Segment → List Entry
entries_of segment = segment.entries

-- the lists after a put that succeeded, and after one that failed
pub lists-stored : (state : ReplicaState) (segment : ℕ) (entry : Entry) → segment < length state.segments
    → lists_of (with_put state segment (Some entry) false) ≡ with_entry (lists_of state) segment entry
lists-stored state segment entry lt =
    map-set entries_of state.segments segment (after_put (segment_at state.segments segment) entry false)
    ∙ ap (λ (es : List Entry). set (lists_of state) segment (es ++ entry ∷ [])) (sym (list-of state.segments segment lt))

pub lists-kept : (state : ReplicaState) (segment : ℕ) (entry : Entry) → lists_of (with_put state segment (Some entry) true) ≡ lists_of state
lists-kept state segment entry = map-set_same entries_of state.segments segment (after_put (segment_at state.segments segment) entry true) no_segment refl

-- the entry of a put that failed is the one in flight
flies : (at : ℕ) (segments : List Segment) (k : ℕ) (segment : Segment) (entry : Entry) → AllByRecursion IsAtRest segments → k < length segments
    → flight_from at (set segments k (after_put segment entry true)) ≡ Some (record { segment = at + k; entry = entry })
flies at [] k segment entry rest lt = absurd (omega arith)
flies at (x ∷ xs) zero segment entry rest lt = let e : at ≡ at + zero = omega arith in ap (some_put entry) e
flies at (x ∷ xs) (suc k) segment entry rest lt =
    let e : suc at + k ≡ at + suc k = omega arith in
    ap (λ (o : Option Entry). put_in_flight at o (flight_from (suc at) (set xs k (after_put segment entry true)))) rest.0.0
    ∙ flies (suc at) xs k segment entry rest.1 (omega arith)
    ∙ ap (some_put entry) e

pub flight-put : (segments : List Segment) (k : ℕ) (entry : Entry) → AllByRecursion IsAtRest segments → k < length segments
    → flight_in (set segments k (after_put (segment_at segments k) entry true)) ≡ Some (record { segment = k; entry = entry })
flight-put segments k entry rest lt =
    let e : 0 + k ≡ k = omega arith in
    flies 0 segments k (segment_at segments k) entry rest lt ∙ ap (some_put entry) e

-- nothing is in flight while all lists are at rest
flies_not : (at : ℕ) (segments : List Segment) → AllByRecursion IsAtRest segments → flight_from at segments ≡ None
flies_not at [] rest = refl
flies_not at (x ∷ xs) rest = ap (λ (o : Option Entry). put_in_flight at o (flight_from (suc at) xs)) rest.0.0 ∙ flies_not (suc at) xs rest.1

pub flight-none : (segments : List Segment) → AllByRecursion IsAtRest segments → flight_in segments ≡ None
flight-none segments rest = flies_not 0 segments rest

pub none_flies : (segments : List Segment) → AllByRecursion IsAtRest segments → HasNoFlight segments
none_flies [] rest = tt
none_flies (x ∷ xs) rest = (rest.0.0, none_flies xs rest.1)

pub rest-one : (segments : List Segment) → AllByRecursion IsAtRest segments → HasOneFlight segments
rest-one [] rest = tt
rest-one (x ∷ xs) rest = inr (none_flies xs rest.1)

put-one : (segments : List Segment) (k : ℕ) (segment : Segment) → AllByRecursion IsAtRest segments → HasOneFlight (set segments k segment)
put-one [] k segment rest = tt
put-one (x ∷ xs) zero segment rest = inr (none_flies xs rest.1)
put-one (x ∷ xs) (suc k) segment rest = inl (rest.0.0, put-one xs k segment rest.1)

-- a list never gets shorter by an entry that is put
longer : (lists : List (List Entry)) (k j : ℕ) (entries : List Entry) → length (list_in lists k) ≤ length entries
    → length (list_in lists j) ≤ length (list_in (set lists k entries) j)
longer [] k j entries le = omega arith
longer (x ∷ xs) zero zero entries le = le
longer (x ∷ xs) zero (suc j) entries le = omega arith
longer (x ∷ xs) (suc k) zero entries le = omega arith
longer (x ∷ xs) (suc k) (suc j) entries le = longer xs k j entries le

covered-stored : (state : ReplicaState) (segment : ℕ) (entry : Entry) → segment < length state.segments
    → HoldsCovered (member_of state) (lists_of state) state.known
    → HoldsCovered (member_of state) (lists_of (with_put state segment (Some entry) false)) state.known
covered-stored state segment entry lt holds k within =
    let grown = longer (lists_of state) segment k (list_in (lists_of state) segment ++ entry ∷ []) (omega (arith, length-append (list_in (lists_of state) segment) (entry ∷ []))) in
    subst (λ (ls : List (List Entry)). covered_of state.known.chain state.shard k ≤ length (list_in ls k)) (sym (lists-stored state segment entry lt)) (omega (arith, holds k within, grown))

-- a running replica after a put that succeeded
pub sound-stored : (state : ReplicaState) (segment : ℕ) (entry : Entry) → segment < state.config.replicas → length (segment_at state.segments segment).entries < 16384
    → IsSound Running state → IsSound Running (with_put state segment (Some entry) false)
sound-stored state segment entry lt few sound =
    let within : segment < length state.segments = omega (arith, lt, sound.count) in
    let rest = all-at IsAtRest state.segments segment no_segment sound.rests within in
    let flight : length (option_to_list (segment_at state.segments segment).flight) ≡ 0 = ap (λ (o : Option Entry). length (option_to_list o)) rest.0 in
    record {
      count = length-set state.segments segment (after_put (segment_at state.segments segment) entry false) ∙ sound.count;
      few = all-set IsFew state.segments segment (after_put (segment_at state.segments segment) entry false) sound.few
          (omega (arith, few, flight, length-append (segment_at state.segments segment).entries (entry ∷ [])));
      rests = all-set IsAtRest state.segments segment (after_put (segment_at state.segments segment) entry false) sound.rests rest;
      covered = covered-stored state segment entry within sound.covered;
      known = sound.known;
    }

-- and after one that failed
pub sound-failed : (state : ReplicaState) (segment : ℕ) (entry : Entry) → length (segment_at state.segments segment).entries < 16384
    → IsSound Running state → IsSound Down (with_put state segment (Some entry) true)
sound-failed state segment entry few sound = record {
  count = length-set state.segments segment (after_put (segment_at state.segments segment) entry true) ∙ sound.count;
  few = all-set IsFew state.segments segment (after_put (segment_at state.segments segment) entry true) sound.few (omega (arith, few));
  rests = put-one state.segments segment (after_put (segment_at state.segments segment) entry true) sound.rests;
  covered = subst (λ (ls : List (List Entry)). HoldsCovered (member_of state) ls state.known) (sym (lists-kept state segment entry)) sound.covered;
  known = sound.known;
}

-- a list of a running replica is not halted
pub running-lists : (segments : List Segment) → AllByRecursion IsAtRest segments → (k : ℕ) → (segment_at segments k).halted ≡ false
running-lists [] rest k = refl
running-lists (x ∷ xs) rest zero = rest.0.1
running-lists (x ∷ xs) rest (suc k) = running-lists xs rest.1 k
