-- What is in flight to the journals of a node is what is in flight at the node.
use Rattle.std.proofs.Common.{◌≡◌, ◌≢◌, ℕ, zero, suc, ◌+◌, ◌<◌, ◌≤◌, ◌∙◌, Bool, true, false, cond, eqb, List, [], ◌∷◌, length, Option, Some, None, refl, sym, ap, subst, arith, inl, inr}
use Rattle.std.specs.Prelude.{◌⊎◌, nat_lt}
use Rattle.std.specs.List.{AllByRecursion}
use Rattle.std.specs.Option.{option_map}
use Rattle.std.proofs.lemmas.Bool.{cond-true, cond-false, eq-eqb, ne_eqb}
use Rattle.disk_base.specs.declared.disk.Plan.{Plan}
use Rattle.node_model.specs.Durable.{put_to, spelled}
use Rattle.node_model.specs.Marks.{flight_of}
use Rattle.node_model.specs.StorageNode.{Put}
use Rattle.paxos_model.specs.Payloads.{payload_in, payload_spelling}
use Rattle.paxos_model.specs.Votes.{Payload}
use Rattle.record_frame.specs.declared.entries.Entry.{Entry}
use Rattle.record_frame.specs.Entries.{entry_spelling}
use Rattle.segment_journal.specs.Journalled.{Journalled, Turns, planned, reload_by}
use Rattle.segment_journal.specs.declared.journal.Installed.{Installed}
use Rattle.segment_journal.specs.declared.journal.Installed.TheVariants.{Failed}
use Rattle.shard_replica.specs.Lists.{Segment, segment_at}
use Rattle.shard_replica.specs.Replica.{ReplicaState}
use Rattle.orderer_node.specs.Ordering.{RunsAs, mode_of as ordering_mode}
use Rattle.orderer_node.specs.declared.node.Standing.{Standing}
use Rattle.orderer_node.specs.declared.node.Standing.TheVariants.{Down as IsDown, Up as IsUp}
use Rattle.node_model.specs.OrdererNode.{Orderer}
use Rattle.storage_node.specs.declared.node.Mode.{Mode}
use Rattle.storage_node.specs.declared.node.Mode.TheVariants.{Down, Running}
use Rattle.storage_node.specs.StorageState.{HasNoFlight, HasOneFlight, IsAtRest, RestsIn, flight_from, mode_of, put_in_flight}

-- the entry in flight to a list, spelled
abbrev pub flight_at : List Segment → ℕ → Option (List ℕ)
flight_at segments k = option_map entry_spelling (segment_at segments k).flight

abbrev put_as : ℕ → Entry → Put
put_as segment entry = record { segment = segment; entry = entry }

-- a put to another segment, and to the same one
put_elsewhere : (segment at : ℕ) (entry : Entry) → at ≢ segment → put_to segment (Some (put_as at entry)) ≡ None
put_elsewhere segment at entry other = cond-false (eqb at segment) (Some (entry_spelling entry)) None (ne_eqb at segment other)

put_here : (segment at : ℕ) (entry : Entry) → at ≡ segment → put_to segment (Some (put_as at entry)) ≡ Some (entry_spelling entry)
put_here segment at entry same = cond-true (eqb at segment) (Some (entry_spelling entry)) None (eq-eqb at segment same)

-- nothing is in flight to a segment below the first
put_below : (at segment : ℕ) (segments : List Segment) → segment < at → put_to segment (flight_from at segments) ≡ None
put_below at segment [] lt = refl
put_below at segment (s ∷ segments) lt = next s.flight (put_below (suc at) segment segments (omega arith))
  where
    next : (flight : Option Entry) → put_to segment (flight_from (suc at) segments) ≡ None → put_to segment (put_in_flight at flight (flight_from (suc at) segments)) ≡ None
    next None later = later
    next (Some entry) later = put_elsewhere segment at entry (λ e. omega (arith, e, lt))

-- where nothing is in flight
none_at : (segments : List Segment) (k : ℕ) → HasNoFlight segments → flight_at segments k ≡ None
none_at [] k none = refl
none_at (s ∷ segments) zero none = ap (option_map entry_spelling) none.0
none_at (s ∷ segments) (suc k) none = none_at segments k none.1

none_from : (at : ℕ) (segments : List Segment) → HasNoFlight segments → flight_from at segments ≡ None
none_from at [] none = refl
none_from at (s ∷ segments) none = ap (λ (o : Option Entry). put_in_flight at o (flight_from (suc at) segments)) none.0 ∙ none_from (suc at) segments none.1

-- where at most one list has an entry in flight
one_at : (at segment : ℕ) (segments : List Segment) (k : ℕ) → HasOneFlight segments → at + k ≡ segment → flight_at segments k ≡ put_to segment (flight_from at segments)
one_at at segment [] k one place = refl
one_at at segment (s ∷ segments) zero one place = next s.flight
  where
    next : (flight : Option Entry) → option_map entry_spelling flight ≡ put_to segment (put_in_flight at flight (flight_from (suc at) segments))
    next None = sym (put_below (suc at) segment segments (omega (arith, place)))
    next (Some entry) = sym (put_here segment at entry (omega (arith, place)))
one_at at segment (s ∷ segments) (suc k) (inl quiet) place =
    one_at (suc at) segment segments k quiet.1 (omega (arith, place))
    ∙ ap (λ (o : Option Entry). put_to segment (put_in_flight at o (flight_from (suc at) segments))) (sym quiet.0)
one_at at segment (s ∷ segments) (suc k) (inr none) place = none_at segments k none ∙ sym (next s.flight)
  where
    next : (flight : Option Entry) → put_to segment (put_in_flight at flight (flight_from (suc at) segments)) ≡ None
    next None = ap (put_to segment) (none_from (suc at) segments none)
    next (Some entry) = put_elsewhere segment at entry (λ e. omega (arith, e, place))

rests_none : (segments : List Segment) → AllByRecursion IsAtRest segments → HasNoFlight segments
rests_none [] rest = tt
rests_none (s ∷ segments) rest = (rest.0.0, rests_none segments rest.1)

pub replica_flight : (mode : Mode) (state : ReplicaState) (ticks k : ℕ) → RestsIn mode state.segments
    → flight_at state.segments k ≡ put_to k (flight_of (mode_of mode state ticks))
replica_flight Down state ticks k rests = one_at 0 k state.segments k rests (omega arith)
replica_flight Running state ticks k rests = none_at state.segments k (rests_none state.segments rests)

-- ---- plans

-- a plan asks only whether something is in flight
reload_same : (one other : List ℕ) (keeps : Bool) → reload_by (Some one) keeps ≡ reload_by (Some other) keeps
reload_same one other true = refl
reload_same one other false = refl

planned_same : (one other : List ℕ) (plan : Plan) (turns : Option Turns) → planned (Some one) plan turns ≡ planned (Some other) plan turns
planned_same one other plan None = refl
planned_same one other plan (Some turn) =
    ap (λ (i : Installed). Some (record { put_fails = eqb plan.after 0; reload = cond plan.lose Failed i })) (reload_same one other (nat_lt 0 plan.keep))

pub orderer_planned : (journal : Journalled) (standing : Standing) (orderer : Orderer) (plan : Plan) (turns : Option Turns) → RunsAs standing journal
    → planned journal.flight plan turns ≡ planned (spelled (flight_of (ordering_mode journal standing orderer))) plan turns
orderer_planned journal IsUp orderer plan turns runs = ap (λ (o : Option (List ℕ)). planned o plan turns) runs.1
orderer_planned journal IsDown orderer plan turns runs = next journal.flight
  where
    next : (flight : Option (List ℕ)) → planned flight plan turns ≡ planned (spelled (option_map payload_in flight)) plan turns
    next None = refl
    next (Some bytes) = planned_same bytes (payload_spelling (payload_in bytes)) plan turns
