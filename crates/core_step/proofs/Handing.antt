-- The journals of a node hold its durable lists, byte for byte.
use Rattle.std.proofs.Common.{◌≡◌, ℕ, zero, suc, ◌<◌, ◌≤◌, ◌∙◌, List, [], ◌∷◌, ◌++◌, length, map, Option, Some, None, refl, sym, ap, subst, arith}
use Rattle.std.specs.Prelude.{IfSome, option_to_list}
use Rattle.std.specs.List.{All, AllByRecursion}
use Rattle.std.specs.Option.{option_map}
use Rattle.std.proofs.lemmas.List.Elements.{All-head, All-tail}
use Rattle.log_base.specs.Wide.{IsBytes}
use Rattle.log_model.specs.Storage.{IsSpelled, entries_in, entry_in, list_in}
use Rattle.node_model.specs.Durable.{payload_in_flight, payloads_of, put_to, spelled}
use Rattle.node_model.specs.Marks.{flight_of}
use Rattle.node_model.specs.NodeState.{Ordering, Storing}
use Rattle.node_model.specs.OrdererNode.{Orderer}
use Rattle.paxos_acceptor.specs.Listed.{list_of}
use Rattle.paxos_model.specs.Payloads.{IsPayload, payload_found, payload_in, payload_of, payload_spelling}
use Rattle.paxos_model.specs.Votes.{Payload}
use Rattle.paxos_model.proofs.Payloads.{payload_read}
use Rattle.record_frame.specs.declared.entries.Entry.{Entry}
use Rattle.record_frame.specs.Entries.{entry_spelling}
use Rattle.segment_journal.specs.Journalled.{AllPayloads, IsPayload as IsKept, Journalled}
use Rattle.shard_replica.specs.Journals.{journal_at, states_of}
use Rattle.shard_replica.specs.Lists.{HoldsRecords, Segment, segment_of, segments_of}
use Rattle.orderer_node.specs.Ordering.{IsFlight, Ordering as OrdererState, RunsAs, mode_of as ordering_mode, node_of as orderer_state}
use Rattle.orderer_node.specs.declared.node.Standing.{Standing}
use Rattle.orderer_node.specs.declared.node.Standing.TheVariants.{Down as IsDown, Up as IsUp}
use Rattle.storage_node.specs.StorageState.{RestsIn, StorageState, node_of}
use Rattle.core_step.specs.Handed.{HoldsState}
use Rattle.core_step.proofs.Flights.{flight_at, replica_flight}

-- ---- a replica

all_spelled : (payloads : List (List ℕ)) → All IsSpelled payloads → payloads ≡ map entry_spelling (entries_in payloads)
all_spelled [] all = refl
all_spelled (payload ∷ payloads) all =
    ap (λ (p : List ℕ). p ∷ payloads) (All-head IsSpelled payload payloads all).spelling
    ∙ ap (λ (ps : List (List ℕ)). entry_spelling (entry_in payload) ∷ ps) (all_spelled payloads (All-tail IsSpelled payload payloads all))

last_spelled : (payloads : List (List ℕ)) (payload : List ℕ) → All IsSpelled (payloads ++ payload ∷ []) → IsSpelled payload
last_spelled [] payload all = All-head IsSpelled payload [] all
last_spelled (first ∷ payloads) payload all = last_spelled payloads payload (All-tail IsSpelled first (payloads ++ payload ∷ []) all)

module _ {X : Type 0} (state : X → Journalled) where
  lists_at : (journals : List X) (k : ℕ) → All (λ (j : X). HoldsRecords (state j)) journals → k < length (states_of state journals)
      → (journal_at (states_of state journals) k).payloads ≡ map entry_spelling (list_in (map (λ (s : Segment). s.entries) (segments_of state journals)) k)
  lists_at [] k all lt = absurd (omega arith)
  lists_at (j ∷ journals) zero all lt = all_spelled (state j).payloads (All-head (λ (i : X). HoldsRecords (state i)) j journals all).records.spelled
  lists_at (j ∷ journals) (suc k) all lt = lists_at journals k (All-tail (λ (i : X). HoldsRecords (state i)) j journals all) (omega arith)

  flight_spelled : (journal : Journalled) → HoldsRecords journal → journal.flight ≡ option_map entry_spelling (segment_of journal).flight
  flight_spelled journal holds = next journal.flight refl
    where
      next : (flight : Option (List ℕ)) → journal.flight ≡ flight → flight ≡ option_map entry_spelling (option_map entry_in flight)
      next None e = refl
      next (Some payload) e =
          let both = subst (λ (o : Option (List ℕ)). All IsSpelled (journal.payloads ++ option_to_list o)) e holds.flight.spelled in
          let one = last_spelled journal.payloads payload both in
          ap (λ (p : List ℕ). Some p) one.spelling

  flights_at : (journals : List X) (k : ℕ) → All (λ (j : X). HoldsRecords (state j)) journals → k < length (states_of state journals)
      → (journal_at (states_of state journals) k).flight ≡ flight_at (segments_of state journals) k
  flights_at [] k all lt = absurd (omega arith)
  flights_at (j ∷ journals) zero all lt = flight_spelled (state j) (All-head (λ (i : X). HoldsRecords (state i)) j journals all)
  flights_at (j ∷ journals) (suc k) all lt = flights_at journals k (All-tail (λ (i : X). HoldsRecords (state i)) j journals all) (omega arith)

  pub replica_handed : (journals : List X) (node : StorageState) → segments_of state journals ≡ node.replica.state.segments
      → All (λ (j : X). HoldsRecords (state j)) journals → RestsIn node.mode node.replica.state.segments
      → HoldsState (states_of state journals) (Storing (node_of node))
  replica_handed journals node same all rests = record {
    payloads = λ k lt. lists_at journals k all lt ∙ ap (λ (ss : List Segment). map entry_spelling (list_in (map (λ (s : Segment). s.entries) ss) k)) same;
    flights = λ k lt bytes.
        flights_at journals k all lt ∙ ap (λ (ss : List Segment). flight_at ss k) same ∙ replica_flight node.mode node.replica.state node.ticks k rests;
  }

-- ---- an orderer

one_spelled : (bytes : List ℕ) → IsBytes bytes → IsPayload (payload_in bytes) → bytes ≡ payload_spelling (payload_in bytes)
unfolding payload_in
one_spelled bytes fits is = next (payload_of bytes) refl is
  where
    next : (read : Option Payload) → payload_of bytes ≡ read → IsPayload (payload_found read) → bytes ≡ payload_spelling (payload_found read)
    next None e is = absurd (omega (arith, is.0))
    next (Some payload) e is = sym (payload_read bytes payload fits e).1

list_spelled : (payloads : List (List ℕ)) → AllPayloads payloads → AllByRecursion IsPayload (map payload_in payloads)
    → payloads ≡ map payload_spelling (map payload_in payloads)
list_spelled [] fits all = refl
list_spelled (payload ∷ payloads) fits all =
    ap (λ (p : List ℕ). p ∷ payloads) (one_spelled payload (All-head IsKept payload payloads fits).bytes all.0)
    ∙ ap (λ (ps : List (List ℕ)). payload_spelling (payload_in payload) ∷ ps) (list_spelled payloads (All-tail IsKept payload payloads fits) all.1)

orderer_flight : (journal : Journalled) (standing : Standing) (orderer : Orderer) → RunsAs standing journal → IsFlight journal.flight
    → IfSome journal.flight IsBytes → journal.flight ≡ spelled (flight_of (ordering_mode journal standing orderer))
orderer_flight journal IsUp orderer runs is bytes = runs.1
orderer_flight journal IsDown orderer runs is bytes = next journal.flight is bytes
  where
    next : (flight : Option (List ℕ)) → IsFlight flight → IfSome flight IsBytes → flight ≡ spelled (option_map payload_in flight)
    next None is bytes = refl
    next (Some payload) is bytes = ap (λ (p : List ℕ). Some p) (one_spelled payload bytes is)

orderer_handed : {X : Type 0} (state : X → Journalled) (journals : List X) (node : OrdererState X) → journals ≡ node.journal ∷ []
    → AllPayloads (state node.journal).payloads → AllByRecursion IsPayload (list_of (state node.journal)) → IsFlight (state node.journal).flight
    → RunsAs node.standing (state node.journal) → HoldsState (states_of state journals) (Ordering (orderer_state state node))
orderer_handed {X} state journals node alone fits list flight runs =
    subst (λ (js : List X). HoldsState (states_of state js) (Ordering (orderer_state state node))) (sym alone) (record { payloads = payloads; flights = flights })
  where
    payloads : (k : ℕ) → k < 1 → (journal_at (state node.journal ∷ []) k).payloads ≡ payloads_of (Ordering (orderer_state state node)) k
    payloads zero lt = list_spelled (state node.journal).payloads fits list
    payloads (suc k) lt = absurd (omega arith)

    flights : (k : ℕ) → k < 1 → IfSome (journal_at (state node.journal ∷ []) k).flight IsBytes
        → (journal_at (state node.journal ∷ []) k).flight ≡ payload_in_flight (Ordering (orderer_state state node)) k
    flights zero lt bytes = orderer_flight (state node.journal) node.standing node.memory.orderer runs flight bytes
    flights (suc k) lt bytes = absurd (omega arith)

pub journal_handed : {X : Type 0} (state : X → Journalled) (journals : List X) (journal : X) (node : OrdererState X) → journal ≡ node.journal → journals ≡ journal ∷ []
    → AllPayloads (state journal).payloads → AllByRecursion IsPayload (list_of (state journal)) → IsFlight (state journal).flight
    → RunsAs node.standing (state journal) → HoldsState (states_of state journals) (Ordering (orderer_state state node))
journal_handed {X} state journals journal node same alone fits list flight runs =
    orderer_handed state journals node (alone ∙ ap (λ (j : X). j ∷ []) same) (subst (λ (j : X). AllPayloads (state j).payloads) same fits)
    (subst (λ (j : X). AllByRecursion IsPayload (list_of (state j))) same list) (subst (λ (j : X). IsFlight (state j).flight) same flight)
    (subst (λ (j : X). RunsAs node.standing (state j)) same runs)
