-- Nodes over journals that hold sound lists, as they begin.
use Rattle.std.proofs.Common.{◌≡◌, inl, ℕ, zero, suc, ◌+◌, ◌%◌, ◌<◌, ◌≤◌, List, [], ◌∷◌, length, map, Option, Some, None, refl, sym, ap, ◌∙◌, subst, ⊎_elim, append-nil, arith}
use Rattle.std.proofs.lemmas.Bool.{cases_lt}
use Rattle.std.proofs.lemmas.List.Elements.{All-head, All-tail}
use Rattle.std.proofs.lemmas.Option.{slice_get-get_or}
use Rattle.std.specs.Prelude.{slice_get, slice_index_or}
use Rattle.std.specs.List.{All}
use Rattle.std.specs.Option.{option_map}
use Rattle.core_step.specs.Disks.{journals_of}
use Rattle.core_step.specs.Starting.{IsStoring}
use Rattle.log_base.specs.ClusterShape.{Shape}
use Rattle.log_base.specs.declared.numbers.Replica.{Replica}
use Rattle.log_base.specs.declared.numbers.Shard.{Shard}
use Rattle.log_model.specs.Storage.{IsRecords, IsSpelled, entries_in, entry_in, knowledge_of, list_limit}
use Rattle.node_model.specs.Durable.{payload_in_flight, payloads_of}
use Rattle.node_model.specs.Marks.{Stopped}
use Rattle.node_model.specs.NodeState.{KeptLists, NodeState, Storing, begun_as, node_at_first, segments_kept}
use Rattle.node_model.specs.Sound.{IsBefore, IsSound, IsSoundAs}
use Rattle.node_model.specs.StorageNode.{Put, member_of}
use Rattle.node_model.proofs.Promises.{disk_node, disk_segment}
use Rattle.node_table.specs.declared.role.Role.{Role}
use Rattle.node_table.specs.declared.role.Role.TheVariants.{Storage, Gatherer, Orderer}
use Rattle.node_table.specs.Numbering.{disk_of, role_at}
use Rattle.paxos_model.specs.Payloads.{IsSpelled as IsPayloadSpelled, payload_spelling, payloads_in}
use Rattle.record_frame.specs.declared.entries.Entry.{Entry}
use Rattle.record_frame.specs.Entries.{entry_spelling}
use Rattle.safety_law.proofs.Start.{kept_segment}
use Rattle.segment_journal.specs.Journalled.{Journalled, loaded}
use Rattle.shard_replica.specs.Journals.{journal_at, no_journal, states_of}
use Rattle.shard_replica.specs.Lists.{HoldsRecords, Segment, segments_of}
use Rattle.storage_node.specs.StorageState.{HasOneFlight, flight_from, put_in_flight}
use Rattle.cluster_disks.specs.Lent.{disks_in}
use Rattle.cluster_disks.specs.Nodes.{IsBeginning}
use Rattle.cluster_disks.proofs.Lending.{place_there, place_within}
use Rattle.cluster_disks.proofs.Sources.{index_is}

-- a payload of a node's disk may stand there
pub node_sound : (config : Shape) (run : ℕ) (kept : KeptLists) (node j offset : ℕ) (payload : List ℕ) (role : Role) → IsSound config run kept → j < 8 → role_at config node ≡ role
    → slice_get (kept (disk_of node j)) offset ≡ Some payload → IsSoundAs config (IsBefore run) kept role j offset payload
node_sound config run kept node j offset payload role sound below is at =
    subst (λ (n : ℕ). IsSoundAs config (IsBefore run) kept role n offset payload) (disk_segment node j below)
    (subst (λ (r : Role). IsSoundAs config (IsBefore run) kept r (disk_of node j % 8) offset payload) (ap (λ (n : ℕ). role_at config n) (disk_node node j below) ∙ is)
    (sound (disk_of node j) offset payload at).1)

-- payloads that spell entries, within the limit
records_of : (payloads : List (List ℕ)) → ((offset : ℕ) (payload : List ℕ) → slice_get payloads offset ≡ Some payload → IsSpelled payload × (offset < list_limit)) → IsRecords payloads
records_of payloads each = record {
  spelled = λ k d lt. (each k (slice_index_or payloads k d) (slice_get-get_or payloads k d lt)).0;
  few = ⊎_elim
      (λ below. absurd (let past = place_there payloads list_limit below in let lt = (each list_limit past.0 past.1).1 in omega arith))
      (λ few. few)
      (cases_lt list_limit (length payloads));
}

-- the list that a disk of a replica kept is one of record entries
pub sound_records : (config : Shape) (run : ℕ) (kept : KeptLists) (node j : ℕ) (shard : Shard) (own : Replica) → IsSound config run kept → j < 8 → role_at config node ≡ Storage shard own
    → IsRecords (kept (disk_of node j))
sound_records config run kept node j shard own sound below is =
    records_of (kept (disk_of node j)) (λ offset payload at.
    let entry = (node_sound config run kept node j offset payload (Storage shard own) sound below is at).1 in (entry.spelled, entry.few))

-- a journal that was read holds record entries where its list is one of them
pub fresh_holds : (journal : Journalled) → journal ≡ loaded journal.payloads → IsRecords journal.payloads → HoldsRecords journal
fresh_holds journal fresh records =
    subst HoldsRecords (sym fresh) (record {
      first = refl;
      records = records;
      flight = subst IsRecords (sym (append-nil journal.payloads)) records;
      running = λ running. refl;
    })

module _ {J : Type 0} (state : J → Journalled) where
  -- nothing is in flight to journals that were read
  pub fresh_flights : (journals : List J) → All (λ (j : J). state j ≡ loaded (state j).payloads) journals → HasOneFlight (segments_of state journals)
  fresh_flights [] all = tt
  fresh_flights (j ∷ journals) all =
      inl (
        ap (λ (s : Journalled). option_map entry_in s.flight) (All-head (λ (i : J). state i ≡ loaded (state i).payloads) j journals all),
        fresh_flights journals (All-tail (λ (i : J). state i ≡ loaded (state i).payloads) j journals all),
      )

  no_flight : (at : ℕ) (journals : List J) → All (λ (j : J). state j ≡ loaded (state j).payloads) journals → flight_from at (segments_of state journals) ≡ None
  no_flight at [] all = refl
  no_flight at (j ∷ journals) all =
      ap (λ (s : Journalled). put_in_flight at (option_map entry_in s.flight) (flight_from (suc at) (segments_of state journals))) (All-head (λ (i : J). state i ≡ loaded (state i).payloads) j journals all)
      ∙ no_flight (suc at) journals (All-tail (λ (i : J). state i ≡ loaded (state i).payloads) j journals all)

  -- the lists of the journals are those that the disks kept
  lists_kept : (kept : KeptLists) (node segment : ℕ) (journals : List J) → ((k : ℕ) → k < length journals → (journal_at (states_of state journals) k).payloads ≡ kept (disk_of node (segment + k)))
      → map (λ (s : Segment). s.entries) (segments_of state journals) ≡ segments_kept kept node segment (length journals)
  lists_kept kept node segment [] each = refl
  lists_kept kept node segment (j ∷ journals) each =
      let here : segment + 0 ≡ segment = omega arith in
      let first = each 0 (omega arith) ∙ ap (λ (n : ℕ). kept (disk_of node n)) here in
      let rest = lists_kept kept node (suc segment) journals (λ k lt. each (suc k) (omega arith) ∙ ap (λ (n : ℕ). kept (disk_of node n)) (let e : segment + suc k ≡ suc segment + k = omega arith in e)) in
      ap (λ (l : List (List ℕ)). entries_in l ∷ map (λ (s : Segment). s.entries) (segments_of state journals)) first
      ∙ ap (λ (ls : List (List Entry)). entries_in (kept (disk_of node segment)) ∷ ls) rest

  -- a replica begins with what its disks kept
  pub storage_begins : (config : Shape) (kept : KeptLists) (node : ℕ) (journals : List J) (shard : Shard) (own : Replica) (made : NodeState) → role_at config node ≡ Storage shard own
      → length journals ≡ config.replicas → IsBeginning state config kept node journals → IsStoring config (Storage shard own) (segments_of state journals) made → made ≡ node_at_first config kept node
  storage_begins config kept node journals shard own made is count beginning storing_is =
      let member = member_of config shard.0 own.0 in
      let lists = lists_kept kept node 0 journals (λ k lt. beginning.lists k lt ∙ ap (λ (n : ℕ). kept (disk_of node n)) (let e : k ≡ 0 + k = omega arith in e)) in
      let all = lists ∙ ap (λ (n : ℕ). segments_kept kept node 0 n) count in
      storing_is
      ∙ ap (λ (ls : List (List Entry)). Storing (record { durable = ls; mode = Stopped (flight_from 0 (segments_of state journals)) (knowledge_of member []) })) all
      ∙ ap (λ (flight : Option Put). Storing (record { durable = segments_kept kept node 0 config.replicas; mode = Stopped flight (knowledge_of member []) })) (no_flight 0 journals beginning.fresh)
      ∙ ap (λ (r : Role). begun_as config kept node r) (sym is)

-- ---- its lists, and what is in flight

-- payloads that spell entries, or promises and votes, are these, spelled
entries_again : (payloads : List (List ℕ)) → ((o : ℕ) (p : List ℕ) → slice_get payloads o ≡ Some p → IsSpelled p) → map entry_spelling (entries_in payloads) ≡ payloads
entries_again [] each = refl
entries_again (payload ∷ payloads) each =
    ap (λ (p : List ℕ). p ∷ map entry_spelling (entries_in payloads)) (sym (each 0 payload refl).spelling)
    ∙ ap (λ (ps : List (List ℕ)). payload ∷ ps) (entries_again payloads (λ o p at. each (suc o) p at))

promises_again : (payloads : List (List ℕ)) → ((o : ℕ) (p : List ℕ) → slice_get payloads o ≡ Some p → IsPayloadSpelled p) → map payload_spelling (payloads_in payloads) ≡ payloads
promises_again [] each = refl
promises_again (payload ∷ payloads) each =
    ap (λ (p : List ℕ). p ∷ map payload_spelling (payloads_in payloads)) (sym (each 0 payload refl).spelling)
    ∙ ap (λ (ps : List (List ℕ)). payload ∷ ps) (promises_again payloads (λ o p at. each (suc o) p at))

-- the durable lists of a node at first are those that its disks kept
pub begun_list : (config : Shape) (run : ℕ) (kept : KeptLists) (n j : ℕ) (role : Role) → IsSound config run kept → j < 8 → j < disks_in config role → role_at config n ≡ role
    → payloads_of (begun_as config kept n role) j ≡ kept (disk_of n j)
begun_list config run kept n j (Storage shard own) sound below within is =
    ap (λ (l : List Entry). map entry_spelling l) (kept_segment kept n 0 config.replicas j within)
    ∙ ap (λ (k : ℕ). map entry_spelling (entries_in (kept (disk_of n k)))) (let e : 0 + j ≡ j = omega arith in e)
    ∙ entries_again (kept (disk_of n j)) (λ o p at. (node_sound config run kept n j o p (Storage shard own) sound below is at).1.spelled)
begun_list config run kept n j (Gatherer index) sound below within is = absurd (omega arith)
begun_list config run kept n zero (Orderer index) sound below within is =
    promises_again (kept (disk_of n 0)) (λ o p at. (node_sound config run kept n 0 o p (Orderer index) sound below is at).1.spelled)
begun_list config run kept n (suc j) (Orderer index) sound below within is = absurd (omega arith)

-- nothing is in flight to it
pub begun_flight : (config : Shape) (kept : KeptLists) (n j : ℕ) (role : Role) → payload_in_flight (begun_as config kept n role) j ≡ None
begun_flight config kept n j (Storage shard own) = refl
begun_flight config kept n j (Gatherer index) = refl
begun_flight config kept n zero (Orderer index) = refl
begun_flight config kept n (suc j) (Orderer index) = refl

-- a node has as many journals as disks
pub as_many : (config : Shape) (role : Role) → journals_of config role ≡ disks_in config role
as_many config (Storage shard own) = refl
as_many config (Gatherer index) = refl
as_many config (Orderer index) = refl

-- ---- its journals

-- what is taken of mapped elements is mapped from what stands there
pub mapped_at : {A B : Type 0} (f : A → B) (xs : List A) (k : ℕ) (x : A) (d : B) → slice_get xs k ≡ Some x → slice_index_or (map f xs) k d ≡ f x
mapped_at f [] k x d at = cc
mapped_at f (y ∷ xs) zero x d at = (let same : y ≡ x = cc in ap f same)
mapped_at f (y ∷ xs) (suc k) x d at = mapped_at f xs k x d at

-- what holds of what stands at each place holds of each element
pub all_there : {A : Type 0} (P : A → Type 0) (xs : List A) → ((k : ℕ) (x : A) → slice_get xs k ≡ Some x → P x) → All P xs
all_there P xs each k d lt = each k (slice_index_or xs k d) (slice_get-get_or xs k d lt)

module _ {J : Type 0} (state : J → Journalled) where
  -- the journals of a replica hold record entries
  pub records_hold : (config : Shape) (kept : KeptLists) (node : ℕ) (journals : List J) (shard : Shard) (own : Replica) → config.replicas ≤ 8 → role_at config node ≡ Storage shard own
      → IsBeginning state config kept node journals → All (λ (j : J). HoldsRecords (state j)) journals
  records_hold config kept node journals shard own few is beginning =
      all_there (λ (j : J). HoldsRecords (state j)) journals (λ k journal at.
      let lt = place_within journals k journal at in
      let count = beginning.count ∙ ap (λ (r : Role). disks_in config r) is in
      let list = sym (ap (λ (s : Journalled). s.payloads) (mapped_at state journals k journal no_journal at)) ∙ beginning.lists k lt in
      let fresh = subst (λ (j : J). state j ≡ loaded (state j).payloads) (index_is journals k journal journal at) (beginning.fresh k journal lt) in
      fresh_holds (state journal) fresh
      (subst IsRecords (sym list) (sound_records config beginning.run kept node k shard own beginning.sound (omega arith) is)))
