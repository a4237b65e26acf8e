-- Sound lists are those of nodes of the rules as they begin.
use Rattle.std.proofs.Common.{◌≡◌, ℕ, zero, suc, ◌+◌, ◌*◌, ◌/◌, ◌%◌, ◌<◌, ◌≤◌, ◌⊎◌, inl, inr, Bool, true, cond, List, [], ◌∷◌, ◌++◌, length, map, slice_get, Option, Some, None, is_some, get_or, refl, sym, ap, subst, arith, ◌∙◌}
use Rattle.std.specs.List.{All}
use Rattle.std.proofs.lemmas.List.{append-nil}
use Rattle.std.proofs.lemmas.Option.{none-some, same_Some, slice_get_cases, slice_get_within}
use Rattle.std.proofs.lemmas.Option.{get_or_from_slice_get}
use Rattle.history_frame.specs.declared.events.Kept.{Kept}
use Rattle.log_base.specs.ClusterShape.{Shape}
use Rattle.log_model.specs.Storage.{IsRecords, IsSpelled as IsEntrySpelled, entries_in, entry_in, knowledge_of, list_limit}
use Rattle.node_table.specs.declared.role.Role.{Role}
use Rattle.node_table.specs.declared.role.Role.TheVariants.{Storage, Gatherer, Orderer}
use Rattle.node_table.specs.Numbering.{disk_of, nodes_of, role_at}
use Rattle.paxos_acceptor.specs.Listed.{bad_from, bad_offset}
use Rattle.paxos_model.specs.Payloads.{IsPayload, IsSpelled, payload_found, payload_in, payload_of}
use Rattle.paxos_model.specs.Votes.{Payload}
use Rattle.paxos_model.proofs.Payloads.{payload_short}
use Rattle.record_frame.specs.declared.entries.Entry.{Entry}
use Rattle.record_frame.proofs.EntryLaws.{length-entry_spelling}
use Rattle.segment_journal.specs.Journalled.{Journalled, loaded}
use Rattle.shard_replica.specs.Lists.{HoldsRecords, Segment, segment_of, segments_of}
use Rattle.storage_node.specs.StorageState.{HasNoFlight, HasOneFlight, flight_from, put_in_flight}
use Rattle.node_model.specs.Machine.{IsAny}
use Rattle.node_model.specs.Marks.{Stopped}
use Rattle.node_model.specs.NodeState.{KeptLists, NodeState, Storing, begun_as, segments_kept}
use Rattle.node_model.specs.StorageNode.{member_of}
use Rattle.node_model.specs.Sound.{AreSound, IsBefore, IsSound, IsSoundAs, payloads_on}
use Rattle.node_model.proofs.Promises.{disk_node, disk_segment}
use Rattle.node_model.proofs.Sounding.{stands_on}
use Rattle.history_walk.specs.Beginning.{AreLists, AreLoaded, journal_in}
use Rattle.history_walk.specs.InMemory.{InMemory}
use Rattle.history_walk.specs.Keeping.{AreShort}
use Rattle.core_step.specs.Starting.{IsOrderer as IsOrdererRole, IsStorage as IsStorageRole, IsStoring, ordering}

-- lists that are sound are so whatever the numbers
pub sound_any : (config : Shape) (run : ℕ) (kept : KeptLists) → IsSound config run kept → AreSound config IsAny kept
sound_any config run kept sound disk offset payload e =
    let at = sound disk offset payload e in (at.0, any (role_at config (disk / 8)) (disk % 8) at.1)
  where
    any : (role : Role) (segment : ℕ) → IsSoundAs config (IsBefore run) kept role segment offset payload → IsSoundAs config IsAny kept role segment offset payload
    any (Storage shard replica) segment h = (h.0, record { spelled = h.1.spelled; number = tt; few = h.1.few; primary = h.1.primary })
    any (Gatherer index) segment h = h
    any (Orderer index) segment h = h

module _ (config : Shape) (kept : KeptLists) where
  entry_size : (payload : List ℕ) → IsEntrySpelled payload → length payload ≤ 131072
  entry_size payload is =
      let size = ap length is.spelling in let spelled = length-entry_spelling (entry_in payload) in let few = is.entry.size in
      omega (arith, size, spelled, few)

  payload_size : (payload : List ℕ) → IsSpelled payload → length payload ≤ 131072
  payload_size payload is =
      let size = ap length is.spelling in let short = payload_short (payload_in payload) is.payload in
      omega (arith, size, short)

  short_as : (role : Role) (segment offset : ℕ) (payload : List ℕ) → IsSoundAs config IsAny kept role segment offset payload → (length payload ≤ 131072) × (offset < 16777216)
  short_as (Storage shard replica) segment offset payload is = let few = is.1.few in (entry_size payload is.1.spelled, omega arith)
  short_as (Gatherer index) segment offset payload is = absurd is
  short_as (Orderer index) segment offset payload is = let few = is.1.few in (payload_size payload is.1.spelled, omega arith)

-- what is sound is short
pub sound_short : (config : Shape) (kept : List Kept) → AreSound config IsAny (payloads_on kept) → AreShort (nodes_of config * 8) kept
sound_short config kept sound index one e =
    let at = sound one.disk _ one.payload (stands_on kept index one e) in
    let short = short_as config (payloads_on kept) (role_at config (one.disk / 8)) (one.disk % 8) _ one.payload at.1 in
    let low = at.0 in
    record { disk = omega arith; size = short.0; few = short.1 }

module _ (config : Shape) (kept : KeptLists) (sound : AreSound config IsAny kept) where
  -- a payload of a node's list
  at_node : (node segment offset : ℕ) (payload : List ℕ) → segment < 8 → slice_get (kept (disk_of node segment)) offset ≡ Some payload
      → IsSoundAs config IsAny kept (role_at config node) segment offset payload
  at_node node segment offset payload lt e =
      subst (λ (x : ℕ × ℕ). IsSoundAs config IsAny kept (role_at config x.0) x.1 offset payload) (λ i. (disk_node node segment lt i, disk_segment node segment lt i))
      (sound (disk_of node segment) offset payload e).1

  -- the list of a segment
  pub records : (node segment : ℕ) (role : Role) → role_at config node ≡ role → IsStorageRole role → segment < 8 → IsRecords (kept (disk_of node segment))
  records node segment (Storage shard replica) role storing lt = record { spelled = spelled; few = few (slice_get_cases (kept (disk_of node segment)) 16384).1 }
    where
      entry : (offset : ℕ) (payload : List ℕ) → slice_get (kept (disk_of node segment)) offset ≡ Some payload → IsSoundAs config IsAny kept (Storage shard replica) segment offset payload
      entry offset payload e = subst (λ (r : Role). IsSoundAs config IsAny kept r segment offset payload) role (at_node node segment offset payload lt e)

      spelled : All IsEntrySpelled (kept (disk_of node segment))
      spelled k d below = elim (slice_get_cases (kept (disk_of node segment)) k).1 [
        | inl it ↦ subst IsEntrySpelled (sym (get_or_from_slice_get (kept (disk_of node segment)) k it.0 d it.2)) (entry k it.0 it.2).1.spelled
        | inr past ↦ absurd (let low = past.0 in omega arith)
      ]

      few : ((x : List ℕ) × (16384 < length (kept (disk_of node segment))) × (slice_get (kept (disk_of node segment)) 16384 ≡ Some x) × (get_or (kept (disk_of node segment)) 16384 x ≡ x))
          ⊎ ((length (kept (disk_of node segment)) ≤ 16384) × (slice_get (kept (disk_of node segment)) 16384 ≡ None)) → length (kept (disk_of node segment)) ≤ list_limit
      few (inl it) = absurd (let low = (entry 16384 it.0 it.2).1.few in omega arith)
      few (inr past) = past.0
  records node segment (Gatherer index) role storing lt = absurd storing
  records node segment (Orderer index) role storing lt = absurd storing

  -- an orderer's list has promises and votes
  promise : (node offset : ℕ) (payload : List ℕ) (role : Role) → role_at config node ≡ role → IsOrdererRole role → slice_get (kept (disk_of node 0)) offset ≡ Some payload → IsSpelled payload
  promise node offset payload (Orderer index) role ordering e =
      (subst (λ (r : Role). IsSoundAs config IsAny kept r 0 offset payload) role (at_node node 0 offset payload (omega arith) e)).1.spelled
  promise node offset payload (Storage shard replica) role ordering e = absurd ordering
  promise node offset payload (Gatherer index) role ordering e = absurd ordering

  found : (payload : List ℕ) (o : Option Payload) → payload_of payload ≡ o → IsSpelled payload → is_some o ≡ true
  unfolding payload_in
  found payload (Some p) e is = refl
  found payload None e is = absurd (let low = (subst IsPayload (ap payload_found e) is.payload).0 in omega arith)

  pub none_is_bad : (node : ℕ) (role : Role) → role_at config node ≡ role → IsOrdererRole role → bad_offset (loaded (kept (disk_of node 0))) ≡ None
  none_is_bad node role is ordering = good 0 (kept (disk_of node 0)) (λ offset payload e. promise node offset payload role is ordering e)
    where
      good : (at : ℕ) (payloads : List (List ℕ)) → ((offset : ℕ) (payload : List ℕ) → slice_get payloads offset ≡ Some payload → IsSpelled payload) → bad_from at payloads ≡ None
      good at [] each = refl
      good at (payload ∷ rest) each =
          subst (λ (b : Bool). cond b (bad_from (suc at) rest) (Some at) ≡ None) (sym (found payload (payload_of payload) refl (each 0 payload refl)))
          (good (suc at) rest (λ offset p e. each (suc offset) p e))

-- the lists of a replica
pub entries_are : (kept : KeptLists) (node segment : ℕ) (journals : List InMemory) → AreLoaded kept node segment journals
    → map (λ (s : Segment). s.entries) (segments_of journal_in journals) ≡ segments_kept kept node segment (length journals)
entries_are kept node segment [] loaded = refl
entries_are kept node segment (memory ∷ others) loaded =
    ap (λ (j : Journalled). entries_in j.payloads ∷ map (λ (s : Segment). s.entries) (segments_of journal_in others)) loaded.0
    ∙ ap (λ (l : List (List Entry)). entries_in (kept (disk_of node segment)) ∷ l) (entries_are kept node (suc segment) others loaded.1)

pub no_flight : (kept : KeptLists) (node segment : ℕ) (journals : List InMemory) → AreLoaded kept node segment journals → HasNoFlight (segments_of journal_in journals)
no_flight kept node segment [] loaded = tt
no_flight kept node segment (memory ∷ others) loaded =
    (ap (λ (j : Journalled). (segment_of j).flight) loaded.0, no_flight kept node (suc segment) others loaded.1)

pub no_flight_one : (segments : List Segment) → HasNoFlight segments → HasOneFlight segments
no_flight_one [] h = tt
no_flight_one (segment ∷ segments) h = inr h.1

pub flight_none : (at : ℕ) (segments : List Segment) → HasNoFlight segments → flight_from at segments ≡ None
flight_none at [] h = refl
flight_none at (segment ∷ segments) h =
    ap (λ (f : Option Entry). put_in_flight at f (flight_from (suc at) segments)) h.0 ∙ flight_none (suc at) segments h.1

-- ---- journals of nodes

pub loaded_at : (kept : KeptLists) (node segment : ℕ) (journals : List InMemory) (k : ℕ) (d : InMemory) → AreLoaded kept node segment journals → k < length journals
    → (get_or journals k d).journal ≡ loaded (kept (disk_of node (segment + k)))
loaded_at kept node segment [] k d h lt = absurd (omega arith)
loaded_at kept node segment (memory ∷ others) zero d h lt = h.0 ∙ ap (λ (s : ℕ). loaded (kept (disk_of node s))) (let e : segment ≡ segment + 0 = omega arith in e)
loaded_at kept node segment (memory ∷ others) (suc k) d h lt =
    loaded_at kept node (suc segment) others k d h.1 (omega arith) ∙ ap (λ (s : ℕ). loaded (kept (disk_of node s))) (let e : suc segment + k ≡ segment + suc k = omega arith in e)

loaded_from : (kept : KeptLists) (node segment : ℕ) (taken : List InMemory)
    → ((k : ℕ) (memory : InMemory) → slice_get taken k ≡ Some memory → memory.journal ≡ loaded (kept (disk_of node (segment + k)))) → AreLoaded kept node segment taken
loaded_from kept node segment [] each = tt
loaded_from kept node segment (memory ∷ others) each = (
  each 0 memory refl ∙ ap (λ (s : ℕ). loaded (kept (disk_of node s))) (let e : segment + 0 ≡ segment = omega arith in e),
  loaded_from kept node (suc segment) others
      (λ k m e. each (suc k) m e ∙ ap (λ (s : ℕ). loaded (kept (disk_of node s))) (let f : segment + suc k ≡ suc segment + k = omega arith in f)),
)

-- the journals that are taken out for a node
pub loaded_of : (kept : KeptLists) (node count total : ℕ) (journals taken : List InMemory) → AreLists journals kept (node * 8) total → length taken ≡ count
    → ((k : ℕ) → k < count → slice_get taken k ≡ slice_get journals (node * 8 + k)) → AreLoaded kept node 0 taken
loaded_of kept node count total journals taken lists size same =
    loaded_from kept node 0 taken (λ k memory e.
    let lt : k < length taken = slice_get_within taken k memory e in
    let low : node * 8 ≤ node * 8 + k = omega arith in
    lists.each (node * 8 + k) memory low (sym (same k (omega arith)) ∙ e)
    ∙ ap (λ (d : ℕ). loaded (kept d)) (let f : node * 8 + k ≡ node * 8 + (0 + k) = omega arith in f))

-- the journals of the nodes after it stay
pub lists_behind : (kept : KeptLists) (node first total : ℕ) (old new : List InMemory) → AreLists old kept (node * 8) total → length new ≡ length old → first ≤ (node + 1) * 8
    → ((k : ℕ) → first ≤ k → slice_get new k ≡ slice_get old k) → AreLists new kept ((node + 1) * 8) total
lists_behind kept node first total old new lists size under same = record {
  all = size ∙ lists.all;
  each = λ disk memory low e. lists.each disk memory (omega (arith, low)) (sym (same disk (omega (arith, low, under))) ∙ e);
}

pub holds_loaded : (payloads : List (List ℕ)) → IsRecords payloads → HoldsRecords (loaded payloads)
holds_loaded payloads records =
    record { first = refl; records = records; flight = subst IsRecords (sym (append-nil payloads)) records; running = λ h. refl }

-- ---- nodes

-- a replica
pub replica_begun : (config : Shape) (kept : KeptLists) (node : ℕ) (role : Role) (journals : List InMemory) (state : NodeState) → AreLoaded kept node 0 journals
    → length journals ≡ config.replicas → IsStorageRole role → IsStoring config role (segments_of journal_in journals) state → state ≡ begun_as config kept node role
replica_begun config kept node (Storage shard replica) journals state loaded size storage storing =
    let entries = entries_are kept node 0 journals loaded ∙ ap (segments_kept kept node 0) size in
    let flight = flight_none 0 (segments_of journal_in journals) (no_flight kept node 0 journals loaded) in
    storing ∙ (λ i. Storing (record { durable = entries i; mode = Stopped (flight i) (knowledge_of (member_of config shard.0 replica.0) []) }))
replica_begun config kept node (Gatherer index) journals state loaded size storage storing = absurd storage
replica_begun config kept node (Orderer index) journals state loaded size storage storing = absurd storage

-- an orderer
pub orderer_begun : (config : Shape) (kept : KeptLists) (node : ℕ) (role : Role) (journal : Journalled) (state : NodeState) → journal ≡ loaded (kept (disk_of node 0))
    → IsOrdererRole role → state ≡ ordering journal → state ≡ begun_as config kept node role
orderer_begun config kept node (Orderer index) journal state loaded is e = e ∙ ap ordering loaded
orderer_begun config kept node (Storage shard replica) journal state loaded is e = absurd is
orderer_begun config kept node (Gatherer index) journal state loaded is e = absurd is

-- what holds of each element and of one more
pub each_push : {X : Type 0} (P : ℕ → X → Type 0) (xs : List X) (x : X) → ((k : ℕ) (y : X) → slice_get xs k ≡ Some y → P k y) → P (length xs) x
    → (k : ℕ) (y : X) → slice_get (xs ++ x ∷ []) k ≡ Some y → P k y
each_push P [] x each last zero y e = subst (P 0) (same_Some x y e) last
each_push P [] x each last (suc k) y e = absurd (none-some y e)
each_push P (z ∷ xs) x each last zero y e = each 0 y e
each_push P (z ∷ xs) x each last (suc k) y e = each_push (λ n. P (suc n)) xs x (λ n w f. each (suc n) w f) last k y e
