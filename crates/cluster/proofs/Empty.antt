-- A cluster whose disks are empty, for the tests.
use Rattle.std.proofs.Common.{◌≡◌, ◌+◌, ℕ, zero, suc, List, [], ◌∷◌, ◌++◌, length, map, Some, None, slice_get, refl, sym, ap, subst, inl, inr, arith, ◌∙◌}
use Rattle.std.specs.List.{All}
use Rattle.std.proofs.lemmas.Bool.{cases_eq}
use Rattle.std.proofs.lemmas.List.{length-append}
use Rattle.std.proofs.lemmas.List.Elements.{All-cons, All-nil}
use Rattle.std.proofs.lemmas.Option.{none-some}
use Rattle.core_step.specs.Starting.{IsOrderer, IsStoring, ordering}
use Rattle.history_frame.specs.declared.events.Kept.{Kept}
use Rattle.log_base.specs.ClusterShape.{Shape}
use Rattle.log_model.specs.Storage.{IsSpelled, knowledge_of}
use Rattle.node_model.specs.Machine.{ClusterNode}
use Rattle.node_model.specs.Marks.{Stopped}
use Rattle.node_model.specs.NodeState.{NodeState, Storing, begun_as, node_at_first, segments_kept}
use Rattle.node_model.specs.Sound.{IsSound, payloads_on}
use Rattle.node_model.specs.StorageNode.{member_of}
use Rattle.node_model.proofs.Letters.{all_append}
use Rattle.node_table.specs.declared.role.Role.{Role}
use Rattle.node_table.specs.declared.role.Role.TheVariants.{Storage, Gatherer, Orderer}
use Rattle.node_table.specs.Numbering.{nodes_of, role_at}
use Rattle.orderer_node.specs.Ordering.{IsFlight}
use Rattle.record_frame.specs.declared.entries.Entry.{Entry}
use Rattle.segment_journal.specs.Journalled.{Journalled, loaded}
use Rattle.shard_replica.specs.Lists.{HoldsRecords, Segment, segment_of, segments_of}
use Rattle.storage_node.specs.StorageState.{HasOneFlight, flight_from, put_in_flight}
use Rattle.cluster.specs.Clusters.{AreFirst, IsBegun, first_node}
use Rattle.cluster.specs.Tested.{AreEmpty, AreFirstOf}

holds_nothing : HoldsRecords (loaded [])
holds_nothing = record {
  first = refl;
  records = record { spelled = All-nil IsSpelled; few = omega arith };
  flight = record { spelled = All-nil IsSpelled; few = omega arith };
  running = λ e. refl;
}

pub nothing_flies : (journal : Journalled) → journal ≡ loaded [] → IsFlight journal.flight
nothing_flies journal is = subst (λ (j : Journalled). IsFlight j.flight) (sym is) tt

module _ {X : Type 0} (state : X → Journalled) where
  pub empty_push : (journals : List X) (j : X) → AreEmpty state journals → state j ≡ loaded [] → AreEmpty state (journals ++ j ∷ [])
  empty_push journals j h e = all_append (λ (k : X). state k ≡ loaded []) journals (j ∷ []) h (e, tt)

  pub empty_hold : (journals : List X) → AreEmpty state journals → All (λ (j : X). HoldsRecords (state j)) journals
  empty_hold [] h = All-nil (λ (j : X). HoldsRecords (state j))
  empty_hold (j ∷ journals) h = All-cons (λ (k : X). HoldsRecords (state k)) j journals (subst HoldsRecords (sym h.0) holds_nothing) (empty_hold journals h.1)

  pub empty_rest : (journals : List X) → AreEmpty state journals → HasOneFlight (segments_of state journals)
  empty_rest [] h = tt
  empty_rest (j ∷ journals) h = inl (ap (λ (k : Journalled). (segment_of k).flight) h.0, empty_rest journals h.1)

  none_in_flight : (at : ℕ) (journals : List X) → AreEmpty state journals → flight_from at (segments_of state journals) ≡ None
  none_in_flight at [] h = refl
  none_in_flight at (j ∷ journals) h =
      ap (λ (k : Journalled). put_in_flight at (segment_of k).flight (flight_from (suc at) (segments_of state journals))) h.0
      ∙ none_in_flight (suc at) journals h.1

  no_entries : (node at : ℕ) (journals : List X) → AreEmpty state journals
      → map (λ (s : Segment). s.entries) (segments_of state journals) ≡ segments_kept (payloads_on []) node at (length journals)
  no_entries node at [] h = refl
  no_entries node at (j ∷ journals) h =
      ap (λ (k : Journalled). (segment_of k).entries ∷ map (λ (s : Segment). s.entries) (segments_of state journals)) h.0
      ∙ ap (λ (l : List (List Entry)). [] ∷ l) (no_entries node (suc at) journals h.1)

  storing_first : (config : Shape) (n : ℕ) (journals : List X) → AreEmpty state journals → length journals ≡ config.replicas → (role : Role) (s : NodeState)
      → IsStoring config role (segments_of state journals) s → s ≡ begun_as config (payloads_on []) n role
  storing_first config n journals h long (Storage shard own) s is =
      is
      ∙ (λ i. Storing (record {
        durable = (no_entries n 0 journals h ∙ ap (segments_kept (payloads_on []) n 0) long) i;
        mode = Stopped (none_in_flight 0 journals h i) (knowledge_of (member_of config shard.0 own.0) []);
      }))
  storing_first config n journals h long (Gatherer index) s is = absurd is
  storing_first config n journals h long (Orderer index) s is = absurd is

  -- a storage node at first
  pub storage_first : (config : Shape) (n : ℕ) (journals : List X) → AreEmpty state journals → length journals ≡ config.replicas → (node : ClusterNode)
      → node.config ≡ config → node.number ≡ n → IsStoring config (role_at config n) (segments_of state journals) node.state → node ≡ first_node config (payloads_on []) n
  storage_first config n journals h long node c m is =
      λ i. record { config = c i; number = m i; state = storing_first config n journals h long (role_at config n) node.state is i }

ordering_first : (config : Shape) (n : ℕ) (journal : Journalled) → journal ≡ loaded [] → (role : Role) → IsOrderer role → ordering journal ≡ begun_as config (payloads_on []) n role
ordering_first config n journal is (Storage shard own) h = absurd h
ordering_first config n journal is (Gatherer index) h = absurd h
ordering_first config n journal is (Orderer index) h = ap ordering is

-- an orderer at first
pub orderer_first : (config : Shape) (n : ℕ) (journal : Journalled) → journal ≡ loaded [] → IsOrderer (role_at config n) → (node : ClusterNode)
    → node.config ≡ config → node.number ≡ n → node.state ≡ ordering journal → node ≡ first_node config (payloads_on []) n
orderer_first config n journal is role node c m s =
    λ i. record { config = c i; number = m i; state = (s ∙ ordering_first config n journal is (role_at config n) role) i }

pub gatherer_first : (config : Shape) (n : ℕ) (node : ClusterNode) → node.config ≡ config → node.number ≡ n → node.state ≡ node_at_first config (payloads_on []) n
    → node ≡ first_node config (payloads_on []) n
gatherer_first config n node c m s = λ i. record { config = c i; number = m i; state = s i }

-- ---- the nodes of a cluster

got_last : {A : Type 0} (xs : List A) (x : A) → slice_get (xs ++ x ∷ []) (length xs) ≡ Some x
got_last [] x = refl
got_last (y ∷ xs) x = got_last xs x

got_before : {A : Type 0} (xs : List A) (x : A) (k : ℕ) (y : A) → slice_get xs k ≡ Some y → slice_get (xs ++ x ∷ []) k ≡ Some y
got_before [] x k y h = absurd (cc)
got_before (z ∷ xs) x zero y h = h
got_before (z ∷ xs) x (suc k) y h = got_before xs x k y h

mapped_push : {A : Type 0} (state : A → ClusterNode) (xs : List A) (x : A) → map state (xs ++ x ∷ []) ≡ map state xs ++ state x ∷ []
mapped_push state [] x = refl
mapped_push state (y ∷ xs) x = ap (λ (l : List ClusterNode). state y ∷ l) (mapped_push state xs x)

first_push : (config : Shape) (nodes : List ClusterNode) (count : ℕ) (node : ClusterNode) → AreFirstOf config count nodes → node ≡ first_node config (payloads_on []) count
    → AreFirstOf config (count + 1) (nodes ++ node ∷ [])
first_push config nodes count node h e = record {
  all = length-append nodes (node ∷ []) ∙ ap (λ (n : ℕ). n + 1) h.all;
  each = λ k below. elim (cases_eq k count) [
    | inl same ↦
        subst (λ (n : ℕ). slice_get (nodes ++ node ∷ []) n ≡ Some (first_node config (payloads_on []) n)) (sym same)
        (subst (λ (n : ℕ). slice_get (nodes ++ node ∷ []) n ≡ Some (first_node config (payloads_on []) count)) h.all (got_last nodes node ∙ ap (λ (x : ClusterNode). Some x) e))
    | inr other ↦ got_before nodes node k (first_node config (payloads_on []) k) (h.each k (omega arith))
  ];
}

pub nodes_push : {A : Type 0} (state : A → ClusterNode) (config : Shape) (nodes : List A) (count : ℕ) (node : A) → AreFirstOf config count (map state nodes)
    → state node ≡ first_node config (payloads_on []) count → AreFirstOf config (count + 1) (map state (nodes ++ node ∷ []))
nodes_push state config nodes count node h e =
    subst (AreFirstOf config (count + 1)) (sym (mapped_push state nodes node)) (first_push config (map state nodes) count (state node) h e)

pub none_first : (config : Shape) (nodes : List ClusterNode) → nodes ≡ [] → AreFirstOf config 0 nodes
none_first config nodes none = subst (AreFirstOf config 0) (sym none) (record { all = refl; each = λ k below. absurd (omega arith) })

-- nothing that was kept is sound
pub nothing_sound : (config : Shape) (run : ℕ) (kept : List Kept) → kept ≡ [] → IsSound config run (payloads_on kept)
nothing_sound config run kept none =
    subst (λ (k : List Kept). IsSound config run (payloads_on k)) (sym none) (λ disk offset payload e. absurd (none-some payload e))

-- a run of such nodes may begin
pub begins_empty : (config : Shape) (run : ℕ) (kept : List Kept) (nodes : List ClusterNode) → kept ≡ [] → AreFirstOf config (nodes_of config) nodes → IsBegun config run (payloads_on kept) nodes
begins_empty config run kept nodes none h = record {
  sound = nothing_sound config run kept none;
  first = subst (λ (k : List Kept). AreFirst config (payloads_on k) nodes) (sym none) (record { all = h.all; each = h.each });
}
