-- The disks of nodes lie there again, with the nodes' lists.
use Rattle.std.proofs.Common.{◌≡◌, ◌⊎◌, inl, inr, ℕ, ◌<◌, ◌≤◌, Bool, List, [], ◌∷◌, ◌++◌, length, length-append, Option, Some, None, Ok, sym, ap, ◌∙◌, subst, ⊎_elim, arith}
use Rattle.std.proofs.lemmas.Bool.{cases_lt}
use Rattle.std.proofs.lemmas.List.{length-map}
use Rattle.std.specs.Prelude.{IfSome, IsTrue, slice_get}
use Rattle.std.specs.List.{All}
use Rattle.core_step.specs.Disks.{journals_of}
use Rattle.core_step.specs.Handed.{HoldsState}
use Rattle.core_step.specs.Standing.{Standing, state_of}
use Rattle.log_base.specs.ClusterShape.{Shape}
use Rattle.log_base.specs.Wide.{IsBytes}
use Rattle.node_model.specs.Durable.{payload_in_flight, payloads_of}
use Rattle.node_table.specs.Numbering.{disk_of, role_at}
use Rattle.segment_journal.proofs.Recovery.{recovered-short}
use Rattle.segment_journal.proofs.Spellings.{recovered-spelled}
use Rattle.segment_journal.specs.File.{recovered}
use Rattle.segment_journal.specs.Journalled.{IsPayload, Journalled, no_turns}
use Rattle.segment_journal.specs.Kept.{RecoversKept}
use Rattle.segment_journal.specs.OnDisk.{OnDisk}
use Rattle.shard_replica.specs.Journals.{no_journal, states_of}
use Rattle.shard_replica.specs.Lists.{Medium, medium_at, no_medium}
use Rattle.shard_replica.specs.Telling.{AreTold}
use Rattle.cluster_disks.specs.Lent.{Disks, IsDiskOfNode, Lying, disks_at}
use Rattle.cluster_disks.specs.Nodes.{AreAllOf, AreOf, IsHeld, media_over, media_under, medium_on}
use Rattle.cluster_disks.specs.Opened.{AreGivenBack, IsGivenBack, KeepsList}
use Rattle.cluster_disks.proofs.Beginning.{as_many, mapped_at}
use Rattle.cluster_disks.proofs.Lending.{IsSame, in_pushed, node_small, other_node, place_there, place_within}
use Rattle.cluster_disks.proofs.Nodes.{at_last}
use Rattle.cluster_disks.proofs.Sources.{index_is}

-- ---- what an image recovers to

last_payload : (payloads : List (List ℕ)) (payload : List ℕ) → All IsPayload (payloads ++ payload ∷ []) → IsPayload payload
last_payload payloads payload all =
    let at = at_last payloads payload in
    subst IsPayload (index_is (payloads ++ payload ∷ []) (length payloads) payload payload at)
    (all (length payloads) payload (place_within (payloads ++ payload ∷ []) (length payloads) payload at))

-- a payload behind others that bytes recover to is bytes
flight_bytes : (payloads : List (List ℕ)) (payload c : List ℕ) → IsBytes c → recovered c ≡ Ok (payloads ++ payload ∷ []) → IsBytes payload
flight_bytes payloads payload c bytes is = ⊎_elim
    (λ short. absurd (none (recovered-short c short) is))
    (λ long. (last_payload payloads payload (recovered-spelled c (payloads ++ payload ∷ []) bytes long is).each).bytes)
    (cases_lt (length c) 6)
  where
    none : recovered c ≡ Ok [] → recovered c ≡ Ok (payloads ++ payload ∷ []) → ⊥
    none nothing more =
        let lists : [] ≡ payloads ++ payload ∷ [] = cc in
        let size = ap (λ (l : List (List ℕ)). length l) lists in
        let sum = length-append payloads (payload ∷ []) in omega arith

recovers_list : (list : List (List ℕ)) (flight : Option (List ℕ)) (c : List ℕ) → recovered c ≡ Ok list → RecoversKept list flight c
recovers_list list None c is = is
recovers_list list (Some payload) c is = inl is

-- what is in flight to a node is what is in flight to its journal, where that is bytes
recovers_node : (list : List (List ℕ)) (flight own : Option (List ℕ)) (c : List ℕ) → (IfSome flight IsBytes → flight ≡ own) → IsBytes c → RecoversKept list flight c → RecoversKept list own c
recovers_node list None own c same bytes is = recovers_list list own c is
recovers_node list (Some payload) own c same bytes (inl is) = recovers_list list own c is
recovers_node list (Some payload) own c same bytes (inr is) = subst (λ (f : Option (List ℕ)). RecoversKept list f c) (same (flight_bytes list payload c bytes is)) (inr is)

keeps_node : (list other : List (List ℕ)) (flight own : Option (List ℕ)) (images : List ℕ → Type 0) → list ≡ other → (IfSome flight IsBytes → flight ≡ own) → KeepsList list flight images → KeepsList other own images
keeps_node list other flight own images lists same keeps c image bytes =
    subst (λ (l : List (List ℕ)). RecoversKept l own c) lists (recovers_node list flight own c same bytes (keeps c image bytes))

module _ {D : Type 0} (by : Disks D) where
  -- ---- one disk

  pub held_same : (list : List (List ℕ)) (flight : Option (List ℕ)) (medium : Medium) (old new : Lying D) → IsSame old new → IsHeld by list flight medium old → IsHeld by list flight medium new
  held_same list flight medium old new same held = record {
    count = same.count ∙ held.count;
    keeps = subst (λ (d : Option D). IfSome d (λ disk. by.keeps_synced disk ≡ medium.keeps_synced)) (sym same.disk) held.keeps;
    list_is = subst (λ (d : Option D). IfSome d (λ disk. IsTrue (by.keeps_synced disk) → KeepsList list flight (by.may_leave disk))) (sym same.disk) held.list_is;
  }

  pub held_as : (list other : List (List ℕ)) (flight own : Option (List ℕ)) (medium told : Medium) (lying : Lying D) → list ≡ other → flight ≡ own → medium ≡ told
      → IsHeld by list flight medium lying → IsHeld by other own told lying
  held_as list other flight own medium told lying lists flights media held =
      subst (λ (m : Medium). IsHeld by other own m lying) media
      (subst (λ (f : Option (List ℕ)). IsHeld by other f medium lying) flights
      (subst (λ (l : List (List ℕ)). IsHeld by l flight medium lying) lists held))

  -- the disk of a journal that was given back keeps the list of the node
  pub handed_one : (journal : OnDisk D) (list : List (List ℕ)) (own : Option (List ℕ)) (medium : Medium) (lying : Lying D) → journal.journal.payloads ≡ list
      → (IfSome journal.journal.flight IsBytes → journal.journal.flight ≡ own) → medium ≡ medium_on by journal → IsGivenBack by journal lying → IsHeld by list own medium lying
  handed_one journal list own medium lying lists flights told given = record {
    count = given.count ∙ sym (ap (λ (m : Medium). m.faults) told);
    keeps = subst (λ (b : Bool). IfSome lying.disk (λ disk. by.keeps_synced disk ≡ b)) (sym (ap (λ (m : Medium). m.keeps_synced) told)) given.keeps;
    list_is = there lying.disk given.list;
  }
    where
      there : (disk : Option D) → IfSome disk (λ d. IsTrue (by.keeps_synced d) → KeepsList journal.journal.payloads journal.journal.flight (by.may_leave d))
          → IfSome disk (λ d. IsTrue (by.keeps_synced d) → KeepsList list own (by.may_leave d))
      there None keeps = tt
      there (Some d) keeps = λ synced. keeps_node journal.journal.payloads list journal.journal.flight own (by.may_leave d) lists flights (keeps synced)

  -- ---- the disks of a node

  abbrev pub state : OnDisk D → Journalled
  state journal = journal.journal

  -- the journals that a node gives are as many as its disks
  pub given_all : {P : Type 0} (config : Shape) (number : ℕ) (node : Standing (OnDisk D) P) (journals : List (OnDisk D)) → node.config ≡ config → node.number ≡ number
      → AreTold state (λ (j : OnDisk D). by.faults j.disk) (λ (j : OnDisk D). by.keeps_synced j.disk) (λ (j : OnDisk D). no_turns) (journals_of node.config (role_at node.config node.number)) (media_under by node)
      → media_over by journals ≡ media_under by node → length journals ≡ disks_at config number
  given_all config number node journals config_is number_is told media =
      sym (length-map journals (λ (j : OnDisk D). medium_on by j)) ∙ ap (λ (ms : List Medium). length ms) (media ∙ told.media_are)
      ∙ length-map told.journals (λ (j : OnDisk D). medium_on by j) ∙ told.all
      ∙ as_many node.config (role_at node.config node.number)
      ∙ ap (λ (shape : Shape). disks_at shape node.number) config_is ∙ ap (λ (n : ℕ). disks_at config n) number_is

  pub handed_node : {P : Type 0} (config : Shape) (number : ℕ) (node : Standing (OnDisk D) P) (journals : List (OnDisk D)) (lain : ℕ → Lying D) → length journals ≡ disks_at config number
      → HoldsState (states_of state journals) (state_of state node.part) → media_over by journals ≡ media_under by node → AreGivenBack by number journals lain
      → AreOf by config number node lain
  handed_node config number node journals lain size holds media given segment lt =
      let inside : segment < length journals = omega arith in
      let one = place_there journals segment inside in
      let place : segment < length (states_of state journals) = (let same = length-map journals state in omega arith) in
      let here = mapped_at state journals segment one.0 no_journal one.1 in
      handed_one one.0 (payloads_of (state_of state node.part) segment) (payload_in_flight (state_of state node.part) segment) (medium_at (media_under by node) segment) (lain (disk_of number segment))
      (sym (ap (λ (s : Journalled). s.payloads) here) ∙ holds.payloads segment place)
      (λ bytes. sym (ap (λ (s : Journalled). s.flight) here) ∙ holds.flights segment place (subst (λ (f : Option (List ℕ)). IfSome f IsBytes) (sym (ap (λ (s : Journalled). s.flight) here)) bytes))
      (ap (λ (ms : List Medium). medium_at ms segment) (sym media) ∙ mapped_at (λ (j : OnDisk D). medium_on by j) journals segment one.0 no_medium one.1)
      (given segment one.0 one.1)

  -- ---- the disks of the first nodes

  pub none_of : {P : Type 0} (config : Shape) (lain : ℕ → Lying D) → AreAllOf {P = P} by config [] lain
  none_of config lain number node at = absurd (let lt = place_within [] number node at in omega arith)

  pub one_of : {P : Type 0} (config : Shape) (now new : ℕ → Lying D) (nodes : List (Standing (OnDisk D) P)) (node : Standing (OnDisk D) P) → config.replicas ≤ 8
      → AreAllOf by config nodes now → ((k : ℕ) → ¬ IsDiskOfNode (length nodes) (disks_at config (length nodes)) k → IsSame (now k) (new k))
      → AreOf by config (length nodes) node new → AreAllOf by config (nodes ++ node ∷ []) new
  one_of {P} config now new nodes node few before same given number one at = there (in_pushed nodes node number one at)
    where
      there : (slice_get nodes number ≡ Some one) ⊎ ((number ≡ length nodes) × (node ≡ one)) → AreOf by config number one new
      there (inl was) = λ segment lt.
          let below = place_within nodes number one was in
          let small = node_small config number few in
          held_same _ _ _ (now (disk_of number segment)) (new (disk_of number segment))
          (same (disk_of number segment) (other_node number (length nodes) (disks_at config (length nodes)) segment (node_small config (length nodes) few) (omega arith) (λ e. absurd (omega arith))))
          (before number one was segment lt)
      there (inr (is, last)) =
          subst (λ (n : Standing (OnDisk D) P). AreOf by config number n new) last
          (subst (λ (n : ℕ). AreOf by config n node new) (sym is) given)
