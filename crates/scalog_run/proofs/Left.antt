-- The disks of nodes that stand after events are left by these events.
use Rattle.std.proofs.Common.{◌≡◌, inl, inr, ℕ, ◌%◌, ◌<◌, ◌≤◌, List, [], ◌∷◌, ◌++◌, Option, Some, None, Ok, refl, sym, ap, ◌∙◌, subst, arith}
use Rattle.std.specs.Prelude.{IfSome, IsTrue}
use Rattle.command_frame.specs.declared.items.Item.{Item}
use Rattle.core_step.specs.Standing.{Standing, cluster_node, state_of}
use Rattle.history_frame.specs.declared.events.Event.{Event}
use Rattle.history_frame.specs.declared.events.Kept.{Kept}
use Rattle.log_base.specs.ClusterShape.{Shape}
use Rattle.node_model.specs.Durable.{Keeps, Without, With, durable, in_flight, payload_in_flight, payloads_of}
use Rattle.node_model.specs.Machine.{ClusterNode}
use Rattle.node_model.specs.NodeState.{NodeState, node_after}
use Rattle.node_model.specs.Sound.{payloads_on}
use Rattle.node_model.proofs.Promises.{disk_node, disk_segment}
use Rattle.node_table.specs.Numbering.{disk_of, nodes_of}
use Rattle.quiet_run.specs.Standing.{StandAfter, job, node_of}
use Rattle.safety_law.proofs.Start.{made_from}
use Rattle.segment_journal.specs.File.{recovered}
use Rattle.segment_journal.specs.Kept.{RecoversKept}
use Rattle.segment_journal.specs.OnDisk.{OnDisk}
use Rattle.scalog_run.specs.Histories.{AreLeft, IsLeftOn}
use Rattle.cluster_disks.specs.Lent.{Disks, Lying, disks_at}
use Rattle.cluster_disks.specs.Nodes.{AreAllOf, nodes_in}
use Rattle.cluster_disks.specs.Opened.{KeepsList}
use Rattle.cluster_disks.proofs.Lending.{node_small}

-- what is recovered is the list, without or with what is in flight
pub kept_list : (list : List (List ℕ)) (flight : Option (List ℕ)) (c : List ℕ) → RecoversKept list flight c → (found : List (List ℕ)) × (recovered c ≡ Ok found) × Keeps list flight found
kept_list list None c is = (list, is, Without refl)
kept_list list (Some payload) c (inl is) = (list, is, Without refl)
kept_list list (Some payload) c (inr is) = (list ++ payload ∷ [], is, With payload refl refl)

-- the durable list of a disk, and what is in flight to it, are those of its node
durable_at : (config : Shape) (kept : List Kept) (events : List Event) (n j : ℕ) → j < 8
    → (durable config (payloads_on kept) events (disk_of n j) ≡ payloads_of (node_after config (payloads_on kept) events n) j)
    × (in_flight config (payloads_on kept) events (disk_of n j) ≡ payload_in_flight (node_after config (payloads_on kept) events n) j)
durable_at config kept events n j below =
    let node = disk_node n j below in
    let segment = disk_segment n j below in (
      ap (λ (m : ℕ). payloads_of (node_after config (payloads_on kept) events m) (disk_of n j % 8)) node ∙ ap (λ (m : ℕ). payloads_of (node_after config (payloads_on kept) events n) m) segment,
      ap (λ (m : ℕ). payload_in_flight (node_after config (payloads_on kept) events m) (disk_of n j % 8)) node ∙ ap (λ (m : ℕ). payload_in_flight (node_after config (payloads_on kept) events n) m) segment,
    )

module _ {D P : Type 0} (by : Disks D) (config : Shape) (run : ℕ) (items : List Item) (kept : List Kept) (events : List Event) where
  pub left_by : (nodes : List (Standing (OnDisk D) P)) (lain : ℕ → Lying D) → config.replicas ≤ 8
      → StandAfter (job config run items kept) events (nodes_in nodes) → AreAllOf by config nodes lain → AreLeft by config (payloads_on kept) events lain
  left_by nodes lain few stand back number is =
      subst (λ (k : ℕ). IfSome (lain k).disk (λ disk. IsTrue (by.keeps_synced disk) → IsLeftOn config (payloads_on kept) events k (by.may_leave disk))) (sym is.2.2)
      (at is.0 is.2.0 is.1 is.2.1)
    where
      on : (n j : ℕ) (state : NodeState) (told : Option D) → j < 8 → state ≡ node_after config (payloads_on kept) events n
          → IfSome told (λ disk. IsTrue (by.keeps_synced disk) → KeepsList (payloads_of state j) (payload_in_flight state j) (by.may_leave disk))
          → IfSome told (λ disk. IsTrue (by.keeps_synced disk) → IsLeftOn config (payloads_on kept) events (disk_of n j) (by.may_leave disk))
      on n j state None below same held = tt
      on n j state (Some disk) below same held = λ synced c image bytes.
          let both = durable_at config kept events n j below in
          let found = kept_list (payloads_of state j) (payload_in_flight state j) c (held synced c image bytes) in
          let list = ap (λ (s : NodeState). payloads_of s j) same ∙ sym both.0 in
          let flight = ap (λ (s : NodeState). payload_in_flight s j) same ∙ sym both.1 in (
            found.0,
            found.1,
            subst (λ (f : Option (List ℕ)). Keeps (durable config (payloads_on kept) events (disk_of n j)) f found.0) flight
                (subst (λ (l : List (List ℕ)). Keeps l (payload_in_flight state j) found.0) list found.2),
          )

      at : (n j : ℕ) → n < nodes_of config → j < disks_at config n
          → IfSome (lain (disk_of n j)).disk (λ disk. IsTrue (by.keeps_synced disk) → IsLeftOn config (payloads_on kept) events (disk_of n j) (by.may_leave disk))
      at n j within inside =
          let small = node_small config n few in
          let there = made_from (λ (x : Standing (OnDisk D) P). cluster_node (λ (o : OnDisk D). o.journal) x) nodes n (node_of (job config run items kept) events n) (stand.each n within) in
          let held = back n there.0 there.1 j inside in
          on n j (state_of (λ (o : OnDisk D). o.journal) there.0.part) (lain (disk_of n j)).disk (omega arith) (ap (λ (c : ClusterNode). c.state) there.2) held.list_is
