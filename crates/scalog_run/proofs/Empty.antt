-- The history without events over disks that hold sound lists.
use Rattle.std.proofs.Common.{◌≡◌, ℕ, ◌%◌, ◌<◌, ◌≤◌, List, [], Option, Some, None, refl, sym, ap, ◌∙◌, subst, arith}
use Rattle.std.specs.Prelude.{IfSome, IsTrue}
use Rattle.command_frame.specs.declared.items.Item.{Item}
use Rattle.history_frame.specs.declared.events.Kept.{Kept}
use Rattle.log_base.specs.ClusterShape.{InRange, Shape}
use Rattle.node_model.specs.Durable.{Without, durable, payloads_of}
use Rattle.node_model.specs.NodeState.{KeptLists, node_after}
use Rattle.node_model.specs.Sound.{IsSound, payloads_on}
use Rattle.node_model.proofs.Promises.{disk_node, disk_segment}
use Rattle.node_table.specs.Numbering.{disk_of, role_at}
use Rattle.quiet_run.specs.Standing.{job}
use Rattle.scalog_run.specs.Histories.{AreOver, IsLeftOn}
use Rattle.cluster_disks.specs.Lent.{Disks, Lying, disks_at}
use Rattle.cluster_disks.specs.Found.{AreHeld, AreRecovered}
use Rattle.cluster_disks.specs.Opened.{KeepsList}
use Rattle.cluster_disks.proofs.Beginning.{begun_list}
use Rattle.cluster_disks.proofs.Lending.{node_small}

module _ (config : Shape) (run : ℕ) (kept : KeptLists) (sound : IsSound config run kept) where
  -- before the first event the durable list of a disk is what it kept
  pub durable_first : (n j : ℕ) → j < 8 → j < disks_at config n → durable config kept [] (disk_of n j) ≡ kept (disk_of n j)
  durable_first n j below within =
      ap (λ (m : ℕ). payloads_of (node_after config kept [] m) (disk_of n j % 8)) (disk_node n j below)
      ∙ ap (λ (m : ℕ). payloads_of (node_after config kept [] n) m) (disk_segment n j below)
      ∙ begun_list config run kept n j (role_at config n) sound below within refl

module _ {D : Type 0} (by : Disks D) (config : Shape) (run : ℕ) (items : List Item) (kept : List Kept) (old new : ℕ → Lying D) where
  pub empty_over : InRange config → config.replicas ≤ 8 → IsSound config run (payloads_on kept) → AreRecovered by config (payloads_on kept) old → AreHeld by config (payloads_on kept) new
      → AreOver by (job config run items kept) [] old new
  empty_over range few sound found held = record {
    found = found;
    legal = record { config_in_range = range; sound = sound; follow = tt };
    followed = tt;
    left = λ number is.
        subst (λ (k : ℕ). IfSome (new k).disk (λ disk. IsTrue (by.keeps_synced disk) → IsLeftOn config (payloads_on kept) [] k (by.may_leave disk))) (sym is.2.2)
        (at is.0 is.2.0 is.2.1 (new (disk_of is.0 is.2.0)).disk
        (subst (λ (k : ℕ). IfSome (new k).disk (λ disk. IsTrue (by.keeps_synced disk) → KeepsList (payloads_on kept k) None (by.may_leave disk))) is.2.2 (held number is)));
  }
    where
      at : (n j : ℕ) → j < disks_at config n → (told : Option D) → IfSome told (λ disk. IsTrue (by.keeps_synced disk) → KeepsList (payloads_on kept (disk_of n j)) None (by.may_leave disk))
          → IfSome told (λ disk. IsTrue (by.keeps_synced disk) → IsLeftOn config (payloads_on kept) [] (disk_of n j) (by.may_leave disk))
      at n j within None keeps = tt
      at n j within (Some disk) keeps = λ synced c image bytes.
          let small = node_small config n few in
          let list = durable_first config run (payloads_on kept) sound n j (omega arith) within in
          (payloads_on kept (disk_of n j), keeps synced c image bytes, Without (sym list))
