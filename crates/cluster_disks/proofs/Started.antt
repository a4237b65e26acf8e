-- What a run starts with, where all disks were opened and all nodes made.
use Rattle.std.proofs.Common.{◌≡◌, ℕ, ◌≤◌, List, length, sym, ◌∙◌, subst, arith}
use Rattle.std.proofs.lemmas.List.{length-map}
use Rattle.std.specs.List.{AllByRecursion}
use Rattle.core_step.specs.Standing.{Standing, cluster_node}
use Rattle.history_frame.specs.declared.events.Kept.{Kept}
use Rattle.history_frame.specs.Spelling.{IsKept}
use Rattle.log_base.specs.ClusterShape.{Shape}
use Rattle.node_model.specs.Sound.{IsSound, payloads_on}
use Rattle.node_table.specs.Numbering.{nodes_of}
use Rattle.segment_journal.specs.OnDisk.{OnDisk}
use Rattle.cluster_disks.specs.Found.{bytes_in, kept_in, kept_limit}
use Rattle.cluster_disks.specs.Lent.{Disks, IsDisk, Lying}
use Rattle.cluster_disks.specs.Nodes.{AreAtFirst, AreMade, IsStart, nodes_in}
use Rattle.cluster_disks.specs.Opened.{AreAllOpened, IsDiskIn}
use Rattle.cluster_disks.proofs.Found.{found_lists, small_all}
use Rattle.cluster_disks.proofs.KeptLists.{in_rise}
use Rattle.cluster_disks.proofs.Lending.{place_within}

-- nodes that stand at their beginning are those of the whole cluster
pub all_stand : {D P : Type 0} (config : Shape) (kept : List Kept) (nodes : List (Standing (OnDisk D) P)) → AreAtFirst config kept (nodes_in nodes) → length nodes ≡ nodes_of config
all_stand {D} {P} config kept nodes stand =
    sym (length-map nodes (λ (n : Standing (OnDisk D) P). cluster_node (λ (j : OnDisk D). j.journal) n)) ∙ stand.all

module _ {D : Type 0} (by : Disks D) (config : Shape) where
  -- a disk of one of the journals is one of the cluster
  pub opened_in : (old : ℕ → Lying D) (journals : List (List (OnDisk D))) (number : ℕ) → AreAllOpened by config old journals → IsDiskIn journals number → IsDisk config number
  opened_in old journals number opened is =
      let lt = place_within journals is.node is.journals is.at in
      let size = opened.counts is.node is.journals is.at in
      let inside = is.within in
      let all = opened.all in
      (is.node, omega arith, (is.segment, omega arith, is.number_is))

  pub starts : {P : Type 0} (run : ℕ) (old : ℕ → Lying D) (journals : List (List (OnDisk D))) (nodes : List (Standing (OnDisk D) P)) (kept : List Kept) → config.replicas ≤ 8
      → AreAllOpened by config old journals → kept ≡ kept_in 0 journals → bytes_in kept ≤ kept_limit → AllByRecursion IsKept kept → IsSound config run (payloads_on kept)
      → AreMade by config journals nodes → length nodes ≡ nodes_of config → IsStart by config run old (nodes_in nodes) kept
  starts {P} run old journals nodes kept few opened kept_is within fit sound made all =
      subst (λ (l : List Kept). IsStart by config run old (nodes_in nodes) l) (sym kept_is)
      (record {
        found = found_lists by config old journals few opened;
        few = subst (λ (l : List Kept). bytes_in l ≤ kept_limit) kept_is within;
        sound = subst (λ (l : List Kept). IsSound config run (payloads_on l)) kept_is sound;
        order = in_rise 0 0 journals (omega arith) (small_all by config old journals few opened);
        fit = subst (λ (l : List Kept). AllByRecursion IsKept l) kept_is fit;
        stand = record {
          all = length-map nodes (λ (n : Standing (OnDisk D) P). cluster_node (λ (j : OnDisk D). j.journal) n) ∙ all;
          each = λ number lt. made.stand number (omega arith);
        };
      })
