-- No count fell from the disks that lay there to those that lie there again.
use Rattle.std.proofs.Common.{◌≡◌, ℕ, ◌≤◌, Bool, List, Option, Some, None, sym, ◌∙◌, subst, arith}
use Rattle.std.specs.Prelude.{IfSome, slice_get}
use Rattle.core_step.specs.Standing.{Standing}
use Rattle.log_base.specs.ClusterShape.{Shape}
use Rattle.node_table.specs.Numbering.{disk_of}
use Rattle.segment_journal.specs.OnDisk.{OnDisk}
use Rattle.shard_replica.specs.Lists.{Medium, medium_at}
use Rattle.storage_node.specs.Counting.{CountsOn}
use Rattle.cluster_disks.specs.Lent.{Disks, IsLater, Lying}
use Rattle.cluster_disks.specs.Nodes.{AreAllOf, AreStanding, GoesOn, IsHeld, media_under}
use Rattle.cluster_disks.specs.Opened.{AreLater}
use Rattle.counted_node.specs.Causes.{AllCountOn, media_at}
use Rattle.scalog_run.proofs.Causes.{AreAll, media_there, told_in}

module _ {D : Type 0} (by : Disks D) where
  later_keeps : (keeps : Bool) (before now : Option D) → IfSome before (λ b. keeps ≡ by.keeps_synced b) → IfSome now (λ d. by.keeps_synced d ≡ keeps)
      → IfSome before (λ b. IfSome now (λ d. by.keeps_synced d ≡ by.keeps_synced b))
  later_keeps keeps None now a c = tt
  later_keeps keeps (Some before) None a c = tt
  later_keeps keeps (Some before) (Some now) a c = c ∙ a

  -- a disk whose journal went on lies there again
  later_one : (list : List (List ℕ)) (flight : Option (List ℕ)) (before after : Medium) (old new : Lying D) → GoesOn by old before
      → before.faults ≤ after.faults → after.keeps_synced ≡ before.keeps_synced → IsHeld by list flight after new → old.rack_faults ≤ new.rack_faults → IsLater by old new
  later_one list flight before after old new goes count keeps held rack = record {
    disk = (let a = goes.count in let b = held.count in omega arith);
    rack = rack;
    keeps = later_keeps before.keeps_synced old.disk new.disk goes.keeps
        (subst (λ (b : Bool). IfSome new.disk (λ d. by.keeps_synced d ≡ b)) keeps held.keeps);
  }

module _ {D P : Type 0} (by : Disks D) (config : Shape) (old new : ℕ → Lying D) (before after : List (Standing (OnDisk D) P)) where
  -- what is told of a node went on
  node_goes_on : (number : ℕ) (first second : Standing (OnDisk D) P) → slice_get before number ≡ Some first → slice_get after number ≡ Some second
      → AllCountOn (told_in by before) (told_in by after) → CountsOn (media_under by first) (media_under by second)
  node_goes_on number first second was now counts =
      subst (λ (media : List Medium). CountsOn (media_under by first) media) (media_there (λ (n : Standing (OnDisk D) P). media_under by n) after number second now)
      (subst (λ (media : List Medium). CountsOn media (media_at (told_in by after) number)) (media_there (λ (n : Standing (OnDisk D) P). media_under by n) before number first was) (counts number))

  -- all disks, where the journals of each node went on
  pub later_all : AreAll by config before → AreAll by config after → AreStanding by config old before → AreAllOf by config after new
      → ((number : ℕ) → (old number).rack_faults ≤ (new number).rack_faults) → AllCountOn (told_in by before) (told_in by after) → AreLater by config old new
  later_all firsts seconds standing back rack counts number is =
      let n = is.0 in
      let j = is.2.0 in
      let first = firsts n is.1 in
      let second = seconds n is.1 in
      let went = node_goes_on n first.0 second.0 first.1 second.1 counts in
      subst (λ (k : ℕ). IsLater by (old k) (new k)) (sym is.2.2)
      (later_one by _ _ (medium_at (media_under by first.0) j) (medium_at (media_under by second.0) j) (old (disk_of n j)) (new (disk_of n j))
      (standing n j first.0 first.1 is.2.1) (went.later j) (went.keeps_synced j) (back n second.0 second.1 j is.2.1) (rack (disk_of n j)))
