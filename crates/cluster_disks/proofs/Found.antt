-- What opening all disks finds, and how they lie there again where a run may not begin.
use Rattle.std.proofs.Common.{◌≡◌, ℕ, ◌+◌, ◌≤◌, List, Option, Some, None, refl, sym, ap, ◌∙◌, subst, arith}
use Rattle.std.specs.List.{AllByRecursion}
use Rattle.std.specs.Prelude.{IfSome, IsTrue, slice_get}
use Rattle.history_frame.specs.declared.events.Kept.{Kept}
use Rattle.log_base.specs.ClusterShape.{Shape}
use Rattle.node_model.specs.Sound.{payloads_on}
use Rattle.node_table.specs.Numbering.{disk_of}
use Rattle.segment_journal.specs.Journalled.{Journalled, loaded}
use Rattle.segment_journal.specs.OnDisk.{OnDisk}
use Rattle.cluster_disks.specs.declared.stop.OpenStop.{OpenStop}
use Rattle.cluster_disks.specs.Failing.{IsRejected}
use Rattle.cluster_disks.specs.Found.{AreHeld, AreRecovered, Rejects, kept_in}
use Rattle.cluster_disks.specs.Lent.{Disks, IsDisk, IsLater, Lying}
use Rattle.cluster_disks.specs.Nodes.{AreAsRead, IsHeld, medium_on}
use Rattle.cluster_disks.specs.Opened.{AreAllGivenBack, AreAllOpened, AreFresh, AreLater, AreSmall, IsOpened, KeepsList, Recovers}
use Rattle.cluster_disks.proofs.KeptLists.{in_all, in_here}
use Rattle.cluster_disks.proofs.Lending.{node_small, place_there, place_within, returned_open}

module _ {D : Type 0} (by : Disks D) (config : Shape) where
  -- a node has at most eight journals
  pub small_all : (lain : ℕ → Lying D) (nodes : List (List (OnDisk D))) → config.replicas ≤ 8 → AreAllOpened by config lain nodes → AreSmall nodes
  small_all lain nodes few opened n js at =
      let count = opened.counts n js at in
      let small = node_small config n few in omega arith

  -- the journals were read, and nothing else
  pub fresh_all : (lain : ℕ → Lying D) (nodes : List (List (OnDisk D))) → AreAllOpened by config lain nodes → AreFresh nodes
  fresh_all lain nodes opened n j js journal at here = (opened.each n js at j journal here).fresh

  -- a disk of the cluster has its journal
  pub record HasJournal (nodes : List (List (OnDisk D))) (number : ℕ) : Type 0 where
    pub node : ℕ
    pub segment : ℕ
    pub journals : List (OnDisk D)
    pub journal : OnDisk D
    pub at : slice_get nodes node ≡ Some journals
    pub here : slice_get journals segment ≡ Some journal
    pub number_is : number ≡ disk_of node segment

  pub has_journal : (lain : ℕ → Lying D) (nodes : List (List (OnDisk D))) (number : ℕ) → AreAllOpened by config lain nodes → IsDisk config number → HasJournal nodes number
  has_journal lain nodes number opened is =
      let there = place_there nodes is.0 (let all = opened.all in let lt = is.1 in omega arith) in
      let count = opened.counts is.0 there.0 there.1 in
      let one = place_there there.0 is.2.0 (let lt = is.2.1 in omega arith) in
      record { node = is.0; segment = is.2.0; journals = there.0; journal = one.0; at = there.1; here = one.1; number_is = is.2.2 }

  -- what was copied from a disk is its journal's list
  pub copied : (nodes : List (List (OnDisk D))) (number : ℕ) (has : HasJournal nodes number) → AreSmall nodes → payloads_on (kept_in 0 nodes) number ≡ has.journal.journal.payloads
  copied nodes number has small =
      in_here 0 has.node has.segment number nodes has.journals has.journal small has.at has.here
      (has.number_is ∙ ap (λ (n : ℕ). disk_of n has.segment) (let e : has.node ≡ 0 + has.node = omega arith in e))

  -- the lists are what the disks recover to
  pub found_lists : (lain : ℕ → Lying D) (nodes : List (List (OnDisk D))) → config.replicas ≤ 8 → AreAllOpened by config lain nodes → AreRecovered by config (payloads_on (kept_in 0 nodes)) lain
  found_lists lain nodes few opened number is =
      let has = has_journal lain nodes number opened is in
      let list = copied nodes number has (small_all lain nodes few opened) in
      subst (λ (l : List (List ℕ)). Recovers by (lain number) l) (sym list)
      (subst (λ (k : ℕ). Recovers by (lain k) has.journal.journal.payloads) (sym has.number_is) (opened.each has.node has.journals has.at has.segment has.journal has.here).list)

  -- and they are the cluster's
  pub all_on_disks : (lain : ℕ → Lying D) (nodes : List (List (OnDisk D))) → AreAllOpened by config lain nodes → AllByRecursion (λ (one : Kept). IsDisk config one.disk) (kept_in 0 nodes)
  all_on_disks lain nodes opened =
      in_all (IsDisk config) 0 nodes (λ n js at segment lt. (
        n,
        (let within = place_within nodes n js at in let all = opened.all in omega arith),
        (segment, (let count = opened.counts n js at in omega arith), omega arith),
      ))

  -- ---- lying there again

  no_flight : (journal : Journalled) → journal ≡ loaded journal.payloads → journal.flight ≡ None
  no_flight journal fresh = ap (λ (j : Journalled). j.flight) fresh

  held_at : (lain new : ℕ → Lying D) (nodes : List (List (OnDisk D))) (number : ℕ) (has : HasJournal nodes number) → AreSmall nodes
      → IfSome (new (disk_of has.node has.segment)).disk (λ disk. IsTrue (by.keeps_synced disk) → KeepsList has.journal.journal.payloads None (by.may_leave disk))
      → IfSome (new number).disk (λ disk. IsTrue (by.keeps_synced disk) → KeepsList (payloads_on (kept_in 0 nodes) number) None (by.may_leave disk))
  held_at lain new nodes number has small held =
      subst (λ (l : List (List ℕ)). IfSome (new number).disk (λ disk. IsTrue (by.keeps_synced disk) → KeepsList l None (by.may_leave disk))) (sym (copied nodes number has small))
      (subst (λ (k : ℕ). IfSome (new k).disk (λ disk. IsTrue (by.keeps_synced disk) → KeepsList has.journal.journal.payloads None (by.may_leave disk))) (sym has.number_is) held)

  -- disks that were given back keep their lists
  pub held_back : (lain new : ℕ → Lying D) (nodes : List (List (OnDisk D))) → config.replicas ≤ 8 → AreAllOpened by config lain nodes → AreAllGivenBack by nodes new
      → AreHeld by config (payloads_on (kept_in 0 nodes)) new
  held_back lain new nodes few opened back number is =
      let has = has_journal lain nodes number opened is in
      let fresh = (opened.each has.node has.journals has.at has.segment has.journal has.here).fresh in
      held_at lain new nodes number has (small_all lain nodes few opened)
      (subst (λ (flight : Option (List ℕ)). IfSome (new (disk_of has.node has.segment)).disk (λ disk. IsTrue (by.keeps_synced disk) → KeepsList has.journal.journal.payloads flight (by.may_leave disk)))
      (no_flight has.journal.journal fresh) (back has.node has.journals has.at has.segment has.journal has.here).list)

  pub held_as_read : (lain new : ℕ → Lying D) (nodes : List (List (OnDisk D))) → config.replicas ≤ 8 → AreAllOpened by config lain nodes → AreAsRead by nodes new
      → AreHeld by config (payloads_on (kept_in 0 nodes)) new
  held_as_read lain new nodes few opened back number is =
      let has = has_journal lain nodes number opened is in
      held_at lain new nodes number has (small_all lain nodes few opened) (back has.node has.segment has.journals has.journal has.at has.here).list_is

  -- ---- why not

  -- a run may not begin with the lists
  pub rejected : (run : ℕ) (fault : OpenStop) (old new : ℕ → Lying D) (nodes : List (List (OnDisk D))) → config.replicas ≤ 8 → AreAllOpened by config old nodes
      → Rejects config run (kept_in 0 nodes) fault → AreHeld by config (payloads_on (kept_in 0 nodes)) new → IsRejected by config run fault old new
  rejected run fault old new nodes few opened rejects held =
      record {
        kept = kept_in 0 nodes;
        on_disks = all_on_disks old nodes opened;
        found = found_lists old nodes few opened;
        held = held;
        rejects = rejects;
      }

  -- ---- no count fell

  -- disks that were opened and given back
  pub later_back : (old new : ℕ → Lying D) (nodes : List (List (OnDisk D))) → AreAllOpened by config old nodes → AreAllGivenBack by nodes new
      → ((number : ℕ) → (old number).rack_faults ≤ (new number).rack_faults) → AreLater by config old new
  later_back old new nodes opened back rack number is =
      let has = has_journal old nodes number opened is in
      subst (λ (k : ℕ). IsLater by (old k) (new k)) (sym has.number_is)
      (returned_open by has.journal (old (disk_of has.node has.segment)) (new (disk_of has.node has.segment)) (opened.each has.node has.journals has.at has.segment has.journal has.here)
      (back has.node has.journals has.at has.segment has.journal has.here) (rack (disk_of has.node has.segment))).later

  later_held : (journal : OnDisk D) (old new : Lying D) → IsOpened by old journal → IsHeld by journal.journal.payloads None (medium_on by journal) new
      → old.rack_faults ≤ new.rack_faults → IsLater by old new
  later_held journal old new opened held rack = record {
    disk = (let a = opened.count in let b = held.count in omega arith);
    rack = rack;
    keeps = keeps old.disk new.disk opened.keeps held.keeps;
  }
    where
      keeps : (before now : Option D) → IfSome before (λ b. by.keeps_synced journal.disk ≡ by.keeps_synced b) → IfSome now (λ d. by.keeps_synced d ≡ by.keeps_synced journal.disk)
          → IfSome before (λ b. IfSome now (λ d. by.keeps_synced d ≡ by.keeps_synced b))
      keeps None now a c = tt
      keeps (Some before) None a c = tt
      keeps (Some before) (Some now) a c = c ∙ a

  pub later_as_read : (old new : ℕ → Lying D) (nodes : List (List (OnDisk D))) → AreAllOpened by config old nodes → AreAsRead by nodes new
      → ((number : ℕ) → (old number).rack_faults ≤ (new number).rack_faults) → AreLater by config old new
  later_as_read old new nodes opened back rack number is =
      let has = has_journal old nodes number opened is in
      subst (λ (k : ℕ). IsLater by (old k) (new k)) (sym has.number_is)
      (later_held has.journal (old (disk_of has.node has.segment)) (new (disk_of has.node has.segment)) (opened.each has.node has.journals has.at has.segment has.journal has.here)
      (back has.node has.segment has.journals has.journal has.at has.here) (rack (disk_of has.node has.segment)))
