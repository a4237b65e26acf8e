-- Where a payload that may not begin a run was copied from.
use Rattle.std.proofs.Common.{◌≡◌, ℕ, zero, suc, ◌/◌, ◌%◌, ◌<◌, ◌≤◌, ◌==◌, List, [], ◌∷◌, length, take, Some, refl, sym, ap, ◌∙◌, subst, arith}
use Rattle.std.specs.Prelude.{slice_get, slice_index_or}
use Rattle.std.specs.List.{count_by}
use Rattle.history_frame.specs.declared.events.Kept.{Kept}
use Rattle.log_base.specs.ClusterShape.{Shape}
use Rattle.node_model.specs.Sound.{BreaksFirst, payloads_on}
use Rattle.segment_journal.specs.OnDisk.{OnDisk}
use Rattle.segment_journal.specs.File.{place_of}
use Rattle.cluster_disks.specs.declared.stop.OpenStop.{OpenStop}
use Rattle.cluster_disks.specs.declared.stop.OpenStop.TheVariants.{BadDisk}
use Rattle.cluster_disks.specs.Found.{Rejects, bytes_in, gate_of, kept_in, kept_limit}
use Rattle.cluster_disks.specs.Opened.{AreSmall}
use Rattle.cluster_disks.proofs.KeptLists.{count_on, in_here, offset_within, stands_in}
use Rattle.cluster_disks.proofs.Lending.{place_there, place_within}
use Rattle.cluster_disks.proofs.Nodes.{found_there}

-- what stands at an index is what is taken there
pub index_is : {X : Type 0} (xs : List X) (k : ℕ) (x d : X) → slice_get xs k ≡ Some x → slice_index_or xs k d ≡ x
index_is [] k x d at = cc
index_is (y ∷ xs) zero x d at = cc
index_is (y ∷ xs) (suc k) x d at = index_is xs k x d at

-- a payload was copied from this journal, at this offset
pub record CameFrom {D : Type 0} (nodes : List (List (OnDisk D))) (kept : List Kept) (index : ℕ) (one : Kept) : Type 0 where
  pub journals : List (OnDisk D)
  pub journal : OnDisk D
  pub at : slice_get nodes (one.disk / 8) ≡ Some journals
  pub here : slice_get journals (one.disk % 8) ≡ Some journal
  pub list : payloads_on kept one.disk ≡ journal.journal.payloads
  pub offset : count_by (λ (other : Kept). other.disk == one.disk) (take index kept) < length journal.journal.payloads
  pub gate : place_of journal.journal.payloads (count_by (λ (other : Kept). other.disk == one.disk) (take index kept)) ≡ gate_of kept index one

came_from : {D : Type 0} (nodes : List (List (OnDisk D))) (index : ℕ) (one : Kept) → AreSmall nodes → slice_get (kept_in 0 nodes) index ≡ Some one → CameFrom nodes (kept_in 0 nodes) index one
came_from nodes index one small at =
    let stands = stands_in 0 nodes index one at in
    let few = small stands.node stands.journals stands.at in
    let inside = place_within stands.journals stands.segment stands.journal stands.here in
    let node : one.disk / 8 ≡ stands.node = (let is = stands.disk_is in omega arith) in
    let segment : one.disk % 8 ≡ stands.segment = (let is = stands.disk_is in omega arith) in
    let list = in_here 0 stands.node stands.segment one.disk nodes stands.journals stands.journal small stands.at stands.here stands.disk_is in
    let count = count_on one.disk (take index (kept_in 0 nodes)) in
    let lt = offset_within (kept_in 0 nodes) index one at in
    let size = ap (λ (l : List (List ℕ)). length l) list in
    record {
      journals = stands.journals;
      journal = stands.journal;
      at = subst (λ (n : ℕ). slice_get nodes n ≡ Some stands.journals) (sym node) stands.at;
      here = subst (λ (n : ℕ). slice_get stands.journals n ≡ Some stands.journal) (sym segment) stands.here;
      list = list;
      offset = omega arith;
      gate = ap (λ (l : List (List ℕ)). place_of l (count_by (λ (other : Kept). other.disk == one.disk) (take index (kept_in 0 nodes)))) (sym list)
          ∙ ap (λ (n : ℕ). place_of (payloads_on (kept_in 0 nodes) one.disk) n) (sym count);
    }

-- the same, of what is taken at the index
pub source : {D : Type 0} (nodes : List (List (OnDisk D))) (kept : List Kept) (index : ℕ) (one : Kept) → AreSmall nodes → kept ≡ kept_in 0 nodes → index < length kept → one ≡ slice_index_or kept index one
    → CameFrom nodes kept index (slice_index_or kept index one)
source nodes kept index one small is lt found =
    subst (λ (o : Kept). CameFrom nodes kept index o) found
    (subst (λ (k : List Kept). CameFrom nodes k index one) (sym is)
    (came_from nodes index one small (subst (λ (k : List Kept). slice_get k index ≡ Some one) is (found_there kept index one lt found))))

-- the payload at an index breaks soundness first, and a fault tells its gate
pub breach_rejects : (config : Shape) (run : ℕ) (kept : List Kept) (index : ℕ) (fault : OpenStop) → bytes_in kept ≤ kept_limit → BreaksFirst config run kept index
    → ((one : Kept) → slice_get kept index ≡ Some one → fault ≡ BadDisk one.disk (gate_of kept index one)) → Rejects config run kept fault
breach_rejects config run kept index fault few breaks is =
    let there = place_there kept index breaks.within in
    subst (Rejects config run kept) (sym (is there.0 there.1)) (few, record { index = index; one = there.0; breaks = breaks; here = there.1; disk_is = refl; at_is = refl })
