-- The disks of all nodes are opened, one node after another, and given back.
use Rattle.std.proofs.Common.{◌≡◌, ◌≢◌, ◌⊎◌, inl, inr, ℕ, zero, suc, ◌+◌, ◌<◌, ◌≤◌, List, [], ◌∷◌, ◌++◌, Some, length, length-append, refl, sym, ap, ◌∙◌, subst, ⊎_elim, arith}
use Rattle.std.proofs.lemmas.Bool.{cases_eq, cases_lt}
use Rattle.std.specs.Prelude.{slice_get, slice_index_or}
use Rattle.log_base.specs.ClusterShape.{Shape}
use Rattle.node_table.specs.Numbering.{disk_of, nodes_of}
use Rattle.segment_journal.specs.OnDisk.{OnDisk}
use Rattle.cluster_disks.specs.declared.stop.OpenStop.{OpenStop}
use Rattle.cluster_disks.specs.Lent.{Disks, IsDisk, IsDiskBelow, IsDiskOfNode, Lying, disks_at}
use Rattle.cluster_disks.specs.Opened.{AreAllGivenBack, AreGivenBack, AreOpened, AreReturned, AreSmall, FailsAmong, IsDiskIn, IsReturned, IsWhole}
use Rattle.cluster_disks.proofs.Lending.{IsSame, fails_then, given_same, in_pushed, later_node, node_small, one_node, opened_after, other_node, place_there, place_within, returned_open, returned_same, returned_then, same_fails, same_returned, tells_same}
use Rattle.cluster_disks.proofs.Opening.{open_whole}

-- ---- places of a list

-- what is taken at an index stands there
pub found_there : {X : Type 0} (xs : List X) (k : ℕ) (x : X) → k < length xs → x ≡ slice_index_or xs k x → slice_get xs k ≡ Some x
found_there [] k x lt is = absurd (omega arith)
found_there (y ∷ xs) zero x lt is = ap Some (sym is)
found_there (y ∷ xs) (suc k) x lt is = found_there xs k x (omega arith) is

-- what stands in a list stands in a longer one, and its last at its end
pub in_longer : {X : Type 0} (xs : List X) (y : X) (k : ℕ) (x : X) → slice_get xs k ≡ Some x → slice_get (xs ++ y ∷ []) k ≡ Some x
in_longer [] y k x at = cc
in_longer (z ∷ xs) y zero x at = at
in_longer (z ∷ xs) y (suc k) x at = in_longer xs y k x at

pub at_last : {X : Type 0} (xs : List X) (y : X) → slice_get (xs ++ y ∷ []) (length xs) ≡ Some y
at_last [] y = refl
at_last (z ∷ xs) y = at_last xs y

module _ {D : Type 0} (by : Disks D) where
  -- ---- given back

  -- The disks of the first nodes lie there again.
  pub record AreClosing (now : ℕ → Lying D) (node : ℕ) (nodes : List (List (OnDisk D))) : Type 0 where
    pub count : node ≡ length nodes
    pub small : AreSmall nodes
    pub back : AreAllGivenBack by nodes now

  pub one_closing : (now new : ℕ → Lying D) (node : ℕ) (nodes : List (List (OnDisk D))) (journals : List (OnDisk D))
      → AreClosing now node nodes → length journals ≤ 8 → ((k : ℕ) → ¬ IsDiskOfNode node (length journals) k → IsSame (now k) (new k))
      → AreGivenBack by node journals new
      → AreClosing new (node + 1) (nodes ++ journals ∷ [])
  one_closing now new node nodes journals before few same given = record {
    count = ap (λ (n : ℕ). n + 1) before.count ∙ sym (length-append nodes (journals ∷ []));
    small = λ n js at. small n js (in_pushed nodes journals n js at);
    back = λ n js at. back n js (in_pushed nodes journals n js at);
  }
    where
      small : (n : ℕ) (js : List (OnDisk D)) → (slice_get nodes n ≡ Some js) ⊎ ((n ≡ length nodes) × (journals ≡ js)) → length js ≤ 8
      small n js (inl at) = before.small n js at
      small n js (inr (is, last)) = subst (λ (l : List (OnDisk D)). length l ≤ 8) last few

      back : (n : ℕ) (js : List (OnDisk D)) → (slice_get nodes n ≡ Some js) ⊎ ((n ≡ length nodes) × (journals ≡ js)) → AreGivenBack by n js new
      back n js (inl at) = λ j one here.
          let inside = place_within js j one here in
          let few_here = before.small n js at in
          let below = place_within nodes n js at in
          let apart : n ≢ node = λ e. (let c = before.count in omega arith) in
          given_same by one (now (disk_of n j)) (new (disk_of n j)) (same (disk_of n j) (other_node n node (length journals) j few (omega arith) apart)) (before.back n js at j one here)
      back n js (inr (is, last)) =
          subst (λ (l : List (OnDisk D)). AreGivenBack by n l new) last
          (subst (λ (m : ℕ). AreGivenBack by m journals new) (before.count ∙ sym is) given)

  -- ---- opened

  -- The disks of the first nodes are open.
  pub record AreOpening (config : Shape) (old : ℕ → Lying D) (node : ℕ) (nodes : List (List (OnDisk D))) : Type 0 where
    pub count : length nodes ≡ node
    pub counts : (n : ℕ) (js : List (OnDisk D)) → slice_get nodes n ≡ Some js → length js ≡ disks_at config n
    pub each : (n : ℕ) (js : List (OnDisk D)) → slice_get nodes n ≡ Some js → AreOpened by n old js

  pub one_opening : (config : Shape) (old now : ℕ → Lying D) (node : ℕ) (nodes : List (List (OnDisk D))) (journals : List (OnDisk D))
      → AreOpening config old node nodes → ((j : ℕ) → j < 8 → IsSame (old (disk_of node j)) (now (disk_of node j)))
      → config.replicas ≤ 8 → length journals ≡ disks_at config node → AreOpened by node now journals
      → AreOpening config old (node + 1) (nodes ++ journals ∷ [])
  one_opening config old now node nodes journals before same few size opened = record {
    count = length-append nodes (journals ∷ []) ∙ ap (λ (n : ℕ). n + 1) before.count;
    counts = λ n js at. counts n js (in_pushed nodes journals n js at);
    each = λ n js at. each n js (in_pushed nodes journals n js at);
  }
    where
      counts : (n : ℕ) (js : List (OnDisk D)) → (slice_get nodes n ≡ Some js) ⊎ ((n ≡ length nodes) × (journals ≡ js)) → length js ≡ disks_at config n
      counts n js (inl at) = before.counts n js at
      counts n js (inr (is, last)) =
          subst (λ (l : List (OnDisk D)). length l ≡ disks_at config n) last
          (subst (λ (m : ℕ). length journals ≡ disks_at config m) (sym before.count ∙ sym is) size)

      now_open : AreOpened by node old journals
      now_open j one at =
          let inside = place_within journals j one at in
          let small = node_small config node few in
          opened_after by (old (disk_of node j)) (now (disk_of node j)) one (same j (omega arith)) (opened j one at)

      each : (n : ℕ) (js : List (OnDisk D)) → (slice_get nodes n ≡ Some js) ⊎ ((n ≡ length nodes) × (journals ≡ js)) → AreOpened by n old js
      each n js (inl at) = before.each n js at
      each n js (inr (is, last)) =
          subst (λ (l : List (OnDisk D)). AreOpened by n old l) last
          (subst (λ (m : ℕ). AreOpened by m old journals) (sym before.count ∙ sym is) now_open)

  -- the disks of a later node are none of the first ones
  pub later_in : (config : Shape) (old : ℕ → Lying D) (node n j : ℕ) (nodes : List (List (OnDisk D))) → config.replicas ≤ 8 → AreOpening config old node nodes → j < 8 → node ≤ n → IsDiskIn nodes (disk_of n j) → ⊥
  later_in config old node n j nodes few opening within behind is =
      let lt = place_within nodes is.node is.journals is.at in
      let size = opening.counts is.node is.journals is.at in
      let small = node_small config is.node few in
      let inside = is.within in
      let same = one_node n is.node j is.segment within (omega arith) is.number_is in
      let all = opening.count in omega arith

  -- All disks came back where a node could not be opened.
  pub nodes_returned : (config : Shape) (old before between new : ℕ → Lying D) (node : ℕ) (nodes : List (List (OnDisk D)))
      → config.replicas ≤ 8 → AreOpening config old node nodes
      → ((k : ℕ) → ¬ IsDiskBelow config node k → IsSame (old k) (before k)) → ((k : ℕ) → ¬ IsDiskOfNode node (disks_at config node) k → IsSame (before k) (between k))
      → ((k : ℕ) → ¬ IsDiskIn nodes k → IsSame (between k) (new k))
      → ((k : ℕ) → (old k).rack_faults ≤ (before k).rack_faults) → ((k : ℕ) → (before k).rack_faults ≤ (between k).rack_faults) → ((k : ℕ) → (between k).rack_faults ≤ (new k).rack_faults)
      → AreReturned by (IsDiskOfNode node (disks_at config node)) before between
      → AreAllGivenBack by nodes new
      → AreReturned by (IsDisk config) old new
  nodes_returned config old before between new node nodes few opening first second third a b c returned back k is =
      subst (λ (d : ℕ). IsReturned by (old d) (new d)) (sym is.2.2) (there is.0 is.2.0 is.2.1)
    where
      there : (n j : ℕ) → j < disks_at config n → IsReturned by (old (disk_of n j)) (new (disk_of n j))
      there n j within =
          let d = disk_of n j in
          let small = node_small config n few in
          ⊎_elim
          (λ below.
          let here = place_there nodes n (let all = opening.count in omega arith) in
          let one = place_there here.0 j (let size = opening.counts n here.0 here.1 in omega arith) in
          returned_open by one.0 (old d) (new d) (opening.each n here.0 here.1 j one.0 one.1) (back n here.0 here.1 j one.0 one.1)
          (let x = a d in let y = b d in let z = c d in omega arith))
          (λ behind.
          let last = third d (later_in config old node n j nodes few opening (omega arith) behind) in
          let start = first d (later_node config node n j few (omega arith) behind) in
          returned_then by (old d) (between d) (new d)
          (same_returned by (old d) (before d) (between d) start (a d)
          (⊎_elim
          (λ same. returned d (subst (λ (m : ℕ). IsDiskOfNode m (disks_at config m) d) same (j, within, refl)))
          (λ other. returned_same by (before d) (between d) (second d (other_node n node (disks_at config node) j (node_small config node few) (omega arith) other)) (b d))
          (cases_eq n node)))
          last (c d))
          (cases_lt n node)

  -- why a node could not be opened
  pub nodes_fail : (config : Shape) (old before between new : ℕ → Lying D) (node : ℕ) (nodes : List (List (OnDisk D))) (fault : OpenStop)
      → config.replicas ≤ 8 → node < nodes_of config → AreOpening config old node nodes
      → ((k : ℕ) → ¬ IsDiskBelow config node k → IsSame (old k) (before k)) → ((k : ℕ) → ¬ IsDiskIn nodes k → IsSame (between k) (new k))
      → ((k : ℕ) → (old k).rack_faults ≤ (before k).rack_faults) → ((k : ℕ) → (between k).rack_faults ≤ (new k).rack_faults)
      → FailsAmong by (IsDiskOfNode node (disks_at config node)) before between fault
      → FailsAmong by (IsDisk config) old new fault
  nodes_fail config old before between new node nodes fault few within opening first third a c (inl memory) = inl memory
  nodes_fail config old before between new node nodes fault few within opening first third a c (inr at) =
      let small = node_small config node few in
      let j = at.among.0 in
      let inside : j < 8 = (let lt = at.among.1 in omega arith) in
      let k = at.number in
      let start = subst (λ (d : ℕ). IsSame (old d) (before d)) (sym at.among.2) (first (disk_of node j) (later_node config node node j few inside (omega arith))) in
      let last = subst (λ (d : ℕ). IsSame (between d) (new d)) (sym at.among.2) (third (disk_of node j) (later_in config old node node j nodes few opening inside (omega arith))) in
      inr (record {
        number = k;
        among = (node, within, at.among);
        fails = fails_then by k (old k) (between k) (new k) fault (same_fails by k (old k) (before k) (between k) fault start (a k) at.fails) last (c k);
        below = λ lower under is. subst (λ (d : ℕ). IsWhole by (old d)) (sym is.2.2) (whole is.0 is.2.0 is.2.1 (let e = is.2.2 in omega arith));
      })
    where
      whole : (n j : ℕ) → j < disks_at config n → disk_of n j < at.number → IsWhole by (old (disk_of n j))
      whole n j lt under =
          let small = node_small config n few in
          let small_there = node_small config node few in
          let here = at.among.2 in
          let inside = at.among.1 in
          ⊎_elim
          (λ below.
          let there = place_there nodes n (let all = opening.count in omega arith) in
          let one = place_there there.0 j (let size = opening.counts n there.0 there.1 in omega arith) in
          open_whole by (old (disk_of n j)) one.0 (opening.each n there.0 there.1 j one.0 one.1))
          (λ behind.
          let same : n ≡ node = omega arith in
          tells_same by (old (disk_of n j)) (before (disk_of n j)) _ (first (disk_of n j) (later_node config node n j few (omega arith) behind))
          (at.below (disk_of n j) under (subst (λ (m : ℕ). IsDiskOfNode m (disks_at config m) (disk_of n j)) same (j, lt, refl))))
          (cases_lt n node)
