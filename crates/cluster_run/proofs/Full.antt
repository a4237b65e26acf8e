-- How many values the nodes of a closed cluster know.
use Rattle.std.proofs.Common.{◌≡◌, ◌<◌, ◌≤◌, ◌||◌, ℕ, zero, suc, Bool, true, false, List, [], ◌∷◌, map, nat_le, slice_get, Some, refl, sym, ap, ◌∙◌, arith}
use Rattle.std.specs.List.{list_any}
use Rattle.std.proofs.lemmas.Bool.{false≢true, leb-false, leb-true}
use Rattle.std.proofs.lemmas.List.{length-map}
use Rattle.std.proofs.lemmas.Option.{none-some, same_Some, slice_get_within}
use Rattle.cluster.specs.History.{StandAfter}
use Rattle.core_step.specs.Known.{known_count}
use Rattle.history_frame.specs.declared.events.Event.{Event}
use Rattle.log_base.specs.ClusterShape.{Shape}
use Rattle.node_model.specs.Machine.{ClusterNode}
use Rattle.node_model.specs.NodeState.{KeptLists}
use Rattle.node_table.specs.Numbering.{nodes_of}
use Rattle.tied_cells.proofs.Closes.{from_map}
use Rattle.cluster_run.specs.Runs.{known_after}

neither : (a b : Bool) → (a || b) ≡ false → (a ≡ false) × (b ≡ false)
neither true b e = absurd (false≢true (sym e))
neither false b e = (refl, e)

none_passes : {N : Type 0} (passes : N → Bool) (nodes : List N) (k : ℕ) (node : N) → list_any passes nodes ≡ false → slice_get nodes k ≡ Some node → passes node ≡ false
none_passes passes [] k node none there = absurd (none-some node there)
none_passes passes (first ∷ nodes) zero node none there = ap passes (sym (same_Some first node there)) ∙ (neither (passes first) (list_any passes nodes) none).0
none_passes passes (first ∷ nodes) (suc k) node none there = none_passes passes nodes k node (neither (passes first) (list_any passes nodes) none).1 there

abbrev Passer : {N : Type 0} → (N → Bool) → List N → Type 0
Passer {N} passes nodes = (k : ℕ) × (node : N) × (slice_get nodes k ≡ Some node) × (passes node ≡ true)

here_or_later : {N : Type 0} (passes : N → Bool) (first : N) (nodes : List N) (b : Bool) → passes first ≡ b → (b || list_any passes nodes) ≡ true
    → (list_any passes nodes ≡ true → Passer passes nodes) → Passer passes (first ∷ nodes)
here_or_later passes first nodes true e h later = (zero, first, refl, e)
here_or_later passes first nodes false e h later = let found = later h in (suc found.0, found.1, found.2, found.3)

one_passes : {N : Type 0} (passes : N → Bool) (nodes : List N) → list_any passes nodes ≡ true → Passer passes nodes
one_passes passes [] one = absurd (false≢true one)
one_passes passes (first ∷ nodes) one = here_or_later passes first nodes (passes first) refl one (λ later. one_passes passes nodes later)

-- a node knows as many values as there may be
abbrev pub knows_most : {N : Type 0} → (N → ClusterNode) → N → Bool
knows_most state node = nat_le 16384 (known_count (state node).state)

module _ {N : Type 0} (state : N → ClusterNode) (config : Shape) (kept : KeptLists) (events : List Event) (nodes : List N) (stand : StandAfter config kept events (map state nodes)) where
  node_knows : (number : ℕ) → number < nodes_of config → (node : N) × (slice_get nodes number ≡ Some node) × (known_count (state node).state ≡ known_after config kept events number)
  node_knows number below =
      let p = from_map state nodes number _ (stand.each number below) in (p.0, p.1, ap (λ (n : ClusterNode). known_count n.state) p.2)

  pub few_known : list_any (knows_most state) nodes ≡ false → (number : ℕ) → number < nodes_of config → known_after config kept events number < 16384
  few_known none number below =
      let one = node_knows number below in
      let least = leb-false 16384 (known_count (state one.0).state) (none_passes (knows_most state) nodes number one.0 none one.1) in
      let same = one.2 in omega arith

  pub most_known : list_any (knows_most state) nodes ≡ true → (number : ℕ) × (number < nodes_of config) × (16384 ≤ known_after config kept events number)
  most_known some =
      let one = one_passes (knows_most state) nodes some in
      let low = slice_get_within nodes one.0 one.1 one.2 in
      let size = length-map nodes state in let all = stand.all in
      let below : one.0 < nodes_of config = omega arith in
      let other = node_knows one.0 below in
      let is : other.0 ≡ one.1 = same_Some other.0 one.1 (sym other.1 ∙ one.2) in
      let most = leb-true 16384 (known_count (state one.1).state) one.3 in
      let same = ap (λ (n : N). known_count (state n).state) (sym is) ∙ other.2 in
      (one.0, below, omega arith)
