-- The nodes of a cluster are made, one after another, and their journals come back where not all could be.
use Rattle.std.proofs.Common.{◌≡◌, ◌≢◌, ◌⊎◌, inl, inr, ℕ, zero, suc, ◌+◌, ◌<◌, ◌≤◌, List, [], ◌∷◌, ◌++◌, length, length-append, map, Some, None, refl, sym, ap, ◌∙◌, subst, ⊎_elim, arith}
use Rattle.std.proofs.lemmas.Bool.{cases_eq, cases_lt}
use Rattle.std.proofs.lemmas.List.{length-map, map-append}
use Rattle.std.specs.Prelude.{slice_get}
use Rattle.core_step.specs.Standing.{Standing, cluster_node, state_of}
use Rattle.log_base.specs.ClusterShape.{Shape}
use Rattle.node_model.specs.Durable.{payload_in_flight, payloads_of}
use Rattle.node_model.specs.Machine.{ClusterNode}
use Rattle.node_model.specs.NodeState.{KeptLists, NodeState, node_at_first}
use Rattle.node_model.specs.Sound.{IsSound, payloads_on}
use Rattle.node_table.specs.Numbering.{disk_of, nodes_of, role_at}
use Rattle.segment_journal.specs.Journalled.{Journalled, loaded}
use Rattle.segment_journal.specs.OnDisk.{OnDisk}
use Rattle.shard_replica.specs.Journals.{no_journal}
use Rattle.shard_replica.specs.Lists.{Medium, medium_at, no_medium}
use Rattle.cluster_disks.specs.Found.{kept_in}
use Rattle.cluster_disks.specs.Lent.{Disks, IsDisk, Lying}
use Rattle.cluster_disks.specs.Nodes.{AreAllOf, AreAsRead, AreMade, AreStanding, AreTaken, GoesOn, HaveAll, IsBeginning, IsHeld, first_node, media_over, media_under, medium_on, nodes_in}
use Rattle.cluster_disks.specs.Opened.{AreAllGivenBack, AreAllOpened, AreFresh, AreSmall, IsDiskIn}
use Rattle.cluster_disks.proofs.Beginning.{all_there, begun_flight, begun_list, mapped_at}
use Rattle.cluster_disks.proofs.HandedBack.{handed_one, held_as, held_same}
use Rattle.cluster_disks.proofs.KeptLists.{in_here}
use Rattle.cluster_disks.proofs.Lending.{IsSame, in_pushed, one_node, place_there, place_within}
use Rattle.cluster_disks.proofs.Nodes.{at_last, in_longer}

-- what stands at a place is mapped there
pub mapped_there : {A B : Type 0} (f : A → B) (xs : List A) (k : ℕ) (x : A) → slice_get xs k ≡ Some x → slice_get (map f xs) k ≡ Some (f x)
mapped_there f [] k x at = cc
mapped_there f (y ∷ xs) zero x at = (let same : y ≡ x = cc in ap (λ a. Some (f a)) same)
mapped_there f (y ∷ xs) (suc k) x at = mapped_there f xs k x at

-- ---- journals that are taken out of their places

module _ {D : Type 0} where
  pub none_taken : (journals : List (List (OnDisk D))) → AreTaken 0 journals journals
  none_taken journals = record { size = refl; taken = λ node lt. absurd (omega arith); left = λ node le. refl }

  pub one_taken : (count : ℕ) (journals rest new : List (List (OnDisk D))) → AreTaken count journals rest → length new ≡ length rest → slice_get new count ≡ Some []
      → ((k : ℕ) → k ≢ count → slice_get new k ≡ slice_get rest k) → AreTaken (count + 1) journals new
  one_taken count journals rest new before size put others = record {
    size = size ∙ before.size;
    taken = λ node lt. ⊎_elim
        (λ same. subst (λ (n : ℕ). slice_get new n ≡ Some []) (sym same) put)
        (λ other. others node other ∙ before.taken node (omega arith))
        (cases_eq node count);
    left = λ node le. others node (λ same. absurd (omega arith)) ∙ before.left node (omega arith);
  }

  -- the journals of a node were taken out and put back
  pub put_back : (count : ℕ) (journals rest out new : List (List (OnDisk D))) (own : List (OnDisk D)) → AreTaken count journals rest → slice_get rest count ≡ Some own
      → length out ≡ length rest → ((k : ℕ) → k ≢ count → slice_get out k ≡ slice_get rest k)
      → length new ≡ length out → slice_get new count ≡ Some own → ((k : ℕ) → k ≢ count → slice_get new k ≡ slice_get out k) → AreTaken count journals new
  put_back count journals rest out new own before at out_size out_others size put others = record {
    size = size ∙ out_size ∙ before.size;
    taken = λ node lt. same node ∙ before.taken node lt;
    left = λ node le. same node ∙ before.left node le;
  }
    where
      same : (node : ℕ) → slice_get new node ≡ slice_get rest node
      same node = ⊎_elim
          (λ is. subst (λ (n : ℕ). slice_get new n ≡ slice_get rest n) (sym is) (put ∙ sym at))
          (λ other. others node other ∙ out_others node other)
          (cases_eq node count)

  pub small_rest : (count : ℕ) (journals rest : List (List (OnDisk D))) → AreSmall journals → AreTaken count journals rest → AreSmall rest
  small_rest count journals rest small taken node own at = ⊎_elim
      (λ below. let none : [] ≡ own = (let e = sym (taken.taken node below) ∙ at in cc) in subst (λ (l : List (OnDisk D)). length l ≤ 8) none (omega arith))
      (λ behind. small node own (sym (taken.left node behind) ∙ at))
      (cases_lt node count)

  -- a disk of the rest is one of a later node
  pub in_rest : (count : ℕ) (journals rest : List (List (OnDisk D))) (number : ℕ) → AreTaken count journals rest → (is : IsDiskIn rest number) → count ≤ is.node
  in_rest count journals rest number taken is = ⊎_elim
      (λ below. absurd (
      let none : [] ≡ is.journals = (let e = sym (taken.taken is.node below) ∙ is.at in cc) in
      let size = ap (λ (l : List (OnDisk D)). length l) none in
      let lt = is.within in omega arith))
      (λ behind. behind)
      (cases_lt is.node count)

  pub rest_in : (config : Shape) (count : ℕ) (journals rest : List (List (OnDisk D))) (number : ℕ) → length journals ≡ nodes_of config → HaveAll config journals → AreTaken count journals rest
      → IsDiskIn rest number → IsDisk config number
  rest_in config count journals rest number all counts taken is =
      let behind = in_rest count journals rest number taken is in
      let at = sym (taken.left is.node behind) ∙ is.at in
      let lt = place_within journals is.node is.journals at in
      let size = counts is.node is.journals at in
      let inside = is.within in
      (is.node, omega arith, (is.segment, omega arith, is.number_is))

-- ---- the nodes

module _ {D : Type 0} (by : Disks D) (config : Shape) where
  abbrev pub state : OnDisk D → Journalled
  state journal = journal.journal

  -- the journals of a node hold what was copied from them
  pub begins : (run : ℕ) (journals : List (List (OnDisk D))) (number : ℕ) (own : List (OnDisk D)) → HaveAll config journals → AreSmall journals → AreFresh journals
      → IsSound config run (payloads_on (kept_in 0 journals)) → slice_get journals number ≡ Some own → IsBeginning state config (payloads_on (kept_in 0 journals)) number own
  begins run journals number own counts small fresh sound at = record {
    run = run;
    sound = sound;
    count = counts number own at;
    fresh = all_there (λ (j : OnDisk D). state j ≡ loaded (state j).payloads) own (λ k journal here. fresh number k own journal at here);
    lists = λ segment lt.
        let one = place_there own segment lt in
        ap (λ (s : Journalled). s.payloads) (mapped_at state own segment one.0 no_journal one.1)
        ∙ sym (in_here 0 number segment (disk_of number segment) journals own one.0 small at one.1 (ap (λ (n : ℕ). disk_of n segment) (let e : number ≡ 0 + number = omega arith in e)));
  }

  module _ {P : Type 0} where
    abbrev pub seen : Standing (OnDisk D) P → ClusterNode
    seen n = cluster_node state n

    pub none_made : (journals : List (List (OnDisk D))) → AreMade {P = P} by config journals []
    none_made journals = record {
      within = omega arith;
      seated = λ number node at. absurd (let lt = place_within [] number node at in omega arith);
      stand = λ number lt. absurd (omega arith);
      media = λ number node own at here. absurd (let lt = place_within [] number node at in omega arith);
    }

    stands_first : (kept : KeptLists) (node : Standing (OnDisk D) P) (number : ℕ) → node.config ≡ config → node.number ≡ number → state_of state node.part ≡ node_at_first config kept number
        → cluster_node state node ≡ record { config = config; number = number; state = node_at_first config kept number }
    stands_first kept node number config_is number_is state_is =
        ap (λ (c : Shape). let made : ClusterNode = record { config = c; number = node.number; state = state_of state node.part } in made) config_is
        ∙ ap (λ (n : ℕ). let made : ClusterNode = record { config = config; number = n; state = state_of state node.part } in made) number_is
        ∙ ap (λ (s : NodeState). let made : ClusterNode = record { config = config; number = number; state = s } in made) state_is

    pub one_made : (journals : List (List (OnDisk D))) (nodes : List (Standing (OnDisk D) P)) (node : Standing (OnDisk D) P) (own : List (OnDisk D))
        → AreMade by config journals nodes → slice_get journals (length nodes) ≡ Some own → node.config ≡ config → node.number ≡ length nodes
        → state_of state node.part ≡ node_at_first config (payloads_on (kept_in 0 journals)) (length nodes) → media_under by node ≡ media_over by own
        → AreMade by config journals (nodes ++ node ∷ [])
    one_made journals nodes node own before at config_is number_is state_is media_is = record {
      within = (let lt = place_within journals (length nodes) own at in let sum = length-append nodes (node ∷ []) in omega arith);
      seated = λ number one there. seated number one (in_pushed nodes node number one there);
      stand = λ number lt. subst (λ (ns : List ClusterNode). slice_get ns number ≡ Some (first_node config (kept_in 0 journals) number)) (sym pushed) (stand number lt);
      media = λ number one mine there here. media number one mine (in_pushed nodes node number one there) here;
    }
      where
        pushed : nodes_in (nodes ++ node ∷ []) ≡ nodes_in nodes ++ seen node ∷ []
        pushed = map-append seen nodes (node ∷ [])

        seated : (number : ℕ) (one : Standing (OnDisk D) P) → (slice_get nodes number ≡ Some one) ⊎ ((number ≡ length nodes) × (node ≡ one)) → (one.config ≡ config) × (one.number ≡ number)
        seated number one (inl was) = before.seated number one was
        seated number one (inr (is, last)) =
            (sym (ap (λ (n : Standing (OnDisk D) P). n.config) last) ∙ config_is, sym (ap (λ (n : Standing (OnDisk D) P). n.number) last) ∙ number_is ∙ sym is)

        stand : (number : ℕ) → number < length (nodes ++ node ∷ []) → slice_get (nodes_in nodes ++ seen node ∷ []) number ≡ Some (first_node config (kept_in 0 journals) number)
        stand number lt = ⊎_elim
            (λ below. in_longer (nodes_in nodes) (seen node) number (first_node config (kept_in 0 journals) number) (before.stand number below))
            (λ behind.
            let sum = length-append nodes (node ∷ []) in
            let same : length nodes ≡ number = omega arith in
            subst (λ (k : ℕ). slice_get (nodes_in nodes ++ seen node ∷ []) k ≡ Some (first_node config (kept_in 0 journals) k)) same
            (subst (λ (k : ℕ). slice_get (nodes_in nodes ++ seen node ∷ []) k ≡ Some (first_node config (kept_in 0 journals) (length nodes))) (length-map nodes seen)
            (at_last (nodes_in nodes) (seen node) ∙ ap (λ (n : ClusterNode). Some n) (stands_first (payloads_on (kept_in 0 journals)) node (length nodes) config_is number_is state_is))))
            (cases_lt number (length nodes))

        media : (number : ℕ) (one : Standing (OnDisk D) P) (mine : List (OnDisk D)) → (slice_get nodes number ≡ Some one) ⊎ ((number ≡ length nodes) × (node ≡ one))
            → slice_get journals number ≡ Some mine → media_under by one ≡ media_over by mine
        media number one mine (inl was) here = before.media number one mine was here
        media number one mine (inr (is, last)) here =
            let whose : own ≡ mine = (let e = sym at ∙ ap (λ (k : ℕ). slice_get journals k) (sym is) ∙ here in cc) in
            sym (ap (λ (n : Standing (OnDisk D) P). media_under by n) last) ∙ media_is ∙ ap (λ (js : List (OnDisk D)). media_over by js) whose

    -- what is told of the journals of nodes goes on from the disks
    pub stand_on : (old : ℕ → Lying D) (journals : List (List (OnDisk D))) (nodes : List (Standing (OnDisk D) P)) → AreAllOpened by config old journals → AreMade by config journals nodes
        → AreStanding by config old nodes
    stand_on old journals nodes opened made number segment node at lt =
        let below = place_within nodes number node at in
        let within = made.within in
        let own = place_there journals number (omega arith) in
        let size = opened.counts number own.0 own.1 in
        let one = place_there own.0 segment (omega arith) in
        let here = opened.each number own.0 own.1 segment one.0 one.1 in
        let told = ap (λ (ms : List Medium). medium_at ms segment) (made.media number node own.0 at own.1) ∙ mapped_at (λ (j : OnDisk D). medium_on by j) own.0 segment one.0 no_medium one.1 in
        subst (λ (m : Medium). GoesOn by (old (disk_of number segment)) m) (sym told) (record { count = here.count; keeps = here.keeps })

    -- ---- where not all could be made

    pub as_read : (run : ℕ) (journals rest : List (List (OnDisk D))) (nodes : List (Standing (OnDisk D) P)) (between new : ℕ → Lying D) → config.replicas ≤ 8
        → HaveAll config journals → AreSmall journals → AreFresh journals → IsSound config run (payloads_on (kept_in 0 journals))
        → AreMade by config journals nodes → AreTaken (length nodes) journals rest → AreAllOf by config nodes between
        → ((k : ℕ) → ¬ IsDiskIn rest k → IsSame (between k) (new k)) → AreAllGivenBack by rest new → AreAsRead by journals new
    as_read run journals rest nodes between new few counts small fresh sound made taken back same given n segment own journal at here =
        ⊎_elim first others (cases_lt n (length nodes))
      where
        inside : segment < length own
        inside = place_within own segment journal here

        within : length own ≤ 8
        within = small n own at

        others : length nodes ≤ n → IsHeld by journal.journal.payloads None (medium_on by journal) (new (disk_of n segment))
        others behind =
            handed_one by journal journal.journal.payloads None (medium_on by journal) (new (disk_of n segment)) refl
            (λ bytes. ap (λ (s : Journalled). s.flight) (fresh n segment own journal at here)) refl
            (given n own (taken.left n behind ∙ at) segment journal here)

        apart : n < length nodes → IsDiskIn rest (disk_of n segment) → ⊥
        apart below is =
            let mine = inside in
            let eight = within in
            let behind = in_rest (length nodes) journals rest (disk_of n segment) taken is in
            let few_there = small_rest (length nodes) journals rest small taken is.node is.journals is.at in
            let lt = is.within in
            let one = one_node n is.node segment is.segment (omega arith) (omega arith) is.number_is in omega arith

        first : n < length nodes → IsHeld by journal.journal.payloads None (medium_on by journal) (new (disk_of n segment))
        first below =
            let mine = inside in
            let eight = within in
            let node = place_there nodes n below in
            let size = counts n own at in
            let stood : cluster_node state node.0 ≡ first_node config (kept_in 0 journals) n =
            (let e = sym (mapped_there (λ (x : Standing (OnDisk D) P). cluster_node state x) nodes n node.0 node.1) ∙ made.stand n below in cc) in
            let stands = ap (λ (c : ClusterNode). c.state) stood in
            let list = ap (λ (s : NodeState). payloads_of s segment) stands
            ∙ begun_list config run (payloads_on (kept_in 0 journals)) n segment (role_at config n) sound (omega arith) (omega arith) refl
            ∙ in_here 0 n segment (disk_of n segment) journals own journal small at here (ap (λ (k : ℕ). disk_of k segment) (let e : n ≡ 0 + n = omega arith in e)) in
            let flight = ap (λ (s : NodeState). payload_in_flight s segment) stands ∙ begun_flight config (payloads_on (kept_in 0 journals)) n segment (role_at config n) in
            let told = ap (λ (ms : List Medium). medium_at ms segment) (made.media n node.0 own node.1 at) ∙ mapped_at (λ (j : OnDisk D). medium_on by j) own segment journal no_medium here in
            held_as by _ journal.journal.payloads _ None _ (medium_on by journal) (new (disk_of n segment)) list flight told
            (held_same by _ _ _ (between (disk_of n segment)) (new (disk_of n segment)) (same (disk_of n segment) (apart below)) (back n node.0 node.1 segment (omega arith)))
