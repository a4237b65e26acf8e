-- What is told of the journals of nodes is told of their disks.
use Rattle.std.proofs.Common.{◌≡◌, inl, inr, ℕ, zero, suc, ◌<◌, ◌≤◌, Bool, true, false, List, [], ◌∷◌, map, Option, Some, None, refl, sym, ap, subst, arith}
use Rattle.std.specs.Prelude.{IfSome, IsSomeAnd, IsTrue, slice_get}
use Rattle.core_step.specs.Disks.{journals_of}
use Rattle.core_step.specs.Standing.{Standing}
use Rattle.history_frame.specs.declared.events.Event.{Event}
use Rattle.log_base.specs.ClusterShape.{Shape}
use Rattle.node_table.specs.declared.role.Role.{Role}
use Rattle.node_table.specs.declared.role.Role.TheVariants.{Storage, Gatherer, Orderer}
use Rattle.node_table.specs.Numbering.{disk_of, nodes_of, role_at}
use Rattle.segment_journal.specs.OnDisk.{OnDisk}
use Rattle.shard_replica.specs.Lists.{Medium, medium_at}
use Rattle.cluster_disks.specs.Lent.{Disks, Lying, disks_at, disks_in}
use Rattle.cluster_disks.specs.Nodes.{AreAllOf, AreStanding, GoesOn, media_under}
use Rattle.counted_node.specs.Causes.{AllKeep, BeginWithStarts, HaveCauses, IsCounted, NoneRose, StartsAreClean, failures, journals_at, media_at, rise}
use Rattle.scalog_run.specs.Causes.{DisksKeep, HasCauses, IsOpening, IsRisen, NoDiskRose, disk_rise}

-- a node has as many journals as disks
role_journals : (config : Shape) (role : Role) → journals_of config role ≡ disks_in config role
role_journals config (Storage shard replica) = refl
role_journals config (Gatherer index) = refl
role_journals config (Orderer index) = refl

pub node_journals : (config : Shape) (number : ℕ) → journals_at config number ≡ disks_at config number
node_journals config number = role_journals config (role_at config number)

module _ {D : Type 0} (by : Disks D) where
  -- The first journals of a node went on from the disks that lay there, and these lie there again with their counts.
  pub record WentOver (old new : ℕ → Lying D) (before after : List Medium) (node count : ℕ) : Type 0 where
    pub from : (segment : ℕ) → segment < count → GoesOn by (old (disk_of node segment)) (medium_at before segment)
    pub to : (segment : ℕ) → segment < count → (new (disk_of node segment)).disk_faults ≡ (medium_at after segment).faults

  fewer : (old new : ℕ → Lying D) (before after : List Medium) (node count : ℕ) → WentOver old new before after node (suc count) → WentOver old new before after node count
  fewer old new before after node count went = record { from = λ segment lt. went.from segment (omega arith); to = λ segment lt. went.to segment (omega arith) }

  -- the counts of the disks rose by as much at least
  rise_up : (old new : ℕ → Lying D) (before after : List Medium) (node count : ℕ) → WentOver old new before after node count → rise before after count ≤ disk_rise old new node count
  rise_up old new before after node zero went = omega arith
  rise_up old new before after node (suc count) went =
      let less = rise_up old new before after node count (fewer old new before after node count went) in
      let from = (went.from count (omega arith)).count in
      let to = went.to count (omega arith) in
      omega (arith, less, from, to)

  keeps_on : (told : Option D) (keeps : Bool) → IfSome told (λ before. keeps ≡ by.keeps_synced before) → IsSomeAnd told (λ disk. IsTrue (by.keeps_synced disk)) → IsTrue keeps
  keeps_on None keeps same keep = absurd keep
  keeps_on (Some disk) keeps same keep = subst IsTrue (sym same) keep

  module _ (config : Shape) (old new : ℕ → Lying D) (before after : List Medium) (node : ℕ) (went : WentOver old new before after node (disks_at config node)) where
    pub risen : (events : ℕ) → IsCounted before after (journals_at config node) events → IsRisen config old new node events
    risen events counted = by_count (subst (λ (n : ℕ). IsCounted before after n events) (node_journals config node) counted)
      where
        by_count : IsCounted before after (disks_at config node) events → IsRisen config old new node events
        by_count (inl few) = inl (let more = rise_up old new before after node (disks_at config node) went in omega (arith, few, more))
        by_count (inr last) = inr (last.0, last.1, (let to = went.to last.0 last.1 in let at = last.2 in omega arith))

    pub keep : DisksKeep by old node (disks_at config node) → AllKeep before (journals_at config node)
    keep keep_all = subst (AllKeep before) (sym (node_journals config node))
        (λ segment lt. keeps_on (old (disk_of node segment)).disk (medium_at before segment).keeps_synced (went.from segment lt).keeps (keep_all segment lt))

    pub none_rose : NoDiskRose old new node (disks_at config node) → NoneRose before after (journals_at config node)
    none_rose none = subst (NoneRose before after) (sym (node_journals config node)) (λ segment lt rose. none segment lt
        (let from = (went.from segment lt).count in let to = went.to segment lt in omega arith))

  -- the journals of each node did
  abbrev pub AllWentOver : Shape → (ℕ → Lying D) → (ℕ → Lying D) → List (List Medium) → List (List Medium) → Type 0
  AllWentOver config old new before after =
      (number : ℕ) → number < nodes_of config → WentOver old new (media_at before number) (media_at after number) number (disks_at config number)

  -- what events show of the journals of nodes they show of the disks
  pub disk_causes : (config : Shape) (events : List Event) (old new : ℕ → Lying D) (before after : List (List Medium)) → AllWentOver config old new before after
      → HaveCauses config events before after → HasCauses by config events old new
  disk_causes config events old new before after went causes = record {
    halted = λ number within. risen config old new (media_at before number) (media_at after number) number (went number within) (failures false number events) (causes.halted number within);
    stayed = λ number within keep_all. risen config old new (media_at before number) (media_at after number) number (went number within) (failures true number events)
        (causes.stayed number within (keep config old new (media_at before number) (media_at after number) number (went number within) keep_all));
  }

  pub disk_opening : (config : Shape) (events : List Event) (old new : ℕ → Lying D) (before after : List (List Medium)) → AllWentOver config old new before after
      → BeginWithStarts config events → StartsAreClean config events before after → IsOpening by config events old new
  disk_opening config events old new before after went starts clean = record {
    starts = starts;
    clean = λ number event within keep_all none. clean number event within
        (keep config old new (media_at before number) (media_at after number) number (went number within) keep_all)
        (none_rose config old new (media_at before number) (media_at after number) number (went number within) none);
  }

-- ---- nodes

-- what is told of the journals of a node is its part of what is told of all
pub media_there : {X : Type 0} (told : X → List Medium) (nodes : List X) (number : ℕ) (node : X) → slice_get nodes number ≡ Some node → media_at (map told nodes) number ≡ told node
media_there told [] number node at = cc
media_there {X} told (first ∷ nodes) zero node at = let same : first ≡ node = cc in ap told same
media_there told (first ∷ nodes) (suc number) node at = media_there told nodes number node at

module _ {D P : Type 0} (by : Disks D) where
  -- what is told of the journals of nodes
  abbrev pub told_in : List (Standing (OnDisk D) P) → List (List Medium)
  told_in nodes = map (λ (n : Standing (OnDisk D) P). media_under by n) nodes

  -- there is a node of each number
  abbrev pub AreAll : Shape → List (Standing (OnDisk D) P) → Type 0
  AreAll config nodes = (number : ℕ) → number < nodes_of config → (node : Standing (OnDisk D) P) × (slice_get nodes number ≡ Some node)

  pub went_over : (config : Shape) (old new : ℕ → Lying D) (before after : List (Standing (OnDisk D) P)) → AreAll config before → AreAll config after
      → AreStanding by config old before → AreAllOf by config after new → AllWentOver by config old new (told_in before) (told_in after)
  went_over config old new before after first second standing back number within =
      let one = first number within in
      let two = second number within in
      record {
        from = λ segment lt. subst (λ (media : List Medium). GoesOn by (old (disk_of number segment)) (medium_at media segment))
            (sym (media_there (λ (n : Standing (OnDisk D) P). media_under by n) before number one.0 one.1)) (standing number segment one.0 one.1 lt);
        to = λ segment lt. subst (λ (media : List Medium). (new (disk_of number segment)).disk_faults ≡ (medium_at media segment).faults)
            (sym (media_there (λ (n : Standing (OnDisk D) P). media_under by n) after number two.0 two.1)) (back number two.0 two.1 segment lt).count;
      }
