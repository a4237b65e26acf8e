-- How a run begins, and what is so of it at its end.
use Rattle.std.proofs.Common.{◌≡◌, ◌<◌, ℕ, zero, suc, List, [], ◌∷◌, ◌++◌, length, map, take, drop, length-drop, get_or, Option, Some, None, slice_get, refl, sym, ap, subst, inl, inr, arith, ◌∙◌}
use Rattle.std.specs.Prelude.{slice_index}
use Rattle.std.specs.Option.{option_map}
use Rattle.std.proofs.Math.Seq.{take-append_seam}
use Rattle.std.proofs.lemmas.Bool.{cases_eq}
use Rattle.std.proofs.lemmas.Option.{get_or_from_slice_get, same_Some, slice_get-map, slice_get_within}
use Rattle.core_step.specs.Known.{known_chain, known_count}
use Rattle.history_frame.specs.declared.events.Event.{Event}
use Rattle.log_base.specs.ClusterShape.{InRange, Shape}
use Rattle.node_model.specs.Machine.{ClusterNode}
use Rattle.node_table.specs.Numbering.{nodes_of}
use Rattle.shard_replica.specs.Lists.{Medium}
use Rattle.quiet_run.specs.declared.outcomes.DriveStop.{DriveStop}
use Rattle.quiet_run.specs.declared.running.Running.{Running}
use Rattle.counted_node.specs.Causes.{HaveCauses}
use Rattle.quiet_run.specs.Limits.{known_by, limit_passed}
use Rattle.quiet_run.specs.Running.{CausesGoOn, HasGoneOn, IsBeginning, IsOnItsWay, IsUnderWay, StopsWith, job_of, scheduled_in}
use Rattle.quiet_run.specs.Runs.{IsKnownAtMost, IsRunSoFar, IsStoppedWith, IsWithinLimits, KnowsMost, NoLimitBefore, count_in}
use Rattle.quiet_run.specs.Standing.{IsJob, Job, StandAfter, node_of}
use Rattle.counted_node.proofs.Failures.{no_causes}

module _ (job : Job) (nodes : List ClusterNode) (is_job : IsJob job) (stand : StandAfter job [] nodes) where
  pub at_first_so_far : IsRunSoFar job [] nodes
  at_first_so_far = record {
    legal = record { config_in_range = is_job.is_run.in_range; sound = is_job.sound; follow = tt };
    followed = tt;
    spelled = tt;
    stand = stand;
  }

  at_first_way : IsOnItsWay job [] 0 nodes
  at_first_way = record { is_job = is_job; so_far = at_first_so_far; no_limit = λ count low. absurd (omega arith); counted = refl }

  pub under_way_at_first : (running : Running) → IsBeginning job running → IsUnderWay job running nodes
  under_way_at_first running begins = record {
    job_is = begins.job_is;
    way = subst (λ (x : List Event × ℕ). IsOnItsWay job x.0 x.1 nodes) (λ i. (sym begins.events_are i, sym begins.bytes_are i)) at_first_way;
    scheduled = begins.scheduled ∙ ap (scheduled_in job) (sym begins.events_are);
  }

-- a run that went on is under way
pub under_way_on : (job : Job) (old new : Running) (nodes : List ClusterNode) → job_of old ≡ job → HasGoneOn old new nodes → IsUnderWay job new nodes
under_way_on job old new nodes is gone =
    let same : job_of new ≡ job = gone.job_stays ∙ is in
    record {
      job_is = same;
      way = subst (λ (j : Job). IsOnItsWay j new.events.items new.bytes nodes) same gone.way;
      scheduled = gone.scheduled ∙ ap (λ (j : Job). scheduled_in j new.events.items) same;
    }

-- ---- the causes of failures, from the beginning on

module _ (job : Job) (running : Running) (begins : IsBeginning job running) (told new : List (List Medium)) where
  none_yet : HaveCauses (job_of running).config running.events.items told told
  none_yet = subst (λ (es : List Event). HaveCauses (job_of running).config es told told) (sym begins.events_are) (no_causes (job_of running).config told)

  pub causes_from_first : (events : List Event) → CausesGoOn (job_of running).config running.events.items events told new → HaveCauses job.config events told new
  causes_from_first events on = subst (λ (j : Job). HaveCauses j.config events told new) begins.job_is (on told none_yet)

  pub stopped_from_first : (nodes : List ClusterNode) (stop : DriveStop) → StopsWith (job_of running) running.events.items nodes told new stop → IsStoppedWith job nodes told new stop
  stopped_from_first nodes stop on = subst (λ (j : Job). IsStoppedWith j nodes told new stop) begins.job_is (on told none_yet)

-- the causes after one turn more
pub causes_then : (job : Job) (running : Running) (earlier later : List Event) (first old new : List (List Medium)) → job_of running ≡ job → CausesGoOn job.config earlier running.events.items first old
    → CausesGoOn (job_of running).config running.events.items later old new → CausesGoOn job.config earlier later first new
causes_then job running earlier later first old new is before after at_first h =
    subst (λ (j : Job). HaveCauses j.config later at_first new) is
    (after at_first (subst (λ (j : Job). HaveCauses j.config running.events.items at_first old) (sym is) (before at_first h)))

pub stopped_then : (job : Job) (running : Running) (earlier : List Event) (nodes : List ClusterNode) (first old new : List (List Medium)) (stop : DriveStop) → job_of running ≡ job
    → CausesGoOn job.config earlier running.events.items first old → StopsWith (job_of running) running.events.items nodes old new stop → StopsWith job earlier nodes first new stop
stopped_then job running earlier nodes first old new stop is before after at_first h =
    subst (λ (j : Job). IsStoppedWith j nodes at_first new stop) is
    (after at_first (subst (λ (j : Job). HaveCauses j.config running.events.items at_first old) (sym is) (before at_first h)))

-- no limit was passed at any moment
take_whole : {A : Type 0} (xs : List A) → take (length xs) xs ≡ xs
take_whole [] = refl
take_whole (x ∷ xs) = ap (λ (l : List _). x ∷ l) (take_whole xs)

pub within_limits : (job : Job) (events : List Event) → NoLimitBefore job events → limit_passed job events ≡ None → IsWithinLimits job events
within_limits job events before here count low = elim (cases_eq count (length events)) [
  | inl same ↦ ap (limit_passed job) (ap (λ (n : ℕ). take n events) same ∙ take_whole events) ∙ here
  | inr other ↦ before count (omega arith)
]

-- ---- what the nodes know

-- counts of nodes that stand after events
counts_are : (job : Job) (events : List Event) (nodes : List ClusterNode) → StandAfter job events nodes → (k : ℕ) → k < nodes_of job.config
    → slice_index (map count_in nodes) k ≡ known_by job events k
counts_are job events nodes stand k below =
    get_or_from_slice_get (map count_in nodes) k (known_by job events k) 0
    (slice_get-map count_in nodes k ∙ ap (λ (o : Option ClusterNode). option_map count_in o) (stand.each k below))

pub most_is_known : (job : Job) (events : List Event) (nodes : List ClusterNode) (known end mark : ℕ) → StandAfter job events nodes → KnowsMost nodes known end mark
    → IsKnownAtMost job events known end mark
most_is_known job events nodes known end mark stand knows =
    let inside = slice_get_within nodes knows.number knows.node knows.at in
    let below : knows.number < nodes_of job.config = omega (arith, inside, stand.all) in
    let is : knows.node ≡ node_of job events knows.number = same_Some _ _ (sym knows.at ∙ stand.each knows.number below) in
    let own = counts_are job events nodes stand knows.number below in
    record {
      number = knows.number;
      node = record {
        within = below;
        most = λ other low. let c = counts_are job events nodes stand other low in let m = knows.most other (omega (arith, low, stand.all)) in omega (arith, c, m, own);
        first = λ other low.
            let c = counts_are job events nodes stand other (omega (arith, low, below)) in let m = knows.first other low in omega (arith, c, m, own);
      };
      known_is = knows.known_is ∙ ap count_in is;
      end_is = knows.end_is ∙ ap (λ (n : ClusterNode). (known_chain n.config n.state).end) is;
      mark_is = knows.mark_is ∙ ap (λ (n : ClusterNode). (known_chain n.config n.state).mark) is;
    }

-- the counts of nodes, by their states
pub counts_by : {A : Type 0} (state : A → ClusterNode) (nodes : List A) → map (λ (node : A). known_count (state node).state) nodes ≡ map count_in (map state nodes)
counts_by state [] = refl
counts_by state (node ∷ nodes) = ap (λ (l : List ℕ). known_count (state node).state ∷ l) (counts_by state nodes)

-- an element of a list that is mapped
pub mapped_at : {A : Type 0} (state : A → ClusterNode) (nodes : List A) (i : ℕ) (node : A) → i < length nodes → node ≡ get_or nodes i node
    → slice_get (map state nodes) i ≡ Some (state node)
mapped_at state [] i node h e = absurd (omega arith)
mapped_at state (x ∷ nodes) zero node h e = ap (λ n. Some (state n)) (sym e)
mapped_at state (x ∷ nodes) (suc i) node h e = mapped_at state nodes i node (omega arith) e

-- a cluster has nodes
pub nodes_some : (config : Shape) → InRange config → 0 < nodes_of config
nodes_some config range = let some = range.gatherers in omega (arith, some)

-- a vector of which all elements were lent has what came back
pub lent_whole : {A : Type 0} (count : ℕ) (new old : List A) → length new ≡ length old → count ≡ length old → take count (new ++ drop (length new) old) ≡ new
lent_whole count new old same all =
    let none : length (drop (length new) old) ≡ 0 = omega (arith, length-drop (length new) old) in
    let long : count ≡ length new = omega (arith, same, all) in
    ap (λ (n : ℕ). take n (new ++ drop (length new) old)) long ∙ take-append_seam new (drop (length new) old)
