-- Plans that are handed to disks: no count of faults rises, and the causes of failures go on.
use Rattle.std.proofs.Common.{◌≡◌, ◌≢◌, false, ◌<◌, ℕ, zero, suc, List, [], ◌∷◌, ◌++◌, length, get_or, map, slice_get, take, Option, Some, None, refl, sym, ap, subst, inl, inr, arith, ◌∙◌}
use Rattle.std.specs.List.{AllByRecursion}
use Rattle.std.specs.Prelude.{IsSomeAnd}
use Rattle.std.proofs.Math.ListN.{set}
use Rattle.std.proofs.lemmas.Bool.{cases_eq}
use Rattle.disk_base.specs.declared.disk.Plan.{Plan}
use Rattle.history_frame.specs.declared.events.Event.{Event}
use Rattle.log_base.specs.ClusterShape.{Shape}
use Rattle.node_table.specs.Numbering.{nodes_of}
use Rattle.node_model.specs.Durable.{payload_in_flight}
use Rattle.node_model.specs.Machine.{ClusterNode}
use Rattle.segment_journal.specs.Journalled.{planned}
use Rattle.schedule_model.specs.declared.duties.Planned.{Planned}
use Rattle.schedule_model.specs.declared.turns.Turn.{Turn}
use Rattle.schedule_model.specs.Calling.{IsPlanned}
use Rattle.schedule_model.specs.Driven.{next_plans_after, next_turn_after}
use Rattle.shard_replica.specs.Lists.{Medium, but_turns, medium_at}
use Rattle.storage_node.specs.Counting.{CountsOn}
use Rattle.quiet_run.specs.declared.outcomes.DriveStop.{DriveStop}
use Rattle.counted_node.specs.Causes.{AllCountOn, media_at}
use Rattle.quiet_run.specs.Planning.{AreHandedOver, IsHandedTo, TurnBy}
use Rattle.quiet_run.specs.Running.{CausesGoOn, StopsWith, TakesPlannedTurn}
use Rattle.quiet_run.specs.Standing.{Job}
use Rattle.quiet_run.proofs.Causing.{elsewhere, here_after, here_before}
use Rattle.counted_node.proofs.Failures.{all_same, causes_later}
use Rattle.counted_node.proofs.Rises.{counts_same, counts_then}

-- ---- whom plans are for

-- past the last plan
abbrev pub no_plan : Planned
no_plan = record { node = record { 0 = 0 }; plan = record { after = 0; keep = 0; lose = false } }

pub among_at : (nodes : ℕ) (plans : List Planned) (at : ℕ) (d : Planned) → at < length plans → AllByRecursion (λ (p : Planned). p.node.0 < nodes) plans
    → (get_or plans at d).node.0 < nodes
among_at nodes [] at d low all = absurd (omega arith)
among_at nodes (first ∷ plans) zero d low all = all.0
among_at nodes (first ∷ plans) (suc at) d low all = among_at nodes plans at d (omega arith) all.1

pub among_all : (config : Shape) (nodes : ℕ) (plans : List Planned) → nodes ≡ nodes_of config → AllByRecursion (IsPlanned config) plans
    → AllByRecursion (λ (p : Planned). p.node.0 < nodes) plans
among_all config nodes [] same all = tt
among_all config nodes (first ∷ plans) same all = (let low = all.0.0 in omega (arith, low, same), among_all config nodes plans same all.1)

-- ---- one plan

-- no count rises where only the next turns of journals change
turns_count : (old new : List Medium) → map but_turns new ≡ map but_turns old → CountsOn old new
turns_count old new same = record {
  later = λ k. let e = ap (λ (m : Medium). m.faults) (same_at k) in omega (arith, e);
  keeps_synced = λ k. ap (λ (m : Medium). m.keeps_synced) (same_at k);
}
  where
    at_or : (media : List Medium) (k : ℕ) → but_turns (medium_at media k) ≡ medium_at (map but_turns media) k
    at_or [] k = refl
    at_or (medium ∷ media) zero = refl
    at_or (medium ∷ media) (suc k) = at_or media k

    same_at : (k : ℕ) → but_turns (medium_at new k) ≡ but_turns (medium_at old k)
    same_at k = at_or new k ∙ ap (λ (media : List Medium). medium_at media k) same ∙ sym (at_or old k)

handed_to_counts : (number : ℕ) (plan : Plan) (nodes : List ClusterNode) (old new : List (List Medium)) → IsHandedTo number plan nodes old new → AllCountOn old new
handed_to_counts number plan nodes old new handed other = elim (cases_eq other number) [
  | inl same ↦
      subst (λ (n : ℕ). CountsOn (media_at old n) (media_at new n)) (sym same) (turns_count (media_at old number) (media_at new number) handed.here.same)
  | inr apart ↦ subst (CountsOn (media_at old other)) (sym (handed.others other apart)) (counts_same (media_at old other))
]

-- a plan is handed to the node of this number among others
pub handed_here : {A : Type 0} (told : A → List Medium) (state : A → ClusterNode) (nodes : List A) (n : ℕ) (d : A) (within : n < length nodes) (new : A) (plan : Plan)
    → slice_get (map state nodes) n ≡ Some (state (get_or nodes n d))
    → map but_turns (told new) ≡ map but_turns (told (get_or nodes n d))
    → ((k : ℕ) → (medium_at (told new) k).turns ≡ planned (payload_in_flight (state (get_or nodes n d)).state k) plan (medium_at (told (get_or nodes n d)) k).turns)
    → IsHandedTo n plan (map state nodes) (map told nodes) (map told (set nodes n new))
handed_here told state nodes n d within new plan at same turns = record {
  node = state (get_or nodes n d);
  at = at;
  here =
      subst (λ (x : List Medium × List Medium). TurnBy plan (state (get_or nodes n d)).state x.0 x.1)
      (λ i. (sym (here_before told nodes n d within) i, sym (here_after told nodes n d within new) i))
      (record { same = same; turns = turns });
  others = elsewhere told nodes n d within new;
}

-- ---- plans, one after another

pub handed_counts : (plans : List Planned) (nodes : List ClusterNode) (old new : List (List Medium)) → AreHandedOver plans nodes old new → AllCountOn old new
handed_counts [] nodes old new same = subst (AllCountOn old) (sym same) (all_same old)
handed_counts (first ∷ plans) nodes old new handed = λ number.
    counts_then (media_at old number) (media_at handed.0 number) (media_at new number)
    (handed_to_counts first.node.0 first.plan nodes old handed.0 handed.1 number)
    (handed_counts plans nodes handed.0 new handed.2 number)

handed_push : (plans : List Planned) (one : Planned) (nodes : List ClusterNode) (old between new : List (List Medium)) → AreHandedOver plans nodes old between
    → IsHandedTo one.node.0 one.plan nodes between new → AreHandedOver (plans ++ one ∷ []) nodes old new
handed_push [] one nodes old between new same handed = (new, subst (λ (m : List (List Medium)). IsHandedTo one.node.0 one.plan nodes m new) same handed, refl)
handed_push (first ∷ plans) one nodes old between new before handed = (before.0, before.1, handed_push plans one nodes before.0 between new before.2 handed)

take_more : (plans : List Planned) (at : ℕ) (d : Planned) → at < length plans → take (suc at) plans ≡ take at plans ++ get_or plans at d ∷ []
take_more [] at d low = absurd (omega arith)
take_more (first ∷ plans) zero d low = refl
take_more (first ∷ plans) (suc at) d low = ap (λ (l : List Planned). first ∷ l) (take_more plans at d (omega arith))

pub handed_more : (plans : List Planned) (at : ℕ) (d : Planned) (nodes : List ClusterNode) (old between new : List (List Medium)) → at < length plans
    → AreHandedOver (take at plans) nodes old between → IsHandedTo (get_or plans at d).node.0 (get_or plans at d).plan nodes between new
    → AreHandedOver (take (suc at) plans) nodes old new
handed_more plans at d nodes old between new low before handed =
    subst (λ (l : List Planned). AreHandedOver l nodes old new) (sym (take_more plans at d low)) (handed_push (take at plans) (get_or plans at d) nodes old between new before handed)

-- ---- causes

pub causes_from : (config : Shape) (earlier later : List Event) (old between new : List (List Medium)) → AllCountOn old between
    → CausesGoOn config earlier later between new → CausesGoOn config earlier later old new
causes_from config earlier later old between new counts goes first h = goes first (causes_later config earlier first old between counts h)

pub stops_from : (job : Job) (events : List Event) (nodes : List ClusterNode) (old between new : List (List Medium)) (stop : DriveStop) → AllCountOn old between
    → StopsWith job events nodes between new stop → StopsWith job events nodes old new stop
stops_from job events nodes old between new stop counts stops first h = stops first (causes_later job.config events first old between counts h)

-- ---- a turn behind its plans

pub planned_turn : (job : Job) (events : List Event) (nodes : List ClusterNode) (old told new : List (List Medium)) (next : Option Turn)
    → next ≡ next_turn_after job.config job.run job.items events → AreHandedOver (next_plans_after job.config job.run job.items events) nodes old told
    → IsSomeAnd next (λ turn. (other : ℕ) → other ≢ turn.node.0 → media_at new other ≡ media_at told other) → TakesPlannedTurn job events nodes old new
planned_turn job events nodes old told new None comes handed others = absurd others
planned_turn job events nodes old told new (Some turn) comes handed others = record { turn = turn; comes = sym comes; told = told; planned = handed; others = others }
