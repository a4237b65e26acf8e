use Rattle.std.proofs.Common.{◌≡◌, ℕ, Bool, true, List, Some, ap, subst, ◌∙◌}
use Rattle.disk_base.specs.declared.disk.Plan.{Plan}
use Rattle.history_frame.specs.declared.inputs.Mark.{Mark}
use Rattle.node_table.specs.Numbering.{role_at}
use Rattle.node_table.proofs.Roles.{role_at-is}
use Rattle.node_model.specs.Durable.{payload_in_flight}
use Rattle.node_model.specs.Machine.{ClusterNode}
use Rattle.segment_journal.specs.Journalled.{Turns, planned}
use Rattle.shard_replica.specs.Lists.{Medium, medium_at}
use Rattle.shard_replica.specs.Telling.{AreTold}
use Rattle.core_step.specs.Disks.{journals_of, media_in, segment_put, start_mark, told_mark}
use Rattle.core_step.specs.Standing.{cluster_node}
use Rattle.history_walk.specs.Beginning.{MemoryNode, journal_in, state_in}
use Rattle.history_walk.specs.InMemory.{InMemory}
use Rattle.history_walk.specs.Planning.{mark_plan}
use Rattle.history_walk.proofs.Marked.{TurnBy, mark_is, size_is, turn_by}
use Rattle.history_walk.proofs.Puts.{put_within}
use Rattle.history_walk.proofs.stepping.step.Goals as goal

abbrev faults_in : InMemory → ℕ
faults_in memory = memory.faults

abbrev keeps_in : InMemory → Bool
keeps_in memory = true

abbrev turns_in : InMemory → Turns
turns_in memory = memory.turns

abbrev media_of_node : MemoryNode → List Medium
media_of_node node = media_in journal_in faults_in keeps_in (λ memory. Some (turns_in memory)) node.part

pub returns-clause-mark : goal.returns-clause-mark
returns-clause-mark c other e =
    let node : MemoryNode = c.args.node.now in
    let planned_node : MemoryNode = c.plan.new.self in
    let ready_node : MemoryNode = c.ready.new.self in
    let same : cluster_node journal_in ready_node ≡ cluster_node journal_in node =
    c.ready.ensures.same ∙ (λ i. record { config = c.plan.ensures.config i; number = c.plan.ensures.number i; state = c.plan.ensures.state i }) in
    let told : AreTold journal_in faults_in keeps_in (λ memory. Some (turns_in memory)) (journals_of node.config (role_at node.config node.number)) (media_of_node planned_node) =
    subst (λ (x : ℕ). AreTold journal_in faults_in keeps_in (λ memory. Some (turns_in memory)) x (media_of_node planned_node))
    (λ i. journals_of (c.plan.ensures.config i) (role_at (c.plan.ensures.config i) (c.plan.ensures.number i))) c.tell.ensures in
    let each : TurnBy (payload_in_flight (state_in node)) (mark_plan c.args.mark) (media_of_node planned_node) =
    turn_by journal_in faults_in keeps_in turns_in (journals_of node.config (role_at node.config node.number)) (media_of_node planned_node) told
    (payload_in_flight (state_in node)) (mark_plan c.args.mark) (media_of_node node)
    (λ k. c.plan.ensures.turns k ∙ ap (λ (p : Plan). planned (payload_in_flight (state_in node) k) p (medium_at (media_of_node node) k).turns) c.plan_of.ensures) in
    mark_is node.config (role_at node.config node.number) (state_in node) c.args.input.now c.args.mark other (media_of_node planned_node) (media_of_node ready_node)
    (start_mark journal_in ready_node.part) c.act.result.mark e
    (size_is journal_in faults_in keeps_in turns_in (journals_of node.config (role_at node.config node.number)) (media_of_node planned_node) told)
    c.requires.in_range.some_replica c.requires.flown
    (put_within node.config (role_at node.config node.number) (state_in node) c.args.input.now (role_at-is node.config node.number c.requires.in_range c.requires.number).0 c.requires.fits.allowed.range)
    each (λ not. c.ready.ensures.turns not) (λ restart. c.in_ok-ready.ensures.opening restart)
    (λ not. subst (λ (n : ClusterNode). (o : Mark) → told_mark (media_of_node ready_node) (segment_put n.config (role_at n.config n.number) n.state c.args.input.now) ≡ Some o → c.act.result.mark ≡ o) same (c.act.ensures.told not))
    c.act.ensures.opened
