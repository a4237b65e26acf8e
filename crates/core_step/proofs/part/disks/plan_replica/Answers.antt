use Rattle.std.proofs.Common.{ℕ, ◌∙◌, ap, List, Option}
use Rattle.segment_journal.specs.Journalled.{planned}
use Rattle.shard_replica.specs.Lists.{medium_at}
use Rattle.core_step.proofs.Flights.{replica_flight}
use Rattle.core_step.proofs.Roles.{storage_same}
use Rattle.core_step.proofs.part.disks.plan_replica.Goals as goal

pub returns-clause-state : goal.returns-clause-state
returns-clause-state g c = storage_same c.args.node.now c.plan.new.self c.plan.ensures.state c.plan.ensures.mode

pub returns-clause-turns : goal.returns-clause-turns
returns-clause-turns g c = λ k.
    let old = c.args.node.now in
    c.plan.ensures.turns k
    ∙ ap (λ (o : Option (List ℕ)). planned o c.args.plan (medium_at old.replica.media k).turns) (replica_flight old.mode old.replica.state old.ticks k c.plan.ensures.rests)
