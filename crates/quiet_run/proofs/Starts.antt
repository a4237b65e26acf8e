-- How a run starts its nodes.
use Rattle.std.proofs.Common.{◌≡◌, ◌<◌, ◌≤◌, ℕ, zero, suc, List, [], ◌∷◌, length, slice_get, Some, refl, arith}
use Rattle.history_frame.specs.declared.events.Event.{Event}
use Rattle.node_table.specs.Numbering.{nodes_of}
use Rattle.node_model.specs.Legal.{IsLegal}
use Rattle.schedule_model.specs.Driven.{IsFollowed}
use Rattle.schedule_model.proofs.Starting.{first_starts}
use Rattle.shard_replica.specs.Lists.{Medium}
use Rattle.counted_node.specs.Causes.{BeginWithStarts, HaveCauses, StartsAreClean}
use Rattle.counted_node.proofs.Starts.{starts_are_clean as clean_starts}
use Rattle.quiet_run.specs.Standing.{Job}

got : (events : List Event) (k : ℕ) → k < length events → (event : Event) × (slice_get events k ≡ Some event)
got [] k low = absurd (omega arith)
got (first ∷ events) zero low = (first, refl)
got (first ∷ events) (suc k) low = got events k (omega arith)

module _ (job : Job) (events : List Event) (legal : IsLegal job.config job.run job.kept events) (follow : IsFollowed job.config job.run job.items events) where
  pub begin_with_starts : nodes_of job.config ≤ length events → BeginWithStarts job.config events
  begin_with_starts all number low =
      let at = got events number (omega (arith, low, all)) in
      let start = first_starts job.config job.run job.items events number at.0 follow low at.1 in
      (at.0, at.1, start.node, start.input)

  pub starts_are_clean : (old new : List (List Medium)) → HaveCauses job.config events old new → StartsAreClean job.config events old new
  starts_are_clean old new causes =
      clean_starts job.config job.run job.kept events legal
      (λ number event low at. let start = first_starts job.config job.run job.items events number event follow low at in (start.node, start.input)) old new causes
