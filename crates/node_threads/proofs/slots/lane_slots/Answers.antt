use Rattle.std.proofs.Common.{sym, ◌∙◌}
use Rattle.node_threads.specs.Runs.{fresh_lane}
use Rattle.node_threads.proofs.Ran.{all_moved}
use Rattle.node_threads.proofs.slots.lane_slots.Goals as goal

pub returns : goal.returns
returns g c = all_moved fresh_lane _ _ _ _ c.loop-lane.invariant.items (sym c.loop-lane.lane-iterator.rest.ok.0 ∙ c.in-None.ensures.steps.0) c.into_iter-lane-iterator.ensures.into_iter_gives.0
