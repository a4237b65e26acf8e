use Rattle.node_threads.proofs.Ran.{lanes_fit, workers_fit, lanes_ended, workers_ended, lanes_ran, workers_ran}
use Rattle.node_threads.proofs.fanning.fan_out.Goals as goal

pub run_all-lanes-requires-clause-lanes : goal.run_all-lanes-requires-clause-lanes
run_all-lanes-requires-clause-lanes g c κs within = lanes_fit (g.W.Work.fits_lane c.args.work.now) c.args.lanes.items _ c.requires.lanes c.lane_slots-lanes.ensures

pub run_all-lanes-requires-clause-workers : goal.run_all-lanes-requires-clause-workers
run_all-lanes-requires-clause-workers g c κs within = workers_fit (g.W.Work.fits_worker c.args.work.now) c.args.workers.items _ c.requires.workers c.worker_slots-workers.ensures

pub gather-lanes-requires-clause-ended : goal.gather-lanes-requires-clause-ended
gather-lanes-requires-clause-ended g c = lanes_ended _ _ _ c.run_all-lanes.ensures.lanes

pub gather-workers-requires-clause-ended : goal.gather-workers-requires-clause-ended
gather-workers-requires-clause-ended g c = workers_ended _ _ _ c.run_all-lanes.ensures.workers

pub returns-clause-lanes : goal.returns-clause-lanes
returns-clause-lanes g c = lanes_ran (g.W.Work.lane_gives c.args.work.now) c.args.lanes.items _ _ _ _ c.lane_slots-lanes.ensures c.run_all-lanes.ensures.lanes c.gather-lanes.ensures.tokens c.gather-lanes.ensures.answers

pub returns-clause-workers : goal.returns-clause-workers
returns-clause-workers g c = workers_ran (g.W.Work.worker_gives c.args.work.now) c.args.workers.items _ _ _ _ c.worker_slots-workers.ensures c.run_all-lanes.ensures.workers c.gather-workers.ensures.tokens c.gather-workers.ensures.answers
