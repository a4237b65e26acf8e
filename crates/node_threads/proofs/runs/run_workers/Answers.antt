use Rattle.std.proofs.Common.{rules, slice_index_or}
use Rattle.node_threads.proofs.Ran.{run_between}
use Rattle.node_threads.proofs.runs.run_workers.Goals as goal

pub returns : goal.returns
returns g c = record {
  len = search rules;
  each = λ k d below.
      let at = (c.for_each_mut.ensures k d below).1 in
      run_between (g.W.Work.worker_gives c.args.work.now) (slice_index_or c.args.slots.now k d) (slice_index_or c.for_each_mut.new.s k d) at.argument.now at.after_call.now at.argument_is at.left at.call;
}
