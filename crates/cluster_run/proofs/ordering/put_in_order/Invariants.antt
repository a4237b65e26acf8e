use Rattle.std.proofs.Common.{◌≤◌, length, map, vec_capacity}
use Rattle.cluster_run.proofs.Ordered.{SoFar}
use Rattle.cluster_run.proofs.ordering.put_in_order.Given as goal

abbrev pub invariant-loop-done : goal.invariant-loop-done
invariant-loop-done l = record {
  far : SoFar l.fn.lanes (map (λ list. list.items) l.fn.lists.items) (map (λ list. list.items) l.lists.items) l.replies.items l.done;
  room : length l.fn.lanes ≤ vec_capacity l.replies;
}
