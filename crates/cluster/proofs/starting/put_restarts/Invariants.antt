use Rattle.std.proofs.Common.{◌≡◌, vec_len, vec_capacity}
use Rattle.cluster.specs.Opening.{restarts_from}
use Rattle.cluster.proofs.starting.put_restarts.Given as goal

-- so many nodes are to start
abbrev pub invariant-loop-node : goal.invariant-loop-node
invariant-loop-node l = record {
  asked : l.asked.items ≡ restarts_from 0 l.node;
  len : vec_len l.asked ≡ l.node;
  room : vec_capacity l.asked ≡ vec_capacity l.fn.asked;
}
