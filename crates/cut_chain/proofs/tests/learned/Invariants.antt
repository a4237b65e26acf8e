use Rattle.std.proofs.Common.{◌≡◌}
use Rattle.cut_chain.proofs.tests.learned.Given as goal

-- the chain is of two shards of two replicas
abbrev pub invariant-loop-value : goal.invariant-loop-value
invariant-loop-value g l = (l.chain.known.config.replicas ≡ 2) × (l.chain.known.config.shards ≡ 2)
