use Rattle.cut_chain.proofs.Cutting.{ShardLoop}
use Rattle.cut_chain.proofs.covering.cover_shard.Given as goal

abbrev pub invariant-loop-segment : goal.invariant-loop-segment
invariant-loop-segment g l =
    ShardLoop l.config.replicas l.shard.0 l.lengths l.initial.covered (g.P.Places.places l.initial.places) (g.P.Places.room l.initial.places)
    l.segment l.covered (g.P.Places.places l.places) (g.P.Places.room l.places) l.count
