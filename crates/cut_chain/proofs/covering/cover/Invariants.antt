use Rattle.cut_chain.proofs.Cutting.{CutLoop}
use Rattle.cut_chain.proofs.covering.cover.Given as goal

abbrev pub invariant-loop-index : goal.invariant-loop-index
invariant-loop-index g l =
    CutLoop l.config.replicas l.lengths l.registry l.initial.covered (g.P.Places.places l.initial.places)
    l.index l.covered (g.P.Places.places l.places) (g.P.Places.room l.places) l.count
