use Rattle.std.proofs.Common.{◌<◌, List, sym, subst, ap, arith}
use Rattle.std.specs.Prelude.{slice_index, slice_set}
use Rattle.log_base.specs.declared.numbers.Place.{Place}
use Rattle.log_model.specs.Lookup.{segment_index}
use Rattle.cut_chain.specs.Covering.{AreCovered}
use Rattle.cut_chain.proofs.Cutting.{covered_after}
use Rattle.cut_chain.proofs.covering.cover_segment.Goals as goal

-- what is covered ends below the run
pub add-requires-clause-fresh : goal.add-requires-clause-fresh
add-requires-clause-fresh g c = λ offset low high found.
    let below : offset < slice_index c.args.covered.now (segment_index c.args.config.now.replicas c.args.shard.0 c.args.segment.0) =
    (c.requires.covered _ _ offset found).1 in
    let same = ap (slice_index c.args.covered.now) c.index_of-at.ensures.index in
    omega (arith, below, low, same)

pub returns-clause-covered : goal.returns-clause-covered
returns-clause-covered g c =
    let covered = c.args.covered.now in
    let at = c.index_of-at.result in
    let value = slice_index c.args.lengths.now at in
    let within : at < 32 = c.index_of-at.ensures.within in
    subst (λ (ps : List Place). AreCovered c.args.config.now.replicas (slice_set covered at value) ps) (sym c.add.ensures.places)
    (covered_after c.args.config.now.replicas covered (g.P.Places.places c.args.places.now) c.args.shard.0 c.args.segment.0 at value
    c.index_of-at.ensures.index (omega arith) c.requires.segment (omega arith) c.requires.covered)
