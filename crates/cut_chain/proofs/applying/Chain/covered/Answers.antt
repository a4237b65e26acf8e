use Rattle.std.proofs.Common.{◌<◌, ap, ◌∙◌, arith}
use Rattle.cut_chain.specs.Known.{Chained}
use Rattle.log_model.specs.Chain.{covered_of}
use Rattle.std.specs.Prelude.{slice_index}
use Rattle.cut_chain.proofs.Keeping.{covered_is}
use Rattle.cut_chain.proofs.applying.Chain.covered.Goals as goal

pub returns : goal.returns
returns g c =
    let f = c.self.inside in
    let replicas = ap (λ (v : Chained). v.known.config.replicas) c.self.view_is in
    let small : c.args.segment.0 < f.config.replicas = omega (arith, replicas, c.requires.segment) in
    ap (slice_index f.covered) c.index_of.ensures.index
    ∙ covered_is f.config.replicas f.covered f.registry c.args.shard.0 c.args.segment.0 small c.self.invariant.unlisted
    ∙ ap (λ (v : Chained). covered_of v.known.chain c.args.shard.0 c.args.segment.0) c.self.view_is
