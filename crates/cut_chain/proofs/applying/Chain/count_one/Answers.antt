use Rattle.std.proofs.Common.{ap, arith}
use Rattle.log_base.specs.Shape.{shape}
use Rattle.record_frame.specs.declared.values.Value.TheVariants.{Noop}
use Rattle.cut_chain.specs.Known.{Chained}
use Rattle.cut_chain.proofs.Keeping.{kept_on, known_noop, chain_from}
use Rattle.cut_chain.proofs.applying.Chain.count_one.Goals as goal

pub invariant_of-self : goal.invariant_of-self
invariant_of-self g c =
    let f = c.self.inside in
    let is = c.self.invariant in
    let places = g.P.Places.places f.places in
    let counted = ap (λ (v : Chained). v.known.count) c.self.view_is in
    kept_on (shape f.config) f.registry f.registry f.covered f.covered places places f.end f.mark f.count f.end f.mark Noop is is.in_range is.unlisted
    (omega (arith, counted, c.requires)) (omega arith)
    (known_noop (shape f.config) (chain_from f.config.replicas f.registry f.covered f.end f.mark) places f.count)
