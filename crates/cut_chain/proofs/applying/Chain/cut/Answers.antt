use Rattle.std.proofs.Common.{◌+◌, ap, ◌∙◌, arith}
use Rattle.log_base.specs.Shape.{shape}
use Rattle.record_frame.specs.declared.values.Value.TheVariants.{Cut}
use Rattle.cut_chain.specs.Known.{Chained, learned}
use Rattle.cut_chain.proofs.Keeping.{kept_on, known_cut, covered_from_kept, apart_from_kept}
use Rattle.cut_chain.proofs.applying.Chain.cut.Goals as goal

pub cover-requires-clause-apart : goal.cover-requires-clause-apart
cover-requires-clause-apart g c = apart_from_kept _ _ _ _ _ _ _ c.self.invariant

pub cover-requires-clause-covered : goal.cover-requires-clause-covered
cover-requires-clause-covered g c = covered_from_kept _ _ _ _ _ _ _ c.self.invariant

pub invariant_of-self : goal.invariant_of-self
invariant_of-self g c =
    let f = c.self.inside in
    let is = c.self.invariant in
    let places = g.P.Places.places f.places in
    let counted = ap (λ (v : Chained). v.known.count) c.self.view_is in
    kept_on (shape f.config) f.registry f.registry f.covered c.cover.new.covered places (g.P.Places.places c.cover.new.places) f.end f.mark f.count (f.end + c.cover.result) f.mark
    (Cut c.args.lengths.now) is is.in_range
    (λ shard absent. c.cover.ensures.unlisted shard absent ∙ is.unlisted shard absent)
    (omega (arith, counted, c.requires.count)) (omega (arith, c.cover.ensures.small))
    (known_cut (shape f.config) f.registry f.covered c.cover.new.covered places (g.P.Places.places c.cover.new.places) f.end f.mark f.count c.cover.result c.args.lengths.now
    c.cover.ensures.places c.cover.ensures.covered c.cover.ensures.count)

pub returns : goal.returns
returns g c =
    let f = c.self.inside in
    let places = g.P.Places.places f.places in
    known_cut (shape f.config) f.registry f.covered c.cover.new.covered places (g.P.Places.places c.cover.new.places) f.end f.mark f.count c.cover.result c.args.lengths.now
    c.cover.ensures.places c.cover.ensures.covered c.cover.ensures.count
    ∙ ap (λ (v : Chained). learned v.known (Cut c.args.lengths.now)) c.self.view_is
