use Rattle.std.proofs.Common.{ℕ, ◌≤◌, sym, ap, ◌∙◌, subst, arith}
use Rattle.std.specs.Prelude.{slice_index}
use Rattle.log_base.specs.Shape.{shape}
use Rattle.log_model.specs.Lookup.{segment_index, position_from}
use Rattle.cut_chain.specs.Known.{Chained}
use Rattle.cut_chain.proofs.Keeping.{covered_from_kept, past_covered}
use Rattle.cut_chain.proofs.applying.Chain.is_past.Goals as goal

pub returns : goal.returns
returns g c reached =
    let f = c.self.inside in
    let place = c.args.place in
    let places = g.P.Places.places f.places in
    let past : slice_index f.covered c.index_of.result ≤ place.offset = grind (arith, reached) in
    let here : slice_index f.covered (segment_index (shape f.config).replicas place.shard.0 place.segment.0) ≤ place.offset =
    subst (λ (n : ℕ). slice_index f.covered n ≤ place.offset) c.index_of.ensures.index past in
    ap (λ (v : Chained). position_from 0 v.known.places place) (sym c.self.view_is)
    ∙ past_covered (shape f.config).replicas f.covered places place (covered_from_kept _ _ _ _ _ _ _ c.self.invariant) here
