use Rattle.std.proofs.Common.{◌≡◌, ℕ, ◌+◌, max, min, sym, ap, ◌∙◌, subst, arith}
use Rattle.log_base.specs.Shape.{shape}
use Rattle.record_frame.specs.declared.values.Value.TheVariants.{Trim}
use Rattle.cut_chain.specs.Known.{Chained}
use Rattle.cut_chain.specs.Kept.{IsKept}
use Rattle.cut_chain.proofs.Keeping.{kept_on, known_trim}
use Rattle.cut_chain.proofs.applying.Chain.trim_to.Goals as goal

pub invariant_of-self : goal.invariant_of-self
invariant_of-self g c =
    let f = c.self.inside in
    let is = c.self.invariant in
    let places = g.P.Places.places f.places in
    let counted = ap (λ (v : Chained). v.known.count) c.self.view_is in
    let mark = max f.mark (min c.args.position.0 f.end) in
    let raised : mark ≡ c.max-self-inside.result = sym (c.max-self-inside.ensures ∙ ap (max f.mark) c.min.ensures) in
    subst (λ (n : ℕ). IsKept (shape f.config) f.registry f.covered places f.end n (f.count + 1)) raised
    (kept_on (shape f.config) f.registry f.registry f.covered f.covered places places f.end f.mark f.count f.end mark (Trim (record { 0 = c.args.position.0 })) is is.in_range is.unlisted
    (omega (arith, counted, c.requires)) (omega arith)
    (known_trim (shape f.config) f.registry f.covered places f.end f.mark c.args.position.0 f.count))
