use Rattle.std.proofs.Common.{◌≡◌, ◌<◌, ◌≤◌, ◌∙◌, ap, sym, subst, length, arith, get_or, List}
use Rattle.std.proofs.lemmas.List.{length-map}
use Rattle.segment_journal.specs.Listed.{Listed}
use Rattle.segment_journal.specs.Listing.{payloads_of}
use Rattle.segment_journal.specs.File.{place_of}
use Rattle.segment_journal.specs.declared.payloads.Held.{Held}
use Rattle.segment_journal.proofs.Places.{gate-at, closed-at, place-end}
use Rattle.segment_journal.proofs.payloads.Payloads.place.Goals as goal

pub returns-in-Some : goal.returns-in-Some
returns-in-Some c =
    let held = c.self.inside.held.items in
    let same : c.deref.result.now ≡ held = c.deref.ensures.value in
    let there : c.in-Some.held.now ≡ get_or held c.args.index c.in-Some.held.now =
    c.in-Some.ensures.lookup.1 ∙ ap (λ (l : List Held). get_or l c.args.index c.in-Some.held.now) same in
    let list : length c.args.self.now.list ≡ length held = ap (λ (l : Listed). length l.list) (sym c.self.view_is) ∙ length-map held (λ (h : Held). h.payload) in
    gate-at held 0 c.self.inside.end c.args.index c.in-Some.held.now c.self.invariant.placed (subst (λ (l : List Held). c.args.index < length l) same c.in-Some.ensures.lookup.3.0) there
    ∙ omega (arith, ap (λ (l : Listed). place_of l.list c.args.index) c.self.view_is)

pub returns-in-None : goal.returns-in-None
returns-in-None c =
    let held = c.self.inside.held.items in
    let past : length held ≤ c.args.index = subst (λ (l : List Held). length l ≤ c.args.index) c.deref.ensures.value c.in-None.ensures.lookup.3 in
    closed-at held 0 c.self.inside.end c.self.invariant.placed
    ∙ omega (arith, place-end (payloads_of held) c.args.index (omega (arith, length-map held (λ (h : Held). h.payload))), ap (λ (l : Listed). place_of l.list c.args.index) c.self.view_is)
