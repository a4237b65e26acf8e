use Rattle.std.proofs.Common.{◌≡◌, ◌++◌, ◌∷◌, [], ℕ, ◌+◌, List, ap, sym, subst, ◌∙◌, arith, rules}
use Rattle.cut_chain.specs.declared.runs.Run.{Run}
use Rattle.cut_chain.specs.Runs.{places_of, run_places, IsFresh}
use Rattle.cut_chain.specs.Walk.{IsCounted, Walked}
use Rattle.cut_chain.proofs.Newest.{counted-push}
use Rattle.cut_chain.proofs.Walks.{places_of-push, walk-few, walk-push}
use Rattle.cut_chain.proofs.walking.WalkPlacesPlaces.add.Goals as goal

pub overflow_add-self : goal.overflow_add-self
overflow_add-self c =
    omega (arith, walk-few c.self.inside.runs.items c.self.invariant.walk, c.self.invariant.total_is, c.from.ensures, c.requires.within)

-- there was room for the run
pub invariant_of-self : goal.invariant_of-self
invariant_of-self c =
    let runs = c.self.inside.runs.items in
    let run = c.args.run in
    let pushed : c.push.new.self.items ≡ runs ++ run ∷ [] = search rules in
    let fresh : IsFresh (places_of runs) run = subst (λ (v : Walked). IsFresh v.places run) (sym c.self.view_is) c.requires.fresh in
    let walk = walk-push runs run (omega arith) (omega arith) c.requires.within fresh c.self.invariant.walk in
    let counted = counted-push runs run c.self.inside.total walk c.self.invariant in
    subst (λ (rs : List Run). IsCounted rs (c.self.inside.total + c.from.result)) (sym pushed)
    (subst (λ (n : ℕ). IsCounted (runs ++ run ∷ []) (c.self.inside.total + n)) (sym c.from.ensures) counted)

pub returns-clause-places : goal.returns-clause-places
returns-clause-places c =
    let runs = c.self.inside.runs.items in
    let run = c.args.run in
    let pushed : c.push.new.self.items ≡ runs ++ run ∷ [] = search rules in
    ap places_of pushed ∙ places_of-push runs run ∙ ap (λ (v : Walked). v.places ++ run_places run) c.self.view_is
