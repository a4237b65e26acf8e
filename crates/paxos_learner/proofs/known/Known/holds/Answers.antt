use Rattle.std.proofs.Common.{◌≡◌, ◌≤◌, ◌∙◌, ap, refl, subst, List, length, Some}
use Rattle.std.specs.List.{slice_get}
use Rattle.std.proofs.lemmas.Option.{slice_get_read}
use Rattle.record_frame.specs.declared.values.Value.{Value}
use Rattle.paxos_learner.specs.Learning.{Learning}
use Rattle.paxos_learner.proofs.Finding.{holding, nothing_held}
use Rattle.paxos_learner.proofs.known.Known.holds.Goals as goal

pub returns-in-Some : goal.returns-in-Some
returns-in-Some c =
    let given = c.in-Some.ensures.lookup in
    let values : c.deref.result.now ≡ c.args.self.now.known = c.deref.ensures.value ∙ ap (λ (l : Learning). l.known) c.self.view_is in
    let here = slice_get_read c.deref.result.now (length c.deref.result.now) c.args.at c.in-Some.known.now refl given.3.0 given.1 in
    holding c.args.self.now.known c.args.at c.in-Some.known.now c.args.value.now c.is_same.result
    (subst (λ (xs : List Value). slice_get xs c.args.at ≡ Some c.in-Some.known.now) values here)
    c.is_same.ensures.0 c.is_same.ensures.1

pub returns-in-None : goal.returns-in-None
returns-in-None c =
    let values : c.deref.result.now ≡ c.args.self.now.known = c.deref.ensures.value ∙ ap (λ (l : Learning). l.known) c.self.view_is in
    nothing_held c.args.self.now.known c.args.at c.args.value.now
    (subst (λ (xs : List Value). length xs ≤ c.args.at) values c.in-None.ensures.lookup.3)
