use Rattle.std.proofs.Common.{◌≡◌, ◌++◌, List, ap, subst, ◌∙◌, rules}
use Rattle.std.specs.List.Sorted.{IsPermutation, IsNonDecreasingBy}
use Rattle.std.proofs.lemmas.List.Sorted.{IsNonDecreasingBy-from_sort_by_key}
use Rattle.history_frame.specs.declared.events.Event.{Event}
use Rattle.history_frame.specs.Merging.{events_from}
use Rattle.history_frame.proofs.MergeLaws.{merged_places}
use Rattle.history_frame.proofs.merging.merge.Goals as goal

pub returns : goal.returns
returns c =
    let out = c.sort_unstable_by_key.new.self.items in
    let all : c.put_lists.new.out.items ≡ events_from 0 c.args.lists =
    c.put_lists.ensures ∙ ap (λ (l : List Event). l ++ events_from 0 c.into_inner.result.items) c.requires.empty ∙ ap (events_from 0) c.into_inner.ensures in
    let moved : IsPermutation (events_from 0 c.args.lists) out = subst (λ (l : List Event). IsPermutation l out) all c.sort_unstable_by_key.ensures.permutation in
    let up : IsNonDecreasingBy (λ (e : Event). e.place) out =
    IsNonDecreasingBy-from_sort_by_key (λ (e : Event). e.place) _ c.sort_unstable_by_key.ensures.sorted (λ a r q k. search rules) in
    let complete = c.requires.complete in
    record { events_are = moved; places = merged_places (events_from 0 c.args.lists) complete.events out complete.merged.events_are complete.merged.places moved up }
