use Rattle.std.proofs.Common.{◌++◌, ◌∷◌, [], map, sym, ap, ◌∙◌}
use Rattle.std.proofs.lemmas.List.{map-append}
use Rattle.cluster.specs.Counting.{fresh_node}
use Rattle.cluster.proofs.counts.+count_all.Goals as goal

pub returns-in-Some-clause-counted : goal.returns-in-Some-clause-counted
returns-in-Some-clause-counted g t c =
    let fresh = fresh_node g.J.Journal.state g.J.Journal.faults g.J.Journal.keeps_synced g.J.Journal.turns in
    c.push_reserved.ensures.items ∙ ((λ i. c.count_all.ensures.counted i ++ c.new.ensures i ∷ [])
    ∙ (sym (map-append fresh c.pop.new.self.items (c.in-Some.node ∷ [])) ∙ ap (map fresh) (sym c.in-Some.ensures.items)))
