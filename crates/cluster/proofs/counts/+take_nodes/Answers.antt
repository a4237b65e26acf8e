use Rattle.std.proofs.Common.{◌++◌, ◌∷◌, [], map, sym, ap, ◌∙◌, subst}
use Rattle.std.specs.List.{AllByRecursion}
use Rattle.std.proofs.lemmas.List.{map-append}
use Rattle.cluster.specs.Counting.{HasCounted}
use Rattle.cluster.proofs.Causing.{counted_push}
use Rattle.cluster.proofs.counts.+take_nodes.Goals as goal

pub returns-in-Some-clause-nodes : goal.returns-in-Some-clause-nodes
returns-in-Some-clause-nodes g t c =
    c.push_reserved.ensures.items ∙ ((λ i. c.take_nodes.ensures.nodes i ++ c.into_node.ensures.node i ∷ [])
    ∙ (sym (map-append (λ c. c.node) c.pop.new.self.items (c.in-Some.one ∷ [])) ∙ ap (map (λ c. c.node)) (sym c.in-Some.ensures.items)))

pub returns-in-Some-clause-told : goal.returns-in-Some-clause-told
returns-in-Some-clause-told g t c =
    let state = g.J.Journal.state in let faults = g.J.Journal.faults in let keeps_synced = g.J.Journal.keeps_synced in let turns = g.J.Journal.turns in
    subst (AllByRecursion (HasCounted state faults keeps_synced turns)) (sym c.in-Some.ensures.items)
    (counted_push state faults keeps_synced turns c.pop.new.self.items c.in-Some.one c.take_nodes.ensures.told
    c.into_node.ensures.counted)
