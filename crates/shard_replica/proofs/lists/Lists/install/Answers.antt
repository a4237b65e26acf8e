use Rattle.std.proofs.Common.{◌≡◌, ◌∙◌, map, sym, ap, subst, length}
use Rattle.shard_replica.specs.Lists.{Listed, Medium, medium_of}
use Rattle.shard_replica.proofs.Keeping.{whole-lent}
use Rattle.shard_replica.proofs.Installing.{map-twice}
use Rattle.shard_replica.proofs.lists.Lists.install.Goals as goal

pub returns-in-Some-Read-clause-faults : goal.returns-in-Some-Read-clause-faults
returns-in-Some-Read-clause-faults g c =
    let state = g.J.Journal.state in
    let items = c.self.inside.journals.items in
    let news = c.install_all.new.journals in
    let whole : c.deref_mut.result.now ≡ items = c.deref_mut.ensures.value in
    let lent = whole-lent items news c.self.inside.journals.len c.self.inside.journals.ok.0 (c.install_all.auto.journals ∙ ap (λ xs. length xs) whole) in
    let told : g.row.J.Denot → Medium = λ j. medium_of (g.J.Journal.state j) (g.J.Journal.faults j) (g.J.Journal.keeps_synced j) (g.J.Journal.turns j) in
    let faults = subst (λ xs. map (λ j. g.J.Journal.faults j) news ≡ map (λ j. g.J.Journal.faults j) xs) whole c.install_all.ensures.faults in
    let at = λ (m : Medium). m.faults in
    subst (λ xs. map at (map told xs) ≡ map at c.args.self.now.media) (sym lent)
    (map-twice told at news ∙ faults ∙ sym (map-twice told at items) ∙ ap (λ (l : Listed). map at l.media) c.self.view_is)

pub returns-in-Some-Read-clause-keeps : goal.returns-in-Some-Read-clause-keeps
returns-in-Some-Read-clause-keeps g c =
    let state = g.J.Journal.state in
    let items = c.self.inside.journals.items in
    let news = c.install_all.new.journals in
    let whole : c.deref_mut.result.now ≡ items = c.deref_mut.ensures.value in
    let lent = whole-lent items news c.self.inside.journals.len c.self.inside.journals.ok.0 (c.install_all.auto.journals ∙ ap (λ xs. length xs) whole) in
    let told : g.row.J.Denot → Medium = λ j. medium_of (g.J.Journal.state j) (g.J.Journal.faults j) (g.J.Journal.keeps_synced j) (g.J.Journal.turns j) in
    let keeps = subst (λ xs. map (λ j. g.J.Journal.keeps_synced j) news ≡ map (λ j. g.J.Journal.keeps_synced j) xs) whole c.install_all.ensures.keeps in
    let at = λ (m : Medium). m.keeps_synced in
    subst (λ xs. map at (map told xs) ≡ map at c.args.self.now.media) (sym lent)
    (map-twice told at news ∙ keeps ∙ sym (map-twice told at items) ∙ ap (λ (l : Listed). map at l.media) c.self.view_is)
