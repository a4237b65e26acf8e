use Rattle.std.proofs.Common.{◌≡◌, ◌∙◌, ℕ, List, map, sym, ap, subst, length}
use Rattle.segment_journal.specs.Journalled.{Journalled, planned}
use Rattle.shard_replica.specs.Journals.{IsKept, states_of, journal_at, turns_at}
use Rattle.shard_replica.specs.Lists.{Listed, Medium, medium_of, medium_at, segment_of, segment_at, but_turns, turns_after, segments_of}
use Rattle.shard_replica.proofs.Keeping.{whole-lent, media-turns}
use Rattle.shard_replica.proofs.Installing.{map-twice}
use Rattle.shard_replica.proofs.Planning.{turns-planned}
use Rattle.shard_replica.proofs.lists.Lists.plan.Goals as goal

pub invariant_of-self : goal.invariant_of-self
invariant_of-self g c =
    let state = g.J.Journal.state in
    let items = c.self.inside.journals.items in
    let news = c.plan_all.new.journals in
    let whole : c.deref_mut.result.now ≡ items = c.deref_mut.ensures.value in
    let lent = whole-lent items news c.self.inside.journals.len c.self.inside.journals.ok.0 (c.plan_all.auto.journals ∙ ap (λ xs. length xs) whole) in
    let same = subst (λ xs. map (λ j. g.J.Journal.state j) news ≡ map (λ j. g.J.Journal.state j) xs) whole c.plan_all.ensures.states in
    subst (λ xs. IsKept c.self.inside.last_reload (states_of g.J.Journal.state xs)) (sym lent)
    (subst (λ (ss : List Journalled). IsKept c.self.inside.last_reload ss) (sym same) c.self.invariant)

pub returns-clause-segments : goal.returns-clause-segments
returns-clause-segments g c =
    let state = g.J.Journal.state in
    let items = c.self.inside.journals.items in
    let news = c.plan_all.new.journals in
    let whole : c.deref_mut.result.now ≡ items = c.deref_mut.ensures.value in
    let lent = whole-lent items news c.self.inside.journals.len c.self.inside.journals.ok.0 (c.plan_all.auto.journals ∙ ap (λ xs. length xs) whole) in
    let same = subst (λ xs. map (λ j. g.J.Journal.state j) news ≡ map (λ j. g.J.Journal.state j) xs) whole c.plan_all.ensures.states in
    subst (λ xs. segments_of g.J.Journal.state xs ≡ c.args.self.now.segments) (sym lent)
    (sym (map-twice (λ j. g.J.Journal.state j) segment_of news) ∙ ap (map segment_of) same ∙ map-twice (λ j. g.J.Journal.state j) segment_of items
    ∙ ap (λ (l : Listed). l.segments) c.self.view_is)

pub returns-clause-media : goal.returns-clause-media
returns-clause-media g c =
    let state = g.J.Journal.state in
    let items = c.self.inside.journals.items in
    let news = c.plan_all.new.journals in
    let whole : c.deref_mut.result.now ≡ items = c.deref_mut.ensures.value in
    let lent = whole-lent items news c.self.inside.journals.len c.self.inside.journals.ok.0 (c.plan_all.auto.journals ∙ ap (λ xs. length xs) whole) in
    let told : g.row.J.Denot → Medium = λ j. medium_of (g.J.Journal.state j) (g.J.Journal.faults j) (g.J.Journal.keeps_synced j) (g.J.Journal.turns j) in
    let same = subst (λ xs. map (λ j. g.J.Journal.state j) news ≡ map (λ j. g.J.Journal.state j) xs) whole c.plan_all.ensures.states in
    let faults = subst (λ xs. map (λ j. g.J.Journal.faults j) news ≡ map (λ j. g.J.Journal.faults j) xs) whole c.plan_all.ensures.faults in
    let keeps = subst (λ xs. map (λ j. g.J.Journal.keeps_synced j) news ≡ map (λ j. g.J.Journal.keeps_synced j) xs) whole c.plan_all.ensures.keeps in
    subst (λ xs. map but_turns (map told xs) ≡ map but_turns c.args.self.now.media) (sym lent)
    (media-turns g.J.Journal.state g.J.Journal.faults g.J.Journal.keeps_synced g.J.Journal.turns news items same faults keeps
    ∙ ap (λ (l : Listed). map but_turns l.media) c.self.view_is)

pub returns-clause-turns : goal.returns-clause-turns
returns-clause-turns g c =
    let items = c.self.inside.journals.items in
    let news = c.plan_all.new.journals in
    let plan = c.args.plan in
    let whole : c.deref_mut.result.now ≡ items = c.deref_mut.ensures.value in
    let lent = whole-lent items news c.self.inside.journals.len c.self.inside.journals.ok.0 (c.plan_all.auto.journals ∙ ap (λ xs. length xs) whole) in
    let told : g.row.J.Denot → Medium = λ j. medium_of (g.J.Journal.state j) (g.J.Journal.faults j) (g.J.Journal.keeps_synced j) (g.J.Journal.turns j) in
    let turns = subst (λ xs. (k : ℕ) → turns_at g.J.Journal.turns news k
    ≡ planned (journal_at (states_of g.J.Journal.state xs) k).flight plan (turns_at g.J.Journal.turns xs k)) whole c.plan_all.ensures.turns in
    subst (λ xs. (k : ℕ) → (medium_at (map told xs) k).turns ≡ turns_after (segment_at c.args.self.now.segments k) plan (medium_at c.args.self.now.media k)) (sym lent)
    (subst (λ (l : Listed). (k : ℕ) → (medium_at (map told news) k).turns ≡ turns_after (segment_at l.segments k) plan (medium_at l.media k)) c.self.view_is
    (turns-planned (λ j. g.J.Journal.state j) (λ j. g.J.Journal.faults j) (λ j. g.J.Journal.keeps_synced j) (λ j. g.J.Journal.turns j) news items plan turns))
