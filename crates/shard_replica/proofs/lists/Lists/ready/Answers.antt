use Rattle.std.proofs.Common.{◌≡◌, ◌∙◌, map, sym, ap, subst, length}
use Rattle.std.specs.Prelude.{OnOk}
use Rattle.shard_replica.specs.Journals.{IsKept, states_of, roomless}
use Rattle.shard_replica.specs.Lists.{Listed, Medium, medium_of, but_room, segments_of, HasRoomFor}
use Rattle.shard_replica.proofs.Keeping.{whole-lent, kept-room, segments-room}
use Rattle.shard_replica.proofs.Installing.{map-twice}
use Rattle.shard_replica.proofs.lists.Lists.ready.Goals as goal

pub invariant_of-self : goal.invariant_of-self
invariant_of-self g c =
    let state = g.J.Journal.state in
    let items = c.self.inside.journals.items in
    let news = c.ready_all.new.journals in
    let whole : c.deref_mut.result.now ≡ items = c.deref_mut.ensures.value in
    let lent = whole-lent items news c.self.inside.journals.len c.self.inside.journals.ok.0 (c.ready_all.auto.journals ∙ ap (λ xs. length xs) whole) in
    let states = subst (λ xs. map (λ j. roomless (g.J.Journal.state j)) news ≡ map (λ j. roomless (g.J.Journal.state j)) xs) whole c.ready_all.ensures.states in
    subst (λ xs. IsKept c.self.inside.last_reload (states_of g.J.Journal.state xs)) (sym lent)
    (kept-room state c.self.inside.last_reload news items states c.self.invariant)

pub returns-clause-segments : goal.returns-clause-segments
returns-clause-segments g c =
    let state = g.J.Journal.state in
    let items = c.self.inside.journals.items in
    let news = c.ready_all.new.journals in
    let whole : c.deref_mut.result.now ≡ items = c.deref_mut.ensures.value in
    let lent = whole-lent items news c.self.inside.journals.len c.self.inside.journals.ok.0 (c.ready_all.auto.journals ∙ ap (λ xs. length xs) whole) in
    let states = subst (λ xs. map (λ j. roomless (g.J.Journal.state j)) news ≡ map (λ j. roomless (g.J.Journal.state j)) xs) whole c.ready_all.ensures.states in
    subst (λ xs. segments_of g.J.Journal.state xs ≡ c.args.self.now.segments) (sym lent)
    (segments-room state news items states ∙ ap (λ (l : Listed). l.segments) c.self.view_is)

pub returns-clause-media : goal.returns-clause-media
returns-clause-media g c =
    let state = g.J.Journal.state in
    let items = c.self.inside.journals.items in
    let news = c.ready_all.new.journals in
    let whole : c.deref_mut.result.now ≡ items = c.deref_mut.ensures.value in
    let lent = whole-lent items news c.self.inside.journals.len c.self.inside.journals.ok.0 (c.ready_all.auto.journals ∙ ap (λ xs. length xs) whole) in
    let told : g.row.J.Denot → Medium = λ j. medium_of (g.J.Journal.state j) (g.J.Journal.faults j) (g.J.Journal.keeps_synced j) (g.J.Journal.turns j) in
    let media = subst (λ xs. map (λ j. but_room (told j)) news ≡ map (λ j. but_room (told j)) xs) whole c.ready_all.ensures.media in
    subst (λ xs. map but_room (map told xs) ≡ map but_room c.args.self.now.media) (sym lent)
    (map-twice told but_room news ∙ media ∙ sym (map-twice told but_room items) ∙ ap (λ (l : Listed). map but_room l.media) c.self.view_is)

pub returns-clause-room : goal.returns-clause-room
returns-clause-room g c =
    let state = g.J.Journal.state in
    let items = c.self.inside.journals.items in
    let news = c.ready_all.new.journals in
    let whole : c.deref_mut.result.now ≡ items = c.deref_mut.ensures.value in
    let lent = whole-lent items news c.self.inside.journals.len c.self.inside.journals.ok.0 (c.ready_all.auto.journals ∙ ap (λ xs. length xs) whole) in
    let told : g.row.J.Denot → Medium = λ j. medium_of (g.J.Journal.state j) (g.J.Journal.faults j) (g.J.Journal.keeps_synced j) (g.J.Journal.turns j) in
    subst (λ xs. OnOk c.ready_all.result (HasRoomFor c.args.bytes (map told xs))) (sym lent) c.ready_all.ensures.room
