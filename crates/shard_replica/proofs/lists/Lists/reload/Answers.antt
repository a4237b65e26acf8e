use Rattle.std.proofs.Common.{◌≡◌, ◌∙◌, ℕ, Some, List, map, sym, ap, subst, length, refl}
use Rattle.std.specs.Prelude.{IsSome}
use Rattle.shard_replica.specs.Journals.{states_of, unread}
use Rattle.shard_replica.specs.Lists.{Listed, Medium, medium_of, segments_of, ReloadsAll}
use Rattle.std.specs.Prelude.{Err}
use Rattle.segment_journal.specs.declared.journal.Installed.TheVariants.{OneMore}
use Rattle.shard_replica.specs.Journals.{AllHold, AllRead}
use Rattle.shard_replica.specs.declared.lists.LastReload.TheVariants.{Read}
use Rattle.shard_replica.specs.Lists.{medium_at, segment_at}
use Rattle.shard_replica.proofs.Keeping.{whole-lent, hold-unread, segments-unread, all-read, flight-seen}
use Rattle.shard_replica.proofs.lists.Lists.reload.Goals as goal

pub invariant_of-self : goal.invariant_of-self
invariant_of-self g c =
    let state = g.J.Journal.state in
    let items = c.self.inside.journals.items in
    let news = c.reload_all.new.journals in
    let whole : c.deref_mut.result.now ≡ items = c.deref_mut.ensures.value in
    let lent = whole-lent items news c.self.inside.journals.len c.self.inside.journals.ok.0 (c.reload_all.auto.journals ∙ ap (λ xs. length xs) whole) in
    let states = subst (λ xs. map (λ j. unread (g.J.Journal.state j)) news ≡ map (λ j. unread (g.J.Journal.state j)) xs) whole c.reload_all.ensures.states in
    record {
      hold = subst (λ xs. AllHold (states_of g.J.Journal.state xs)) (sym lent) (hold-unread state news items states c.self.invariant.hold);
      read = subst (λ xs. AllRead (Some Read) (states_of g.J.Journal.state xs)) (sym lent) (all-read state news c.in-Ok.ensures.flight);
    }

pub returns-in-Ok-clause-segments : goal.returns-in-Ok-clause-segments
returns-in-Ok-clause-segments g c =
    let state = g.J.Journal.state in
    let items = c.self.inside.journals.items in
    let news = c.reload_all.new.journals in
    let whole : c.deref_mut.result.now ≡ items = c.deref_mut.ensures.value in
    let lent = whole-lent items news c.self.inside.journals.len c.self.inside.journals.ok.0 (c.reload_all.auto.journals ∙ ap (λ xs. length xs) whole) in
    let states = subst (λ xs. map (λ j. unread (g.J.Journal.state j)) news ≡ map (λ j. unread (g.J.Journal.state j)) xs) whole c.reload_all.ensures.states in
    subst (λ xs. segments_of g.J.Journal.state xs ≡ c.args.self.now.segments) (sym lent)
    (segments-unread state news items states ∙ ap (λ (l : Listed). l.segments) c.self.view_is)

pub returns-in-Ok-clause-flight : goal.returns-in-Ok-clause-flight
returns-in-Ok-clause-flight g c =
    let state = g.J.Journal.state in
    let items = c.self.inside.journals.items in
    let news = c.reload_all.new.journals in
    let whole : c.deref_mut.result.now ≡ items = c.deref_mut.ensures.value in
    let lent = whole-lent items news c.self.inside.journals.len c.self.inside.journals.ok.0 (c.reload_all.auto.journals ∙ ap (λ xs. length xs) whole) in
    let told : g.row.J.Denot → Medium = λ j. medium_of (g.J.Journal.state j) (g.J.Journal.faults j) (g.J.Journal.keeps_synced j) (g.J.Journal.turns j) in
    subst (λ xs. (k : ℕ) → (medium_at (map told xs) k).reloaded ≡ Some OneMore → IsSome (segment_at (segments_of g.J.Journal.state xs) k).flight) (sym lent)
    (flight-seen g.J.Journal.state told news (λ j. refl) c.in-Ok.ensures.flight)

pub invariant_of-self-in-Err : goal.invariant_of-self-in-Err
invariant_of-self-in-Err g c =
    let state = g.J.Journal.state in
    let items = c.self.inside.journals.items in
    let news = c.reload_all.new.journals in
    let whole : c.deref_mut.result.now ≡ items = c.deref_mut.ensures.value in
    let lent = whole-lent items news c.self.inside.journals.len c.self.inside.journals.ok.0 (c.reload_all.auto.journals ∙ ap (λ xs. length xs) whole) in
    let states = subst (λ xs. map (λ j. unread (g.J.Journal.state j)) news ≡ map (λ j. unread (g.J.Journal.state j)) xs) whole c.reload_all.ensures.states in
    record {
      hold = subst (λ xs. AllHold (states_of g.J.Journal.state xs)) (sym lent) (hold-unread state news items states c.self.invariant.hold);
      read = tt;
    }

pub returns-in-Err-clause-segments : goal.returns-in-Err-clause-segments
returns-in-Err-clause-segments g c =
    let state = g.J.Journal.state in
    let items = c.self.inside.journals.items in
    let news = c.reload_all.new.journals in
    let whole : c.deref_mut.result.now ≡ items = c.deref_mut.ensures.value in
    let lent = whole-lent items news c.self.inside.journals.len c.self.inside.journals.ok.0 (c.reload_all.auto.journals ∙ ap (λ xs. length xs) whole) in
    let states = subst (λ xs. map (λ j. unread (g.J.Journal.state j)) news ≡ map (λ j. unread (g.J.Journal.state j)) xs) whole c.reload_all.ensures.states in
    subst (λ xs. segments_of g.J.Journal.state xs ≡ c.args.self.now.segments) (sym lent)
    (segments-unread state news items states ∙ ap (λ (l : Listed). l.segments) c.self.view_is)

pub returns-in-Err-clause-media : goal.returns-in-Err-clause-media
returns-in-Err-clause-media g c =
    let state = g.J.Journal.state in
    let items = c.self.inside.journals.items in
    let news = c.reload_all.new.journals in
    let whole : c.deref_mut.result.now ≡ items = c.deref_mut.ensures.value in
    let lent = whole-lent items news c.self.inside.journals.len c.self.inside.journals.ok.0 (c.reload_all.auto.journals ∙ ap (λ xs. length xs) whole) in
    let told : g.row.J.Denot → Medium = λ j. medium_of (g.J.Journal.state j) (g.J.Journal.faults j) (g.J.Journal.keeps_synced j) (g.J.Journal.turns j) in
    subst (λ xs. ReloadsAll (Err c.in-Err.fault) c.args.self.now.media (map told xs)) (sym lent)
    (subst (λ (ms : List Medium). ReloadsAll (Err c.in-Err.fault) ms (map told news)) (ap (λ xs. map told xs) whole ∙ ap (λ (l : Listed). l.media) c.self.view_is) c.in-Err.ensures.media)
