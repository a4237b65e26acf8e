use Rattle.std.proofs.Common.{◌≡◌, ℕ, ◌+◌, ◌<◌, ◌∙◌, refl, sym, ap, arith, length, map, get_or}
use Rattle.std.proofs.lemmas.List.{length-map}
use Rattle.segment_journal.specs.Journalled.{Journalled}
use Rattle.shard_replica.specs.Journals.{IsKnown, no_journal, unread}
use Rattle.shard_replica.specs.Lists.{Medium, medium_of, medium_at, no_medium}
use Rattle.shard_replica.proofs.Each.{unseen-set, step-seen}
use Rattle.shard_replica.proofs.Putting.{mapped-at}
use Rattle.shard_replica.proofs.Reloading.{read-same, read-known, reloading-on, reload-ended}
use Rattle.shard_replica.proofs.lists.reload_all.Goals as goal

pub returns-in-Err-clause-states : goal.returns-in-Err-clause-states
returns-in-Err-clause-states g c =
    unseen-set (λ j. unread (g.J.Journal.state j)) c.loop-journal.journals c.loop-journal.journal-index c.journal-item.result c.reload.new.self
    (ap unread c.in-Err.ensures.err) ∙ c.loop-journal.invariant.0

pub returns-in-Err-clause-media : goal.returns-in-Err-clause-media
returns-in-Err-clause-media g c =
    let items = c.loop-journal.journals in
    let at = c.loop-journal.journal-index in
    let old = get_or items at c.journal-item.result in
    let new = c.reload.new.self in
    let told : g.row.J.Denot → Medium = λ j. medium_of (g.J.Journal.state j) (g.J.Journal.faults j) (g.J.Journal.keeps_synced j) (g.J.Journal.turns j) in
    let lt : at < length items = omega (arith, c.loop-journal-test.true, c.loop-journal.auto.journals) in
    let here : medium_at (map told items) at ≡ told c.journal-item.result = mapped-at told items at c.journal-item.result no_medium lt c.journal-item.is in
    let before = sym ((c.loop-journal.invariant.1 at).4 (omega arith)) ∙ here ∙ ap told c.journal-item.is in
    reload-ended told items at new (map told c.args.journals.now) c.in-Err.fault (g.J.Journal.state old) (g.J.Journal.state new)
    (g.J.Journal.faults old) (g.J.Journal.faults new) (g.J.Journal.keeps_synced old) (g.J.Journal.keeps_synced new) (g.J.Journal.turns old) (g.J.Journal.turns new)
    lt (c.loop-journal.auto.journals ∙ sym (length-map c.args.journals.now told)) before refl
    (record { ok = c.in-Err.ensures.ok; err = c.in-Err.ensures.err; later = c.in-Err.ensures.later; failed = c.in-Err.ensures.failed; damaged = c.in-Err.ensures.damaged; keeps = c.in-Err.ensures.keeps; turn = c.in-Err.ensures.turn })
    c.loop-journal.invariant.1

pub loop-journal-preserved : goal.loop-journal-preserved
loop-journal-preserved g c =
    let items = c.loop-journal.journals in
    let at = c.loop-journal.journal-index in
    let old = get_or items at c.journal-item.result in
    let new = c.reload.new.self in
    let told : g.row.J.Denot → Medium = λ j. medium_of (g.J.Journal.state j) (g.J.Journal.faults j) (g.J.Journal.keeps_synced j) (g.J.Journal.turns j) in
    let lt : at < length items = omega (arith, c.loop-journal-test.true, c.loop-journal.auto.journals) in
    let here : medium_at (map told items) at ≡ told c.journal-item.result = mapped-at told items at c.journal-item.result no_medium lt c.journal-item.is in
    let before = sym ((c.loop-journal.invariant.1 at).4 (omega arith)) ∙ here ∙ ap told c.journal-item.is in (
      unseen-set (λ j. unread (g.J.Journal.state j)) items at c.journal-item.result new
          (read-same (g.J.Journal.state old) (g.J.Journal.state new) c.in-Ok.ensures.ok) ∙ c.loop-journal.invariant.0,
      reloading-on told items at new (map told c.args.journals.now) (g.J.Journal.state old) (g.J.Journal.state new)
          (g.J.Journal.faults old) (g.J.Journal.faults new) (g.J.Journal.keeps_synced old) (g.J.Journal.keeps_synced new) (g.J.Journal.turns old) (g.J.Journal.turns new)
          lt before refl
          (record { ok = c.in-Ok.ensures.ok; err = c.in-Ok.ensures.err; later = c.in-Ok.ensures.later; failed = c.in-Ok.ensures.failed; damaged = c.in-Ok.ensures.damaged; keeps = c.in-Ok.ensures.keeps; turn = c.in-Ok.ensures.turn })
          c.loop-journal.invariant.1,
      step-seen (λ j. g.J.Journal.state j) (λ (k : ℕ) (s : Journalled). k < at → IsKnown s) (λ (k : ℕ) (s : Journalled). k < at + 1 → IsKnown s) items at new no_journal
          lt c.loop-journal.invariant.2 (λ k s other here within. here (omega arith))
          (λ _. read-known (g.J.Journal.state old) (g.J.Journal.state new) c.in-Ok.ensures.ok),
    )
