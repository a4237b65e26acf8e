use Rattle.std.proofs.Common.{arith, length, get_or, ℕ, ◌+◌, ◌<◌, ◌≤◌, ◌∙◌, ap}
use Rattle.shard_replica.specs.Journals.{roomless}
use Rattle.shard_replica.specs.Lists.{Medium, but_room, medium_of, no_medium}
use Rattle.shard_replica.proofs.Each.{unseen-set, step-seen, but_room-same, room-goes_on, room-made}
use Rattle.shard_replica.proofs.lists.ready_all.Goals as goal

pub returns-in-Err-clause-states : goal.returns-in-Err-clause-states
returns-in-Err-clause-states g c =
    unseen-set (λ j. roomless (g.J.Journal.state j)) c.loop-journal.journals c.loop-journal.journal-index c.journal-item.result c.ready.new.self
    (ap roomless c.in-Err.ensures.err) ∙ c.loop-journal.invariant.0

pub returns-in-Err-clause-media : goal.returns-in-Err-clause-media
returns-in-Err-clause-media g c =
    let state = g.J.Journal.state in
    let old = get_or c.loop-journal.journals c.loop-journal.journal-index c.journal-item.result in
    let new = c.ready.new.self in
    unseen-set (λ j. but_room (medium_of (g.J.Journal.state j) (g.J.Journal.faults j) (g.J.Journal.keeps_synced j) (g.J.Journal.turns j)))
    c.loop-journal.journals c.loop-journal.journal-index c.journal-item.result new
    (but_room-same (state old) (state new) _ _ _ _ _ _ (ap roomless c.in-Err.ensures.err) c.in-Err.ensures.count c.in-Err.ensures.keeps c.in-Err.ensures.turns)
    ∙ c.loop-journal.invariant.1

pub loop-journal-preserved : goal.loop-journal-preserved
loop-journal-preserved g c =
    let state = g.J.Journal.state in
    let items = c.loop-journal.journals in
    let at = c.loop-journal.journal-index in
    let lt : at < length items = omega (arith, c.loop-journal-test.true, c.loop-journal.auto.journals) in
    let old = get_or c.loop-journal.journals c.loop-journal.journal-index c.journal-item.result in
    let new = c.ready.new.self in
    let told : g.row.J.Denot → Medium = λ j. medium_of (g.J.Journal.state j) (g.J.Journal.faults j) (g.J.Journal.keeps_synced j) (g.J.Journal.turns j) in (
      unseen-set (λ j. roomless (g.J.Journal.state j)) items at c.journal-item.result new (ap roomless c.in-Ok.ensures.ok) ∙ c.loop-journal.invariant.0,
      unseen-set (λ j. but_room (told j)) items at c.journal-item.result new
          (but_room-same (state old) (state new) _ _ _ _ _ _ (ap roomless c.in-Ok.ensures.ok) c.in-Ok.ensures.count c.in-Ok.ensures.keeps c.in-Ok.ensures.turns)
          ∙ c.loop-journal.invariant.1,
      step-seen told (λ (k : ℕ) (m : Medium). k < at → c.args.bytes ≤ m.room) (λ (k : ℕ) (m : Medium). k < at + 1 → c.args.bytes ≤ m.room) items at new no_medium
          lt c.loop-journal.invariant.2 (room-goes_on c.args.bytes at)
          (λ _. room-made (state old) (state new) c.args.bytes (g.J.Journal.faults new) (g.J.Journal.keeps_synced new) (g.J.Journal.turns new) c.in-Ok.ensures.ok),
    )
