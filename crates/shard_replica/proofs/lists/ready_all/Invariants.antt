use Rattle.std.proofs.Common.{◌≡◌, ℕ, ◌<◌, ◌≤◌, map}
use Rattle.shard_replica.specs.Journals.{roomless}
use Rattle.shard_replica.specs.Lists.{but_room, medium_of, media_of, medium_at}
use Rattle.shard_replica.proofs.lists.ready_all.Given as goal

abbrev pub invariant-loop-journal : goal.invariant-loop-journal
invariant-loop-journal g l =
    (map (λ j. roomless (g.J.Journal.state j)) l.journals ≡ map (λ j. roomless (g.J.Journal.state j)) l.initial.journals)
    × (map (λ j. but_room (medium_of (g.J.Journal.state j) (g.J.Journal.faults j) (g.J.Journal.keeps_synced j) (g.J.Journal.turns j))) l.journals
    ≡ map (λ j. but_room (medium_of (g.J.Journal.state j) (g.J.Journal.faults j) (g.J.Journal.keeps_synced j) (g.J.Journal.turns j))) l.initial.journals)
    × ((k : ℕ) → k < l.journal-index → l.bytes ≤ (medium_at (media_of g.J.Journal.state g.J.Journal.faults g.J.Journal.keeps_synced g.J.Journal.turns l.journals) k).room)
