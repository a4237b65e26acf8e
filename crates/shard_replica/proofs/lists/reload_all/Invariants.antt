use Rattle.std.proofs.Common.{◌≡◌, ℕ, ◌<◌, map}
use Rattle.shard_replica.specs.Journals.{IsKnown, journal_at, states_of, unread}
use Rattle.shard_replica.specs.Lists.{media_of, medium_at}
use Rattle.shard_replica.proofs.Reloading.{Reloading}
use Rattle.shard_replica.proofs.lists.reload_all.Given as goal

abbrev pub invariant-loop-journal : goal.invariant-loop-journal
invariant-loop-journal g l =
    (map (λ j. unread (g.J.Journal.state j)) l.journals ≡ map (λ j. unread (g.J.Journal.state j)) l.initial.journals)
    × ((k : ℕ) → Reloading l.journal-index (media_of g.J.Journal.state g.J.Journal.faults g.J.Journal.keeps_synced g.J.Journal.turns l.initial.journals) k
    (medium_at (media_of g.J.Journal.state g.J.Journal.faults g.J.Journal.keeps_synced g.J.Journal.turns l.journals) k))
    × ((k : ℕ) → k < l.journal-index → IsKnown (journal_at (states_of g.J.Journal.state l.journals) k))
