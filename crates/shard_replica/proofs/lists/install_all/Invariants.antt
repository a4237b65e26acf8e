use Rattle.std.proofs.Common.{◌≡◌, ℕ, map, take}
use Rattle.shard_replica.specs.Journals.{AllHold, journal_at, states_of}
use Rattle.shard_replica.specs.Lists.{came_to, media_of}
use Rattle.shard_replica.proofs.Installing.{Installing}
use Rattle.shard_replica.proofs.lists.install_all.Given as goal

abbrev pub invariant-loop-journal : goal.invariant-loop-journal
invariant-loop-journal g l =
    AllHold (states_of g.J.Journal.state l.journals)
    × ((k : ℕ) → Installing l.journal-index (states_of g.J.Journal.state l.initial.journals) k (journal_at (states_of g.J.Journal.state l.journals) k))
    × (l.answer ≡ came_to (take l.journal-index (media_of g.J.Journal.state g.J.Journal.faults g.J.Journal.keeps_synced g.J.Journal.turns l.initial.journals)))
    × (map (λ j. g.J.Journal.faults j) l.journals ≡ map (λ j. g.J.Journal.faults j) l.initial.journals)
    × (map (λ j. g.J.Journal.keeps_synced j) l.journals ≡ map (λ j. g.J.Journal.keeps_synced j) l.initial.journals)
