use Rattle.std.proofs.Common.{◌≡◌, ℕ, map}
use Rattle.shard_replica.specs.Journals.{states_of, turns_at}
use Rattle.shard_replica.proofs.Planning.{Planning}
use Rattle.shard_replica.proofs.lists.plan_all.Given as goal

abbrev pub invariant-loop-journal : goal.invariant-loop-journal
invariant-loop-journal g l =
    (map (λ j. g.J.Journal.state j) l.journals ≡ map (λ j. g.J.Journal.state j) l.initial.journals)
    × (map (λ j. g.J.Journal.faults j) l.journals ≡ map (λ j. g.J.Journal.faults j) l.initial.journals)
    × (map (λ j. g.J.Journal.keeps_synced j) l.journals ≡ map (λ j. g.J.Journal.keeps_synced j) l.initial.journals)
    × ((k : ℕ) → Planning l.plan l.journal-index (states_of g.J.Journal.state l.initial.journals) (map (λ j. g.J.Journal.turns j) l.initial.journals) k
    (turns_at g.J.Journal.turns l.journals k))
