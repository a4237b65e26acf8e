use Rattle.std.proofs.Common.{◌≡◌, ◌<◌, ◌∙◌, None, Option, List, arith, length, map, get_or, sym, ap}
use Rattle.std.proofs.lemmas.List.{length-map}
use Rattle.segment_journal.specs.Journalled.{Journalled, Turns, planned}
use Rattle.shard_replica.specs.Journals.{journal_at, no_journal}
use Rattle.shard_replica.proofs.Each.{unseen-set}
use Rattle.shard_replica.proofs.Planning.{planning-on, planned-all}
use Rattle.shard_replica.proofs.Putting.{mapped-at}
use Rattle.shard_replica.proofs.lists.plan_all.Goals as goal

pub loop-journal-preserved : goal.loop-journal-preserved
loop-journal-preserved g c =
    let items = c.loop-journal.journals in
    let at = c.loop-journal.journal-index in
    let item = c.journal-item.result in
    let new = c.plan.new.self in
    let first = c.args.journals.now in
    let old = get_or items at item in
    let lt : at < length items = omega (arith, c.loop-journal-test.true, c.loop-journal.auto.journals) in
    let state : journal_at (map (λ j. g.J.Journal.state j) first) at ≡ g.J.Journal.state old =
    ap (λ (ss : List Journalled). journal_at ss at) (sym c.loop-journal.invariant.0)
    ∙ mapped-at (λ j. g.J.Journal.state j) items at item no_journal lt c.journal-item.is ∙ ap (λ j. g.J.Journal.state j) c.journal-item.is in
    let turns : get_or (map (λ j. g.J.Journal.turns j) first) at None ≡ g.J.Journal.turns old =
    sym ((c.loop-journal.invariant.3 at).1 (omega arith))
    ∙ mapped-at (λ j. g.J.Journal.turns j) items at item None lt c.journal-item.is ∙ ap (λ j. g.J.Journal.turns j) c.journal-item.is in (
      unseen-set (λ j. g.J.Journal.state j) items at item new c.plan.ensures.state ∙ c.loop-journal.invariant.0,
      unseen-set (λ j. g.J.Journal.faults j) items at item new c.plan.ensures.count ∙ c.loop-journal.invariant.1,
      unseen-set (λ j. g.J.Journal.keeps_synced j) items at item new c.plan.ensures.keeps ∙ c.loop-journal.invariant.2,
      planning-on (λ j. g.J.Journal.turns j) items at new c.args.plan (map (λ j. g.J.Journal.state j) first) (map (λ j. g.J.Journal.turns j) first)
          lt c.loop-journal.invariant.3
          (c.plan.ensures.turns
          ∙ ap (λ (s : Journalled). planned s.flight c.args.plan (g.J.Journal.turns old)) (sym state)
          ∙ ap (λ (t : Option Turns). planned (journal_at (map (λ j. g.J.Journal.state j) first) at).flight c.args.plan t) (sym turns)),
    )

pub returns-clause-turns : goal.returns-clause-turns
returns-clause-turns g c =
    let first = c.args.journals.now in
    let size = length-map first (λ j. g.J.Journal.turns j) in
    planned-all (map (λ j. g.J.Journal.state j) first) (map (λ j. g.J.Journal.turns j) first) (map (λ j. g.J.Journal.turns j) c.loop-journal.journals)
    c.loop-journal.journal-index c.args.plan (omega (arith, size, c.loop-journal-test.false, c.loop-journal.auto.journals)) c.loop-journal.invariant.3
