use Rattle.std.proofs.Common.{◌≡◌, ◌<◌, ◌∙◌, Some, refl, sym, ap, subst, cond, arith, length, map, get_or}
use Rattle.std.specs.Prelude.{IsSome}
use Rattle.std.proofs.lemmas.List.{length-map, get_or-map}
use Rattle.segment_journal.specs.Journalled.{Journalled}
use Rattle.segment_journal.specs.declared.journal.Installed.{Installed}
use Rattle.segment_journal.specs.declared.journal.Installed.TheVariants.{OneMore}
use Rattle.shard_replica.specs.Journals.{journal_at, no_journal}
use Rattle.shard_replica.specs.Lists.{Medium, HoldsRecords, medium_of, medium_at, no_medium, is_one_more}
use Rattle.shard_replica.proofs.Each.{unseen-set}
use Rattle.shard_replica.proofs.Putting.{mapped-at, all-set}
use Rattle.shard_replica.proofs.Installing.{installed-holds, installing-on, came-on, installed-all}
use Rattle.shard_replica.proofs.lists.install_all.Goals as goal

pub install-requires : goal.install-requires
install-requires g c =
    let items = c.loop-journal.journals in
    let at = c.loop-journal.journal-index in
    let lt : at < length items = omega (arith, c.loop-journal-test.true, c.loop-journal.auto.journals) in
    let here : journal_at (map (λ j. g.J.Journal.state j) items) at ≡ g.J.Journal.state c.journal-item.result =
    mapped-at (λ j. g.J.Journal.state j) items at c.journal-item.result no_journal lt c.journal-item.is in
    let before = sym ((c.loop-journal.invariant.1 at).1 (omega arith)) ∙ here ∙ ap (λ j. g.J.Journal.state j) c.journal-item.is in
    subst (λ (s : Journalled). IsSome s.reloaded) before (c.requires.read at c.loop-journal-test.true)

pub loop-journal-preserved : goal.loop-journal-preserved
loop-journal-preserved g c =
    let items = c.loop-journal.journals in
    let at = c.loop-journal.journal-index in
    let old = get_or items at c.journal-item.result in
    let new = c.install.new.self in
    let told : g.row.J.Denot → Medium = λ j. medium_of (g.J.Journal.state j) (g.J.Journal.faults j) (g.J.Journal.keeps_synced j) (g.J.Journal.turns j) in
    let lt : at < length items = omega (arith, c.loop-journal-test.true, c.loop-journal.auto.journals) in
    let here : journal_at (map (λ j. g.J.Journal.state j) items) at ≡ g.J.Journal.state c.journal-item.result =
    mapped-at (λ j. g.J.Journal.state j) items at c.journal-item.result no_journal lt c.journal-item.is in
    let before = sym ((c.loop-journal.invariant.1 at).1 (omega arith)) ∙ here ∙ ap (λ j. g.J.Journal.state j) c.journal-item.is in
    let holds = subst HoldsRecords (here ∙ ap (λ j. g.J.Journal.state j) c.journal-item.is) (c.loop-journal.invariant.0 at) in
    let size = length-map c.args.journals.now told in
    let lt_old : at < length (map told c.args.journals.now) = omega (arith, c.loop-journal-test.true, size) in
    let knows : (medium_at (map told c.args.journals.now) at).reloaded ≡ Some c.install.result =
    ap (λ (m : Medium). m.reloaded) (get_or-map told c.args.journals.now at c.journal-item.result no_medium c.loop-journal-test.true)
    ∙ sym (ap (λ (s : Journalled). s.reloaded) (get_or-map (λ j. g.J.Journal.state j) c.args.journals.now at c.journal-item.result no_journal c.loop-journal-test.true))
    ∙ ap (λ (s : Journalled). s.reloaded) before ∙ c.install.ensures.answer in (
      all-set (λ j. g.J.Journal.state j) items at new no_journal lt c.loop-journal.invariant.0
          (subst HoldsRecords (sym c.install.ensures.after) (installed-holds (g.J.Journal.state old) c.install.result holds)),
      installing-on (λ j. g.J.Journal.state j) items at new (map (λ j. g.J.Journal.state j) c.args.journals.now) (g.J.Journal.state old) c.install.result
          lt before c.install.ensures.answer c.install.ensures.after c.loop-journal.invariant.1,
      c.joined-answer.ensures
          ∙ ap (λ (i : Installed). cond (is_one_more (Some c.install.result)) OneMore i) c.loop-journal.invariant.2
          ∙ sym (came-on (map told c.args.journals.now) at c.install.result lt_old knows),
      unseen-set (λ j. g.J.Journal.faults j) items at c.journal-item.result new c.install.ensures.count ∙ c.loop-journal.invariant.3,
      unseen-set (λ j. g.J.Journal.keeps_synced j) items at c.journal-item.result new c.install.ensures.keeps ∙ c.loop-journal.invariant.4,
    )

pub returns-clause-segments : goal.returns-clause-segments
returns-clause-segments g c =
    let told : g.row.J.Denot → Medium = λ j. medium_of (g.J.Journal.state j) (g.J.Journal.faults j) (g.J.Journal.keeps_synced j) (g.J.Journal.turns j) in
    installed-all (λ j. g.J.Journal.state j) told c.loop-journal.journals c.args.journals.now (λ j. refl) c.loop-journal.auto.journals
    c.loop-journal.journal-index c.loop-journal-test.false c.loop-journal.invariant.1
