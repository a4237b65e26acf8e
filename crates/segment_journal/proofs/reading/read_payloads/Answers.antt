use Rattle.std.proofs.Common.{List, Ok, sym, ap, ◌∙◌, subst}
use Rattle.segment_journal.specs.Listed.{Listed}
use Rattle.segment_journal.specs.File.{Holds}
use Rattle.segment_journal.proofs.Recovery.{recovered-short}
use Rattle.segment_journal.proofs.ReadingLemmas.{ends-recovered, ends-holds, start-holds}
use Rattle.segment_journal.proofs.reading.read_payloads.Goals as goal
use Rattle.segment_journal.proofs.reading.read_payloads.Goals.{then-bytes-ge-SHORTEST+in-Ok, else-bytes-ge-SHORTEST}

pub returns-in-Ok-ready-clause-ok : goal.returns-in-Ok-ready-clause-ok
returns-in-Ok-ready-clause-ok c = elim c.if-bytes-ge-SHORTEST.branch [
  | then-bytes-ge-SHORTEST+in-Ok w ↦
      ends-recovered _ c.args.bytes.now w.in-Ok.ensures.payloads w.in-Ok.ensures.ok ∙ ap (λ (l : Listed). Ok l.list) (sym w.list-is) ∙ ap (λ (l : List _). Ok l) (sym c.ready.ensures.list)
  | else-bytes-ge-SHORTEST w ↦
      recovered-short c.args.bytes.now w.if-bytes-ge-SHORTEST.false ∙ ap (λ (l : List _). Ok l) (sym c.new-list.ensures) ∙ ap (λ (l : Listed). Ok l.list) (sym w.list-is) ∙ ap (λ (l : List _). Ok l) (sym c.ready.ensures.list)
]

pub returns-in-Ok-ready-clause-holds : goal.returns-in-Ok-ready-clause-holds
returns-in-Ok-ready-clause-holds c = λ start. elim c.if-bytes-ge-SHORTEST.branch [
  | then-bytes-ge-SHORTEST+in-Ok w ↦
      let same = ap (λ (l : Listed). l.list) w.list-is in
      subst (λ (l : List _). Holds l c.args.bytes.now) (sym (c.ready.ensures.list ∙ same)) (ends-holds w.take_payloads.new.list.list c.args.bytes.now w.if-bytes-ge-SHORTEST.true w.in-Ok.ensures.ok)
  | else-bytes-ge-SHORTEST w ↦
      let same = ap (λ (l : Listed). l.list) w.list-is in
      subst (λ (l : List _). Holds l c.args.bytes.now) (sym (c.ready.ensures.list ∙ same ∙ c.new-list.ensures)) (start-holds c.args.bytes.now w.if-bytes-ge-SHORTEST.false start)
]
