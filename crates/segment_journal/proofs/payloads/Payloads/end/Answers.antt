use Rattle.std.proofs.Common.{◌∙◌, ap, length, arith}
use Rattle.segment_journal.specs.Listed.{Listed}
use Rattle.segment_journal.specs.File.{spelled}
use Rattle.segment_journal.proofs.Places.{closed-at, end-small}
use Rattle.segment_journal.proofs.payloads.Payloads.end.Goals as goal

pub returns-clause-place : goal.returns-clause-place
returns-clause-place c =
    closed-at c.self.inside.held.items 0 c.self.inside.end c.self.invariant.placed
    ∙ omega (arith, ap (λ (l : Listed). length (spelled l.list)) c.self.view_is)

pub returns-clause-small : goal.returns-clause-small
returns-clause-small c = end-small c.self.inside.held.items c.self.inside.end c.self.invariant
