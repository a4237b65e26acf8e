use Rattle.std.proofs.Common.{rules}
use Rattle.gatherer_node.proofs.node.GathererNode.take.Goals as goal

pub returns-in-Deliver-default-default-Some-Report-clause-row : goal.returns-in-Deliver-default-default-Some-Report-clause-row
returns-in-Deliver-default-default-Some-Report-clause-row c =
    let row = c.note.ensures.row c.in-Deliver-default-default-Some-Report.place c.in-Deliver-default-default-Some-Report.index in
    search (rules, row, c.note.ensures.same)
