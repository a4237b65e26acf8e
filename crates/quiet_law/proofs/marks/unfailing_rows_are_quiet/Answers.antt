use Rattle.node_table.specs.Numbering.{role_at}
use Rattle.quiet_law.proofs.Marking.{row_quiet}
use Rattle.quiet_law.proofs.marks.unfailing_rows_are_quiet.Goals as goal

pub returns : goal.returns
returns c = λ config node state happened fine row. row_quiet config (role_at config node) state happened.input happened.mark row.made fine row.rule
