use Rattle.std.proofs.Common.{sym, ◌∙◌}
use Rattle.message_frame.proofs.MessageLaws.{plain_fields_at-needs_none}
use Rattle.message_frame.proofs.reading.read_fields.Goals as goal

pub returns-in_default-clause-memory : goal.returns-in_default-clause-memory
returns-in_default-clause-memory c = λ memory. absurd (plain_fields_at-needs_none c.args.kind c.args.bytes.now c.args.at (sym c.read_plain_fields.ensures.read ∙ memory))
