use Rattle.std.proofs.Common.{◌∙◌, sym}
use Rattle.record_frame.proofs.Reasons.{value_at-needs_none}
use Rattle.record_frame.proofs.ValueLaws.{value_is_only}
use Rattle.record_frame.proofs.value_bytes.read_value.Goals as goal

pub returns-clause-only : goal.returns-clause-only
returns-clause-only c = λ value rest is e. c.read_value_at.ensures.exact ∙ value_is_only c.args.bytes.now rest value is e

pub returns-clause-memory : goal.returns-clause-memory
returns-clause-memory c = λ e. value_at-needs_none c.args.bytes.now 0 (sym c.read_value_at.ensures.exact ∙ e)
