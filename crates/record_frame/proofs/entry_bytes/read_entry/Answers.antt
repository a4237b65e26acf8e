use Rattle.record_frame.proofs.EntryLaws.{entry_is_only}
use Rattle.record_frame.proofs.entry_bytes.read_entry.Goals as goal

pub returns-clause-only : goal.returns-clause-only
returns-clause-only c = λ entry rest is e. entry_is_only c.args.bytes.now rest entry c.read_entry_at.result is e c.read_entry_at.ensures.exact
