use Rattle.segment_journal.proofs.Recovery as recovery
use Rattle.segment_journal.proofs.Spellings as spellings
use Rattle.segment_journal.proofs.laws.files_recover.Goals as goal

pub returns-clause-closed : goal.returns-clause-closed
returns-clause-closed c = recovery.recovered-closed

pub returns-clause-short : goal.returns-clause-short
returns-clause-short c = recovery.recovered-short

pub returns-clause-broken : goal.returns-clause-broken
returns-clause-broken c = recovery.recovered-broken

pub returns-clause-spelled : goal.returns-clause-spelled
returns-clause-spelled c = λ bytes payloads fits long is. let so = spellings.recovered-spelled bytes payloads fits long is in (so.ends, so.each)

pub returns-clause-gates : goal.returns-clause-gates
returns-clause-gates c = spellings.from-gate
