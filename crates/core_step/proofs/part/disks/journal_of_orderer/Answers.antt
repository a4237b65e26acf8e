use Rattle.std.proofs.Common.{rules, ◌≡◌, [], ◌∷◌}
use Rattle.core_step.proofs.Handing.{journal_handed}
use Rattle.core_step.proofs.part.disks.journal_of_orderer.Goals as goal

pub returns-clause-holds : goal.returns-clause-holds
returns-clause-holds g c =
    let journal = c.into_journal-journal.result in
    let told = c.into_journal-journal.ensures in
    let alone : c.push.new.self.items ≡ journal ∷ [] = search rules in
    journal_handed g.J.Journal.state c.push.new.self.items journal c.args.node told.journal alone told.payloads told.list told.flight told.runs
