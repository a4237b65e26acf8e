use Rattle.disk_base.proofs.Tearing as tearing
use Rattle.disk_base.proofs.laws.crashes_tear_writes.Goals as goal

pub returns-clause-lost : goal.returns-clause-lost
returns-clause-lost c = tearing.lost

pub returns-clause-joined : goal.returns-clause-joined
returns-clause-joined c = tearing.joined

pub returns-clause-split : goal.returns-clause-split
returns-clause-split c = tearing.split

pub returns-clause-stays : goal.returns-clause-stays
returns-clause-stays c = tearing.stays

pub returns-clause-no_shorter : goal.returns-clause-no_shorter
returns-clause-no_shorter c = tearing.no_shorter

pub returns-clause-no_longer : goal.returns-clause-no_longer
returns-clause-no_longer c = tearing.no_longer
