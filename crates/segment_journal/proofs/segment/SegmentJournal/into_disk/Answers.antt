use Rattle.std.proofs.Common.{List, ℕ, IsTrue, subst}
use Rattle.segment_journal.specs.Kept.{RecoversKept}
use Rattle.segment_journal.specs.OnDisk.{OnDisk}
use Rattle.segment_journal.proofs.Journals.{kept-recovers}
use Rattle.segment_journal.proofs.segment.SegmentJournal.into_disk.Goals as goal

pub returns-clause-images : goal.returns-clause-images
returns-clause-images g c =
    let kept = c.self.invariant in
    subst (λ (v : OnDisk g.row.D.Denot). IsTrue (g.D.Disk.keeps_synced v.disk) → (b : List ℕ) → g.D.Disk.may_leave c.self.inside.disk b → RecoversKept v.journal.payloads v.journal.flight b) c.self.view_is
    (λ keeps b image. kept-recovers c.self.inside.list.list c.self.inside.flight b kept.payloads kept.in_flight (kept.holds keeps b image))
