use Rattle.std.proofs.Common.{◌≡◌, sym, ap, ◌∙◌, subst}
use Rattle.disk_base.specs.Images.{TornBy}
use Rattle.disk_base.specs.InMemory.{InMemory}
use Rattle.disk_base.specs.Replay.{Recorded, after_sync}
use Rattle.disk_base.proofs.Crashes.{Goes, sync_elapses}
use Rattle.disk_base.proofs.memory_disk.MemoryDiskDisk.sync.Goals as goal

-- a sync begins an interval, or changes nothing
pub returns-clause-time : goal.returns-clause-time
returns-clause-time c =
    let content : c.self.inside.content ≡ c.args.self.now.content = ap (λ (d : InMemory). d.content) c.self.view_is in
    let after = c.sync.ensures.after ∙ ap (λ (r : Recorded). let s : Recorded = record { kept = after_sync r.kept; writes_left = r.writes_left; bytes_left = r.bytes_left } in s) content in
    let reached = subst (λ (r : Recorded). TornBy r.kept.since r.kept.synced r.kept.seen) content c.sync.ensures.reached in
    subst (λ (r : Recorded). Goes c.args.self.now.content.kept r.kept) (sym after) (sync_elapses c.args.self.now.content.kept reached)
