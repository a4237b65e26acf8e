use Rattle.std.proofs.Common.{length, sym, subst, arith}
use Rattle.disk_base.specs.Images.{Torn, Follows}
use Rattle.disk_base.specs.InMemory.{InMemory}
use Rattle.disk_base.specs.Replay.{MayLeave}
use Rattle.disk_base.proofs.Crashes.{Goes, wrote_follows, wrote_elapses, kept_by_follows, kept_by_elapses}
use Rattle.disk_base.proofs.memory_disk.MemoryDiskDisk.write.Goals as goal

-- the planned failure
pub returns-in-Some-clause-images : goal.returns-in-Some-clause-images
returns-in-Some-clause-images c =
    subst (λ (d : InMemory). Follows (Torn c.args.at (length c.args.bytes.now)) (MayLeave c.args.self.now.content.kept) (MayLeave d.content.kept))
    (sym c.break_off.ensures.after) (kept_by_follows c.in-Some.plan c.args.self.now.content.kept c.args.at c.args.bytes.now c.requires.place)

pub returns-in-Some-clause-time : goal.returns-in-Some-clause-time
returns-in-Some-clause-time c =
    subst (λ (d : InMemory). Goes c.args.self.now.content.kept d.content.kept)
    (sym c.break_off.ensures.after) (kept_by_elapses c.in-Some.plan c.args.self.now.content.kept c.args.at c.args.bytes.now c.break_off.ensures.reached)

-- the write that passes
pub returns-clause-images : goal.returns-clause-images
returns-clause-images c =
    subst (λ (d : InMemory). Follows (Torn c.args.at (length c.args.bytes.now)) (MayLeave c.args.self.now.content.kept) (MayLeave d.content.kept))
    (sym c.let_pass.ensures.after) (wrote_follows c.args.self.now.content.kept c.args.at c.args.bytes.now (length c.args.bytes.now) (omega arith) c.requires.place)

pub returns-clause-time : goal.returns-clause-time
returns-clause-time c =
    subst (λ (d : InMemory). Goes c.args.self.now.content.kept d.content.kept)
    (sym c.let_pass.ensures.after) (wrote_elapses c.args.self.now.content.kept c.args.at c.args.bytes.now c.let_pass.ensures.reached)
