use Rattle.std.proofs.Common.{inl, List, ℕ, Option, IsTrue, refl, sym, subst}
use Rattle.std.proofs.lemmas.Option.{IfSome_then}
use Rattle.disk_base.specs.Moments.{LeavesOnly}
use Rattle.segment_journal.specs.Kept.{RecoversKept, HasDiskRoom}
use Rattle.segment_journal.specs.Comparing.{IsDifferent}
use Rattle.segment_journal.specs.OnDisk.{OnDisk}
use Rattle.segment_journal.specs.declared.journal.OpenFault.TheVariants.{Damaged}
use Rattle.segment_journal.proofs.Journals.{err-again, kept-recovers, kept-start, never-damaged, never-different, reload-moments}
use Rattle.segment_journal.proofs.segment.SegmentJournalJournal.reload.Goals as goal

-- the disk could not be read
pub invariant_of-self : goal.invariant_of-self
invariant_of-self g c =
    let list = c.self.inside.list.list in
    let flight = c.self.inside.flight in
    let kept = c.self.invariant in
    let room = c.open_anew.ensures.room (subst (λ (r : Option ℕ). HasDiskRoom r (g.D.Disk.writes_left c.self.inside.disk) (g.D.Disk.bytes_left c.self.inside.disk)) (sym c.room.ensures) kept.on_disk) in
    record {
      holds = λ keeps b image.
          let kept_then : IsTrue (g.D.Disk.keeps_synced c.self.inside.disk) = subst IsTrue c.open_anew.ensures.keeps keeps in
          kept.holds kept_then b (c.open_anew.ensures.nothing_written kept_then (λ d before. kept-start list flight d (kept.holds kept_then d before)) b image);
      payloads = kept.payloads;
      in_flight = kept.in_flight;
      is_spare = λ other. absurd (other refl);
      capacity = kept.capacity;
      on_disk = subst (λ (r : Option ℕ). HasDiskRoom r (g.D.Disk.writes_left c.open_anew.new.self) (g.D.Disk.bytes_left c.open_anew.new.self)) c.room.ensures room;
    }

pub returns-in-Err-clause-damaged : goal.returns-in-Err-clause-damaged
returns-in-Err-clause-damaged g c = λ keeping at is.
    let list = c.self.inside.list.list in
    let flight = c.self.inside.flight in
    let kept = c.self.invariant in
    let recovers = λ (keeps : IsTrue (g.D.Disk.keeps_synced c.self.inside.disk)) (b : List ℕ) (image : g.D.Disk.may_leave c.open_anew.new.self b).
    kept-recovers list flight b kept.payloads kept.in_flight (kept.holds keeps b (c.open_anew.ensures.nothing_written keeps (λ d before. kept-start list flight d (kept.holds keeps d before)) b image)) in
    let told = λ (keeps : IsTrue (g.D.Disk.keeps_synced c.self.inside.disk)). g.met.D.Disk.keeper_tells c.open_anew.new.self (subst IsTrue (sym c.open_anew.ensures.keeps) keeps) in
    let read = g.met.D.Disk.reads_image c.open_anew.new.self in
    let keeps = subst (λ (v : OnDisk g.row.D.Denot). IsTrue (g.D.Disk.keeps_synced v.disk)) (sym c.self.view_is) keeping in
    never-damaged (g.D.Disk.reads c.open_anew.new.self) (g.D.Disk.may_leave c.open_anew.new.self) list flight at (told keeps) read (recovers keeps) (c.in-Err.ensures.damaged at (err-again c.in-Err.fault (Damaged at) is))

pub returns-in-Err-clause-damage : goal.returns-in-Err-clause-damage
returns-in-Err-clause-damage g c = λ at is.
    IfSome_then (g.D.Disk.reads c.open_anew.new.self) (c.in-Err.ensures.damaged at (err-again c.in-Err.fault (Damaged at) is)) (λ b damaged. inl damaged)

pub returns-in-Err-clause-images : goal.returns-in-Err-clause-images
returns-in-Err-clause-images g c =
    let list = c.self.inside.list.list in
    let flight = c.self.inside.flight in
    let kept = c.self.invariant in
    subst (λ (v : OnDisk g.row.D.Denot). IsTrue (g.D.Disk.keeps_synced v.disk) → (b : List ℕ) → g.D.Disk.may_leave c.open_anew.new.self b → g.D.Disk.may_leave v.disk b) c.self.view_is
    (λ keeps. c.open_anew.ensures.nothing_written keeps (λ d before. kept-start list flight d (kept.holds keeps d before)))

pub returns-in-Err-clause-any_moment : goal.returns-in-Err-clause-any_moment
returns-in-Err-clause-any_moment g c =
    let list = c.self.inside.list.list in
    let flight = c.self.inside.flight in
    let kept = c.self.invariant in
    subst (λ (v : OnDisk g.row.D.Denot). IsTrue (g.D.Disk.keeps_synced v.disk) → LeavesOnly g.D.Disk.moment g.D.Disk.left_since v.disk c.open_anew.new.self (RecoversKept v.journal.payloads v.journal.flight)) c.self.view_is
    (λ keeps. reload-moments g.D.Disk.moment g.D.Disk.left_since g.D.Disk.may_leave c.self.inside.disk c.open_anew.new.self list flight (g.met.D.Disk.only_now c.self.inside.disk)
    (λ b image. kept-recovers list flight b kept.payloads kept.in_flight (kept.holds keeps b image)) (c.open_anew.ensures.time keeps))

-- it was read
pub returns-in-Ok-compare-clause-images : goal.returns-in-Ok-compare-clause-images
returns-in-Ok-compare-clause-images g c =
    let list = c.self.inside.list.list in
    let flight = c.self.inside.flight in
    let kept = c.self.invariant in
    subst (λ (v : OnDisk g.row.D.Denot). IsTrue (g.D.Disk.keeps_synced v.disk) → (b : List ℕ) → g.D.Disk.may_leave c.open_anew.new.self b → g.D.Disk.may_leave v.disk b) c.self.view_is
    (λ keeps. c.open_anew.ensures.nothing_written keeps (λ d before. kept-start list flight d (kept.holds keeps d before)))

pub returns-in-Ok-compare-clause-any_moment : goal.returns-in-Ok-compare-clause-any_moment
returns-in-Ok-compare-clause-any_moment g c =
    let list = c.self.inside.list.list in
    let flight = c.self.inside.flight in
    let kept = c.self.invariant in
    subst (λ (v : OnDisk g.row.D.Denot). IsTrue (g.D.Disk.keeps_synced v.disk) → LeavesOnly g.D.Disk.moment g.D.Disk.left_since v.disk c.open_anew.new.self (RecoversKept v.journal.payloads v.journal.flight)) c.self.view_is
    (λ keeps. reload-moments g.D.Disk.moment g.D.Disk.left_since g.D.Disk.may_leave c.self.inside.disk c.open_anew.new.self list flight (g.met.D.Disk.only_now c.self.inside.disk)
    (λ b image. kept-recovers list flight b kept.payloads kept.in_flight (kept.holds keeps b image)) (c.open_anew.ensures.time keeps))

-- another list was read
pub invariant_of-self-in-Err-compare : goal.invariant_of-self-in-Err-compare
invariant_of-self-in-Err-compare g c =
    let list = c.self.inside.list.list in
    let flight = c.self.inside.flight in
    let kept = c.self.invariant in
    let room = c.open_anew.ensures.room (subst (λ (r : Option ℕ). HasDiskRoom r (g.D.Disk.writes_left c.self.inside.disk) (g.D.Disk.bytes_left c.self.inside.disk)) (sym c.room.ensures) kept.on_disk) in
    record {
      holds = λ keeps b image.
          let kept_then : IsTrue (g.D.Disk.keeps_synced c.self.inside.disk) = subst IsTrue c.open_anew.ensures.keeps keeps in
          kept.holds kept_then b (c.open_anew.ensures.nothing_written kept_then (λ d before. kept-start list flight d (kept.holds kept_then d before)) b image);
      payloads = kept.payloads;
      in_flight = kept.in_flight;
      is_spare = λ other. absurd (other refl);
      capacity = kept.capacity;
      on_disk = subst (λ (r : Option ℕ). HasDiskRoom r (g.D.Disk.writes_left c.open_anew.new.self) (g.D.Disk.bytes_left c.open_anew.new.self)) c.room.ensures room;
    }

pub returns-in-Err-compare-clause-damaged : goal.returns-in-Err-compare-clause-damaged
returns-in-Err-compare-clause-damaged g c = λ keeping at is.
    let list = c.self.inside.list.list in
    let flight = c.self.inside.flight in
    let kept = c.self.invariant in
    let recovers = λ (keeps : IsTrue (g.D.Disk.keeps_synced c.self.inside.disk)) (b : List ℕ) (image : g.D.Disk.may_leave c.open_anew.new.self b).
    kept-recovers list flight b kept.payloads kept.in_flight (kept.holds keeps b (c.open_anew.ensures.nothing_written keeps (λ d before. kept-start list flight d (kept.holds keeps d before)) b image)) in
    let told = λ (keeps : IsTrue (g.D.Disk.keeps_synced c.self.inside.disk)). g.met.D.Disk.keeper_tells c.open_anew.new.self (subst IsTrue (sym c.open_anew.ensures.keeps) keeps) in
    let read = g.met.D.Disk.reads_image c.open_anew.new.self in
    let keeps = subst (λ (v : OnDisk g.row.D.Denot). IsTrue (g.D.Disk.keeps_synced v.disk)) (sym c.self.view_is) keeping in
    let different = subst (λ (f : Option (List ℕ)). IsDifferent c.in-Ok.read.list list f c.in-Err-compare.at) c.as_ref.ensures.value c.in-Err-compare.ensures.err in
    never-different (g.D.Disk.reads c.open_anew.new.self) (g.D.Disk.may_leave c.open_anew.new.self) list flight c.in-Ok.read.list c.in-Err-compare.at (told keeps) read (recovers keeps) c.in-Ok.ensures.now different

pub returns-in-Err-compare-clause-images : goal.returns-in-Err-compare-clause-images
returns-in-Err-compare-clause-images g c =
    let list = c.self.inside.list.list in
    let flight = c.self.inside.flight in
    let kept = c.self.invariant in
    subst (λ (v : OnDisk g.row.D.Denot). IsTrue (g.D.Disk.keeps_synced v.disk) → (b : List ℕ) → g.D.Disk.may_leave c.open_anew.new.self b → g.D.Disk.may_leave v.disk b) c.self.view_is
    (λ keeps. c.open_anew.ensures.nothing_written keeps (λ d before. kept-start list flight d (kept.holds keeps d before)))

pub returns-in-Err-compare-clause-any_moment : goal.returns-in-Err-compare-clause-any_moment
returns-in-Err-compare-clause-any_moment g c =
    let list = c.self.inside.list.list in
    let flight = c.self.inside.flight in
    let kept = c.self.invariant in
    subst (λ (v : OnDisk g.row.D.Denot). IsTrue (g.D.Disk.keeps_synced v.disk) → LeavesOnly g.D.Disk.moment g.D.Disk.left_since v.disk c.open_anew.new.self (RecoversKept v.journal.payloads v.journal.flight)) c.self.view_is
    (λ keeps. reload-moments g.D.Disk.moment g.D.Disk.left_since g.D.Disk.may_leave c.self.inside.disk c.open_anew.new.self list flight (g.met.D.Disk.only_now c.self.inside.disk)
    (λ b image. kept-recovers list flight b kept.payloads kept.in_flight (kept.holds keeps b image)) (c.open_anew.ensures.time keeps))
