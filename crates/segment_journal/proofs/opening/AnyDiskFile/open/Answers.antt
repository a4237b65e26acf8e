use Rattle.std.proofs.Common.{◌≡◌, [], IsTrue, refl, sym, subst}
use Rattle.segment_journal.specs.File.{HasStart, Holds}
use Rattle.segment_journal.specs.Kept.{AlikeImages}
use Rattle.segment_journal.proofs.Puts.{only}
use Rattle.segment_journal.proofs.Openings.{short-file, no-payloads, now-begun, recovered-now, short-images, begun-alike, elapses-then}
use Rattle.segment_journal.proofs.opening.AnyDiskFile.open.Goals as goal

pub returns-in-Ok-begin-clause-now : goal.returns-in-Ok-begin-clause-now
returns-in-Ok-begin-clause-now g c =
    let no : HasStart c.in-Ok.bytes.items → ⊥ = λ start. cc (c.has_start.ensures.1 (subst HasStart (sym c.deref-2.ensures.value) start), c.if-has_start.false) in
    let none : c.in-Ok-read_payloads.read.list ≡ [] = no-payloads c.deref.result.now c.in-Ok-read_payloads.read.list (λ start. no (subst HasStart c.deref.ensures.value start)) c.in-Ok-read_payloads.ensures.ok in
    let begun = now-begun (g.D.Disk.reads c.read_all.new.self) (g.D.Disk.reads c.begin.new.self) c.in-Ok-read_payloads.read.list c.in-Ok-begin.ensures.written none in
    recovered-now (g.D.Disk.reads c.begin.new.self) c.in-Ok-read_payloads.read.list none begun

pub returns-in-Ok-begin-clause-holds : goal.returns-in-Ok-begin-clause-holds
returns-in-Ok-begin-clause-holds g c = λ keeps.
    let no : HasStart c.in-Ok.bytes.items → ⊥ = λ start. cc (c.has_start.ensures.1 (subst HasStart (sym c.deref-2.ensures.value) start), c.if-has_start.false) in
    let none : c.in-Ok-read_payloads.read.list ≡ [] = no-payloads c.deref.result.now c.in-Ok-read_payloads.read.list (λ start. no (subst HasStart c.deref.ensures.value start)) c.in-Ok-read_payloads.ensures.ok in
    let begun = now-begun (g.D.Disk.reads c.read_all.new.self) (g.D.Disk.reads c.begin.new.self) c.in-Ok-read_payloads.read.list c.in-Ok-begin.ensures.written none in
    let keeps_read : IsTrue (g.D.Disk.keeps_synced c.read_all.new.self) = subst IsTrue (sym c.read_all.ensures.keeps) keeps in
    only (g.D.Disk.reads c.begin.new.self) (g.D.Disk.may_leave c.begin.new.self) (Holds c.in-Ok-read_payloads.read.list) (c.in-Ok-begin.ensures.stable keeps_read) begun

pub returns-in-Ok-begin-clause-images : goal.returns-in-Ok-begin-clause-images
returns-in-Ok-begin-clause-images g c = λ keeps image left.
    let no : HasStart c.in-Ok.bytes.items → ⊥ = λ start. cc (c.has_start.ensures.1 (subst HasStart (sym c.deref-2.ensures.value) start), c.if-has_start.false) in
    let keeps_read : IsTrue (g.D.Disk.keeps_synced c.read_all.new.self) = subst IsTrue (sym c.read_all.ensures.keeps) keeps in
    let short = short-images (g.D.Disk.reads c.args.self.now) (g.D.Disk.reads c.read_all.new.self) (g.D.Disk.may_leave c.read_all.new.self) c.in-Ok.bytes.items (c.in-Ok.ensures.stable keeps) c.in-Ok.ensures.reads c.in-Ok.ensures.bytes (short-file c.in-Ok.bytes.items no) in
    let alike = begun-alike (g.D.Disk.may_leave c.args.self.now) (g.D.Disk.may_leave c.read_all.new.self) (c.read_all.ensures.images keeps) short in
    alike image (c.begin.ensures.images keeps_read image left)

pub returns-in-Ok-begin-clause-time : goal.returns-in-Ok-begin-clause-time
returns-in-Ok-begin-clause-time g c = λ keeps.
    let no : HasStart c.in-Ok.bytes.items → ⊥ = λ start. cc (c.has_start.ensures.1 (subst HasStart (sym c.deref-2.ensures.value) start), c.if-has_start.false) in
    let keeps_read : IsTrue (g.D.Disk.keeps_synced c.read_all.new.self) = subst IsTrue (sym c.read_all.ensures.keeps) keeps in
    let short = short-images (g.D.Disk.reads c.args.self.now) (g.D.Disk.reads c.read_all.new.self) (g.D.Disk.may_leave c.read_all.new.self) c.in-Ok.bytes.items (c.in-Ok.ensures.stable keeps) c.in-Ok.ensures.reads c.in-Ok.ensures.bytes (short-file c.in-Ok.bytes.items no) in
    let alike = begun-alike (g.D.Disk.may_leave c.args.self.now) (g.D.Disk.may_leave c.read_all.new.self) (c.read_all.ensures.images keeps) short in
    elapses-then _ _ _ (g.D.Disk.left_since c.args.self.now) (g.D.Disk.left_since c.read_all.new.self) (g.D.Disk.left_since c.begin.new.self) (g.D.Disk.may_leave c.args.self.now) _ (AlikeImages (g.D.Disk.may_leave c.args.self.now))
    (c.read_all.ensures.time keeps) (c.begin.ensures.time keeps_read) (λ image now. (image, now, refl)) alike

pub returns-in-Err-begin-clause-images : goal.returns-in-Err-begin-clause-images
returns-in-Err-begin-clause-images g c = λ keeps image left.
    let no : HasStart c.in-Ok.bytes.items → ⊥ = λ start. cc (c.has_start.ensures.1 (subst HasStart (sym c.deref-2.ensures.value) start), c.if-has_start.false) in
    let keeps_read : IsTrue (g.D.Disk.keeps_synced c.read_all.new.self) = subst IsTrue (sym c.read_all.ensures.keeps) keeps in
    let short = short-images (g.D.Disk.reads c.args.self.now) (g.D.Disk.reads c.read_all.new.self) (g.D.Disk.may_leave c.read_all.new.self) c.in-Ok.bytes.items (c.in-Ok.ensures.stable keeps) c.in-Ok.ensures.reads c.in-Ok.ensures.bytes (short-file c.in-Ok.bytes.items no) in
    let alike = begun-alike (g.D.Disk.may_leave c.args.self.now) (g.D.Disk.may_leave c.read_all.new.self) (c.read_all.ensures.images keeps) short in
    alike image (c.begin.ensures.images keeps_read image left)

pub returns-in-Err-begin-clause-time : goal.returns-in-Err-begin-clause-time
returns-in-Err-begin-clause-time g c = λ keeps.
    let no : HasStart c.in-Ok.bytes.items → ⊥ = λ start. cc (c.has_start.ensures.1 (subst HasStart (sym c.deref-2.ensures.value) start), c.if-has_start.false) in
    let keeps_read : IsTrue (g.D.Disk.keeps_synced c.read_all.new.self) = subst IsTrue (sym c.read_all.ensures.keeps) keeps in
    let short = short-images (g.D.Disk.reads c.args.self.now) (g.D.Disk.reads c.read_all.new.self) (g.D.Disk.may_leave c.read_all.new.self) c.in-Ok.bytes.items (c.in-Ok.ensures.stable keeps) c.in-Ok.ensures.reads c.in-Ok.ensures.bytes (short-file c.in-Ok.bytes.items no) in
    let alike = begun-alike (g.D.Disk.may_leave c.args.self.now) (g.D.Disk.may_leave c.read_all.new.self) (c.read_all.ensures.images keeps) short in
    elapses-then _ _ _ (g.D.Disk.left_since c.args.self.now) (g.D.Disk.left_since c.read_all.new.self) (g.D.Disk.left_since c.begin.new.self) (g.D.Disk.may_leave c.args.self.now) _ (AlikeImages (g.D.Disk.may_leave c.args.self.now))
    (c.read_all.ensures.time keeps) (c.begin.ensures.time keeps_read) (λ image now. (image, now, refl)) alike
