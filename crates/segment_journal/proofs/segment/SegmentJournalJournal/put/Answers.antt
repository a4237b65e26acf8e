use Rattle.std.proofs.Common.{◌≡◌, ◌≤◌, ◌++◌, [], ◌∷◌, List, ℕ, length, IsTrue, IsSomeAnd, is_some, false, Ok, sym, ap, ◌∙◌, subst, arith}
use Rattle.std.proofs.lemmas.List.Elements.{All-push}
use Rattle.disk_base.specs.Moments.{LeavesOnly}
use Rattle.log_base.specs.Wide.{IsBytes}
use Rattle.segment_journal.specs.Journalled.{IsPayload}
use Rattle.segment_journal.specs.File.{recovered, HoldsEither, IsBeforeOrAfter}
use Rattle.segment_journal.specs.Kept.{AllHold, IsFrameOf}
use Rattle.segment_journal.specs.OnDisk.{OnDisk}
use Rattle.segment_journal.proofs.Crash.{length-framed}
use Rattle.segment_journal.proofs.Recovery.{recovered-holds}
use Rattle.segment_journal.proofs.Journals.{either-recovers, idle-holds, room-for, leaves-weaker}
use Rattle.segment_journal.proofs.segment.SegmentJournalJournal.put.Goals as goal

pub keep-requires-clause-bytes : goal.keep-requires-clause-bytes
keep-requires-clause-bytes g c =
    let room = subst (λ (v : OnDisk g.row.D.Denot). IsSomeAnd v.journal.room (λ most. length c.args.payload.now ≤ most)) (sym c.self.view_is) c.requires.room in
    let enough = room-for c.self.inside.outgoing.room (length c.args.payload.now) (g.D.Disk.writes_left c.self.inside.disk) (g.D.Disk.bytes_left c.self.inside.disk) room c.self.invariant.on_disk in
    omega (arith, ap length (c.frame.ensures ∙ c.take_in-copy.ensures.frame), length-framed c.args.payload.now, enough)

pub returns-in-Ok-clause-any_moment : goal.returns-in-Ok-clause-any_moment
returns-in-Ok-clause-any_moment g c =
    let list = c.self.inside.list.list in
    let payload = c.args.payload.now in
    let kept = c.self.invariant in
    let idle : is_some c.self.inside.flight ≡ false = subst (λ (v : OnDisk g.row.D.Denot). v.journal.halted ≡ false) (sym c.self.view_is) c.requires.running in
    let bytes : IsBytes payload = λ i. omega (arith, c.type_inv.payload i) in
    let is : IsPayload payload = record { bytes = bytes; size = c.requires.size } in
    let frame : IsFrameOf c.end-gate.result c.frame.result.now list payload = record { gate_is = c.end-gate.ensures.place; frame_is = c.frame.ensures ∙ c.take_in-copy.ensures.frame } in
    subst (λ (v : OnDisk g.row.D.Denot). IsTrue (g.D.Disk.keeps_synced v.disk) → LeavesOnly g.D.Disk.moment g.D.Disk.left_since v.disk c.keep.new.self (IsBeforeOrAfter v.journal.payloads payload)) c.self.view_is
    (λ keeps.
    let held : AllHold (g.D.Disk.may_leave c.self.inside.disk) list = λ b image. idle-holds list c.self.inside.flight b idle (kept.holds keeps b image) in
    leaves-weaker g.D.Disk.moment g.D.Disk.left_since c.self.inside.disk c.keep.new.self (HoldsEither list payload) (IsBeforeOrAfter list payload) (λ b. either-recovers list payload b kept.payloads is)
    (c.keep.ensures.moments list payload frame keeps held))

pub returns-in-Ok-clause-kept : goal.returns-in-Ok-clause-kept
returns-in-Ok-clause-kept g c =
    let list = c.self.inside.list.list in
    let payload = c.args.payload.now in
    let kept = c.self.invariant in
    let idle : is_some c.self.inside.flight ≡ false = subst (λ (v : OnDisk g.row.D.Denot). v.journal.halted ≡ false) (sym c.self.view_is) c.requires.running in
    let bytes : IsBytes payload = λ i. omega (arith, c.type_inv.payload i) in
    let is : IsPayload payload = record { bytes = bytes; size = c.requires.size } in
    let frame : IsFrameOf c.end-gate.result c.frame.result.now list payload = record { gate_is = c.end-gate.ensures.place; frame_is = c.frame.ensures ∙ c.take_in-copy.ensures.frame } in
    subst (λ (v : OnDisk g.row.D.Denot). IsTrue (g.D.Disk.keeps_synced v.disk) → (b : List ℕ) → g.D.Disk.may_leave c.keep.new.self b → recovered b ≡ Ok (v.journal.payloads ++ payload ∷ [])) c.self.view_is
    (λ keeps b image.
    let held : AllHold (g.D.Disk.may_leave c.self.inside.disk) list = λ d before. idle-holds list c.self.inside.flight d idle (kept.holds keeps d before) in
    recovered-holds (list ++ payload ∷ []) b (All-push IsPayload list payload kept.payloads is) (c.in-Ok.ensures.stable list payload frame keeps held b image))

pub returns-in-Err-clause-any_moment : goal.returns-in-Err-clause-any_moment
returns-in-Err-clause-any_moment g c =
    let list = c.self.inside.list.list in
    let payload = c.args.payload.now in
    let kept = c.self.invariant in
    let idle : is_some c.self.inside.flight ≡ false = subst (λ (v : OnDisk g.row.D.Denot). v.journal.halted ≡ false) (sym c.self.view_is) c.requires.running in
    let bytes : IsBytes payload = λ i. omega (arith, c.type_inv.payload i) in
    let is : IsPayload payload = record { bytes = bytes; size = c.requires.size } in
    let frame : IsFrameOf c.end-gate.result c.frame.result.now list payload = record { gate_is = c.end-gate.ensures.place; frame_is = c.frame.ensures ∙ c.take_in-copy.ensures.frame } in
    subst (λ (v : OnDisk g.row.D.Denot). IsTrue (g.D.Disk.keeps_synced v.disk) → LeavesOnly g.D.Disk.moment g.D.Disk.left_since v.disk c.keep.new.self (IsBeforeOrAfter v.journal.payloads payload)) c.self.view_is
    (λ keeps.
    let held : AllHold (g.D.Disk.may_leave c.self.inside.disk) list = λ b image. idle-holds list c.self.inside.flight b idle (kept.holds keeps b image) in
    leaves-weaker g.D.Disk.moment g.D.Disk.left_since c.self.inside.disk c.keep.new.self (HoldsEither list payload) (IsBeforeOrAfter list payload) (λ b. either-recovers list payload b kept.payloads is)
    (c.keep.ensures.moments list payload frame keeps held))
