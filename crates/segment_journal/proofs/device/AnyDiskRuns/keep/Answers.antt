use Rattle.std.proofs.Common.{◌≡◌, inl, ℕ, ◌+◌, List, [], ◌∷◌, ◌++◌, length, IsTrue, IfSome, sym, ap, ◌∙◌, subst}
use Rattle.std.specs.Option.{option_map}
use Rattle.disk_base.specs.Images.{overwritten}
use Rattle.segment_journal.specs.File.{spelled, framed, Holds}
use Rattle.segment_journal.specs.Kept.{AllHold}
use Rattle.segment_journal.proofs.Crash.{IsStaged}
use Rattle.segment_journal.proofs.Puts.{read-holds, places, torn-holds, read-staged, only, read-after, torn-either, first-moments, second-moments}
use Rattle.segment_journal.proofs.device.AnyDiskRuns.keep.Goals as goal

-- the first write failed
pub returns-in-Err-write_stably-clause-moments : goal.returns-in-Err-write_stably-clause-moments
returns-in-Err-write_stably-clause-moments g c = λ payloads payload is keeps all.
    let disk = g.D.Disk.may_leave in
    let laws = g.met.D.Disk in
    let tells = laws.keeper_tells c.args.self.now keeps in
    let held = read-holds (g.D.Disk.reads c.args.self.now) (disk c.args.self.now) payloads (laws.reads_image c.args.self.now) all in
    let at = places (g.D.Disk.reads c.args.self.now) payloads c.args.gate c.in-Ok.length tells held c.in-Ok.ensures.length is.gate_is in
    let first_at : c.min.result ≡ length (spelled payloads) + 1 = c.min.ensures ∙ at.0 in
    let keeps_asked : IsTrue (g.D.Disk.keeps_synced c.len.new.self) = subst IsTrue (sym c.len.ensures.keeps) keeps in
    first-moments g.D.Disk.moment g.D.Disk.left_since disk payloads payload c.args.self.now c.len.new.self c.write_stably.new.self c.min.result (length c.args.frame.now) (laws.only_now c.args.self.now) all first_at c.len.ensures.images c.len.ensures.time (c.write_stably.ensures.time keeps_asked)

pub returns-in-Err-write_stably-clause-images : goal.returns-in-Err-write_stably-clause-images
returns-in-Err-write_stably-clause-images g c = λ payloads payload is keeps all image left.
    let disk = g.D.Disk.may_leave in
    let laws = g.met.D.Disk in
    let tells = laws.keeper_tells c.args.self.now keeps in
    let held = read-holds (g.D.Disk.reads c.args.self.now) (disk c.args.self.now) payloads (laws.reads_image c.args.self.now) all in
    let at = places (g.D.Disk.reads c.args.self.now) payloads c.args.gate c.in-Ok.length tells held c.in-Ok.ensures.length is.gate_is in
    let first_at : c.min.result ≡ length (spelled payloads) + 1 = c.min.ensures ∙ at.0 in
    let keeps_asked : IsTrue (g.D.Disk.keeps_synced c.len.new.self) = subst IsTrue (sym c.len.ensures.keeps) keeps in
    let still : AllHold (disk c.len.new.self) payloads = λ b now. all b (c.len.ensures.images.no_other b now) in
    inl (torn-holds (disk c.len.new.self) payloads c.min.result (length c.args.frame.now) first_at still image (c.write_stably.ensures.images keeps_asked image left))

-- the second did
pub returns-in-Err-write_stably-2-clause-moments : goal.returns-in-Err-write_stably-2-clause-moments
returns-in-Err-write_stably-2-clause-moments g c = λ payloads payload is keeps all.
    let disk = g.D.Disk.may_leave in
    let laws = g.met.D.Disk in
    let tells = laws.keeper_tells c.args.self.now keeps in
    let held = read-holds (g.D.Disk.reads c.args.self.now) (disk c.args.self.now) payloads (laws.reads_image c.args.self.now) all in
    let at = places (g.D.Disk.reads c.args.self.now) payloads c.args.gate c.in-Ok.length tells held c.in-Ok.ensures.length is.gate_is in
    let first_at : c.min.result ≡ length (spelled payloads) + 1 = c.min.ensures ∙ at.0 in
    let keeps_asked : IsTrue (g.D.Disk.keeps_synced c.len.new.self) = subst IsTrue (sym c.len.ensures.keeps) keeps in
    let keeps_written : IsTrue (g.D.Disk.keeps_synced c.write_stably.new.self) = subst IsTrue (sym c.write_stably.ensures.keeps) keeps_asked in
    let read : IfSome (g.D.Disk.reads c.write_stably.new.self) (IsStaged payloads (framed payload)) =
    subst (λ (f : List ℕ). IfSome (g.D.Disk.reads c.write_stably.new.self) (IsStaged payloads f)) is.frame_is
    (read-staged (g.D.Disk.reads c.args.self.now) (g.D.Disk.reads c.write_stably.new.self) payloads c.args.frame.now c.min.result first_at held
    (c.in-Ok-write_stably.ensures.written ∙ ap (option_map (λ old. overwritten old c.min.result c.args.frame.now)) c.len.ensures.reads)) in
    let staged = only (g.D.Disk.reads c.write_stably.new.self) (disk c.write_stably.new.self) (IsStaged payloads (framed payload)) (c.in-Ok-write_stably.ensures.stable keeps_asked) read in
    let second_at : c.min-2.result ≡ length (spelled payloads) = c.min-2.ensures ∙ at.1 in
    let so_far = first-moments g.D.Disk.moment g.D.Disk.left_since disk payloads payload c.args.self.now c.len.new.self c.write_stably.new.self c.min.result (length c.args.frame.now) (laws.only_now c.args.self.now) all first_at c.len.ensures.images c.len.ensures.time (c.write_stably.ensures.time keeps_asked) in
    second-moments g.D.Disk.moment g.D.Disk.left_since disk payloads payload c.args.self.now c.write_stably.new.self c.write_stably-2.new.self c.min-2.result so_far staged second_at (c.write_stably-2.ensures.time keeps_written)

pub returns-in-Err-write_stably-2-clause-images : goal.returns-in-Err-write_stably-2-clause-images
returns-in-Err-write_stably-2-clause-images g c = λ payloads payload is keeps all image left.
    let disk = g.D.Disk.may_leave in
    let laws = g.met.D.Disk in
    let tells = laws.keeper_tells c.args.self.now keeps in
    let held = read-holds (g.D.Disk.reads c.args.self.now) (disk c.args.self.now) payloads (laws.reads_image c.args.self.now) all in
    let at = places (g.D.Disk.reads c.args.self.now) payloads c.args.gate c.in-Ok.length tells held c.in-Ok.ensures.length is.gate_is in
    let first_at : c.min.result ≡ length (spelled payloads) + 1 = c.min.ensures ∙ at.0 in
    let keeps_asked : IsTrue (g.D.Disk.keeps_synced c.len.new.self) = subst IsTrue (sym c.len.ensures.keeps) keeps in
    let keeps_written : IsTrue (g.D.Disk.keeps_synced c.write_stably.new.self) = subst IsTrue (sym c.write_stably.ensures.keeps) keeps_asked in
    let read : IfSome (g.D.Disk.reads c.write_stably.new.self) (IsStaged payloads (framed payload)) =
    subst (λ (f : List ℕ). IfSome (g.D.Disk.reads c.write_stably.new.self) (IsStaged payloads f)) is.frame_is
    (read-staged (g.D.Disk.reads c.args.self.now) (g.D.Disk.reads c.write_stably.new.self) payloads c.args.frame.now c.min.result first_at held
    (c.in-Ok-write_stably.ensures.written ∙ ap (option_map (λ old. overwritten old c.min.result c.args.frame.now)) c.len.ensures.reads)) in
    let staged = only (g.D.Disk.reads c.write_stably.new.self) (disk c.write_stably.new.self) (IsStaged payloads (framed payload)) (c.in-Ok-write_stably.ensures.stable keeps_asked) read in
    let second_at : c.min-2.result ≡ length (spelled payloads) = c.min-2.ensures ∙ at.1 in
    torn-either (disk c.write_stably.new.self) payloads payload c.min-2.result second_at staged image (c.write_stably-2.ensures.images keeps_written image left)

-- both came through
pub returns-in-Ok-write_stably-2-clause-moments : goal.returns-in-Ok-write_stably-2-clause-moments
returns-in-Ok-write_stably-2-clause-moments g c = λ payloads payload is keeps all.
    let disk = g.D.Disk.may_leave in
    let laws = g.met.D.Disk in
    let tells = laws.keeper_tells c.args.self.now keeps in
    let held = read-holds (g.D.Disk.reads c.args.self.now) (disk c.args.self.now) payloads (laws.reads_image c.args.self.now) all in
    let at = places (g.D.Disk.reads c.args.self.now) payloads c.args.gate c.in-Ok.length tells held c.in-Ok.ensures.length is.gate_is in
    let first_at : c.min.result ≡ length (spelled payloads) + 1 = c.min.ensures ∙ at.0 in
    let keeps_asked : IsTrue (g.D.Disk.keeps_synced c.len.new.self) = subst IsTrue (sym c.len.ensures.keeps) keeps in
    let keeps_written : IsTrue (g.D.Disk.keeps_synced c.write_stably.new.self) = subst IsTrue (sym c.write_stably.ensures.keeps) keeps_asked in
    let read : IfSome (g.D.Disk.reads c.write_stably.new.self) (IsStaged payloads (framed payload)) =
    subst (λ (f : List ℕ). IfSome (g.D.Disk.reads c.write_stably.new.self) (IsStaged payloads f)) is.frame_is
    (read-staged (g.D.Disk.reads c.args.self.now) (g.D.Disk.reads c.write_stably.new.self) payloads c.args.frame.now c.min.result first_at held
    (c.in-Ok-write_stably.ensures.written ∙ ap (option_map (λ old. overwritten old c.min.result c.args.frame.now)) c.len.ensures.reads)) in
    let staged = only (g.D.Disk.reads c.write_stably.new.self) (disk c.write_stably.new.self) (IsStaged payloads (framed payload)) (c.in-Ok-write_stably.ensures.stable keeps_asked) read in
    let second_at : c.min-2.result ≡ length (spelled payloads) = c.min-2.ensures ∙ at.1 in
    let so_far = first-moments g.D.Disk.moment g.D.Disk.left_since disk payloads payload c.args.self.now c.len.new.self c.write_stably.new.self c.min.result (length c.args.frame.now) (laws.only_now c.args.self.now) all first_at c.len.ensures.images c.len.ensures.time (c.write_stably.ensures.time keeps_asked) in
    second-moments g.D.Disk.moment g.D.Disk.left_since disk payloads payload c.args.self.now c.write_stably.new.self c.write_stably-2.new.self c.min-2.result so_far staged second_at (c.write_stably-2.ensures.time keeps_written)

pub returns-in-Ok-write_stably-2-clause-images : goal.returns-in-Ok-write_stably-2-clause-images
returns-in-Ok-write_stably-2-clause-images g c = λ payloads payload is keeps all image left.
    let disk = g.D.Disk.may_leave in
    let laws = g.met.D.Disk in
    let tells = laws.keeper_tells c.args.self.now keeps in
    let held = read-holds (g.D.Disk.reads c.args.self.now) (disk c.args.self.now) payloads (laws.reads_image c.args.self.now) all in
    let at = places (g.D.Disk.reads c.args.self.now) payloads c.args.gate c.in-Ok.length tells held c.in-Ok.ensures.length is.gate_is in
    let first_at : c.min.result ≡ length (spelled payloads) + 1 = c.min.ensures ∙ at.0 in
    let keeps_asked : IsTrue (g.D.Disk.keeps_synced c.len.new.self) = subst IsTrue (sym c.len.ensures.keeps) keeps in
    let keeps_written : IsTrue (g.D.Disk.keeps_synced c.write_stably.new.self) = subst IsTrue (sym c.write_stably.ensures.keeps) keeps_asked in
    let read : IfSome (g.D.Disk.reads c.write_stably.new.self) (IsStaged payloads (framed payload)) =
    subst (λ (f : List ℕ). IfSome (g.D.Disk.reads c.write_stably.new.self) (IsStaged payloads f)) is.frame_is
    (read-staged (g.D.Disk.reads c.args.self.now) (g.D.Disk.reads c.write_stably.new.self) payloads c.args.frame.now c.min.result first_at held
    (c.in-Ok-write_stably.ensures.written ∙ ap (option_map (λ old. overwritten old c.min.result c.args.frame.now)) c.len.ensures.reads)) in
    let staged = only (g.D.Disk.reads c.write_stably.new.self) (disk c.write_stably.new.self) (IsStaged payloads (framed payload)) (c.in-Ok-write_stably.ensures.stable keeps_asked) read in
    let second_at : c.min-2.result ≡ length (spelled payloads) = c.min-2.ensures ∙ at.1 in
    torn-either (disk c.write_stably.new.self) payloads payload c.min-2.result second_at staged image (c.write_stably-2.ensures.images keeps_written image left)

pub returns-in-Ok-write_stably-2-clause-stable : goal.returns-in-Ok-write_stably-2-clause-stable
returns-in-Ok-write_stably-2-clause-stable g c = λ payloads payload is keeps all.
    let disk = g.D.Disk.may_leave in
    let laws = g.met.D.Disk in
    let tells = laws.keeper_tells c.args.self.now keeps in
    let held = read-holds (g.D.Disk.reads c.args.self.now) (disk c.args.self.now) payloads (laws.reads_image c.args.self.now) all in
    let at = places (g.D.Disk.reads c.args.self.now) payloads c.args.gate c.in-Ok.length tells held c.in-Ok.ensures.length is.gate_is in
    let first_at : c.min.result ≡ length (spelled payloads) + 1 = c.min.ensures ∙ at.0 in
    let keeps_asked : IsTrue (g.D.Disk.keeps_synced c.len.new.self) = subst IsTrue (sym c.len.ensures.keeps) keeps in
    let keeps_written : IsTrue (g.D.Disk.keeps_synced c.write_stably.new.self) = subst IsTrue (sym c.write_stably.ensures.keeps) keeps_asked in
    let read : IfSome (g.D.Disk.reads c.write_stably.new.self) (IsStaged payloads (framed payload)) =
    subst (λ (f : List ℕ). IfSome (g.D.Disk.reads c.write_stably.new.self) (IsStaged payloads f)) is.frame_is
    (read-staged (g.D.Disk.reads c.args.self.now) (g.D.Disk.reads c.write_stably.new.self) payloads c.args.frame.now c.min.result first_at held
    (c.in-Ok-write_stably.ensures.written ∙ ap (option_map (λ old. overwritten old c.min.result c.args.frame.now)) c.len.ensures.reads)) in
    let staged = only (g.D.Disk.reads c.write_stably.new.self) (disk c.write_stably.new.self) (IsStaged payloads (framed payload)) (c.in-Ok-write_stably.ensures.stable keeps_asked) read in
    let second_at : c.min-2.result ≡ length (spelled payloads) = c.min-2.ensures ∙ at.1 in
    only (g.D.Disk.reads c.write_stably-2.new.self) (disk c.write_stably-2.new.self) (Holds (payloads ++ payload ∷ [])) (c.in-Ok-write_stably-2.ensures.stable keeps_written)
    (read-after (g.D.Disk.reads c.write_stably.new.self) (g.D.Disk.reads c.write_stably-2.new.self) payloads payload c.min-2.result second_at read c.in-Ok-write_stably-2.ensures.written)
