use Rattle.std.proofs.Common.{◌≡◌, Err, None, ap, subst}
use Rattle.log_base.specs.Outside.{unread, ReadsOn}
use Rattle.history_frame.specs.Frames.{placed}
use Rattle.history_frame.specs.Reader.{HistoryReading, Answers}
use Rattle.history_frame.proofs.ReaderLaws.{fits_frame, give_answers, give_passes, end_answers, err_answers}
use Rattle.history_frame.proofs.history_reader.HistoryReader.next_into.Goals as goal

pub give-requires : goal.give-requires
give-requires g c =
    let read = rw c.in-Ok-Some.field-0-is at c.in-Ok-Some.ensures.finds in
    fits_frame _ _ _ _ c.read_framed.new.piece c.in-Ok-Some.size read

pub returns-in-Ok-Some-clause-answers : goal.returns-in-Ok-Some-clause-answers
returns-in-Ok-Some-clause-answers g c =
    let read = rw c.in-Ok-Some.field-0-is at c.in-Ok-Some.ensures.finds in
    subst (λ (v : HistoryReading). v.fault ≡ None → Answers v c.give.new.self (unread v.pending (g.S.Source.left c.args.source.now)) (unread c.give.new.self.pending (g.S.Source.left c.read_framed.new.source)) (placed c.give.result c.read_framed.new.piece)) c.self.view_is
    (λ none. give_answers _ c.give.new.self c.read_framed.new.pieces.pending c.read_framed.new.pieces.taken _ (g.S.Source.left c.read_framed.new.source) c.read_framed.new.piece c.in-Ok-Some.size c.give.result read c.give.ensures.given c.give.ensures.refused)

pub returns-in-Ok-Some-clause-passes : goal.returns-in-Ok-Some-clause-passes
returns-in-Ok-Some-clause-passes g c =
    let old : HistoryReading = record {
      pending = c.self.inside.pieces.pending;
      taken = c.self.inside.pieces.taken;
      stage = c.self.inside.stage;
      counts = record { events = c.self.inside.events; event_bytes = c.self.inside.event_bytes; kept_bytes = c.self.inside.kept_bytes };
      offset = c.self.inside.offset;
      fault = c.self.inside.fault;
    } in
    let read = rw c.in-Ok-Some.field-0-is at c.in-Ok-Some.ensures.finds in
    subst (λ (v : HistoryReading). v.fault ≡ None → ReadsOn (unread v.pending (g.S.Source.left c.args.source.now)) (unread c.give.new.self.pending (g.S.Source.left c.read_framed.new.source))) c.self.view_is
    (λ none. give_passes old c.give.new.self c.read_framed.new.pieces.pending c.read_framed.new.pieces.taken _ (g.S.Source.left c.read_framed.new.source) c.read_framed.new.piece c.in-Ok-Some.size c.give.result read c.give.ensures.given c.give.ensures.refused)

pub returns-in-Ok-None-clause-answers : goal.returns-in-Ok-None-clause-answers
returns-in-Ok-None-clause-answers g c =
    let found = rw c.in-Ok-None.field-0-is at c.in-Ok-None.ensures.finds in
    subst (λ (v : HistoryReading). v.fault ≡ None → Answers v c.end.new.self (unread v.pending (g.S.Source.left c.args.source.now)) (unread c.end.new.self.pending (g.S.Source.left c.read_framed.new.source)) (placed c.end.result c.end.new.piece)) c.self.view_is
    (λ none. end_answers _ c.end.new.self c.read_framed.new.pieces.pending c.read_framed.new.pieces.taken _ (g.S.Source.left c.read_framed.new.source) (placed c.end.result c.end.new.piece) found c.end.ensures.before c.end.ensures.inside)

pub returns-in-Err-clause-answers : goal.returns-in-Err-clause-answers
returns-in-Err-clause-answers g c =
    subst (λ (v : HistoryReading). v.fault ≡ None → Answers v c.fail.new.self (unread v.pending (g.S.Source.left c.args.source.now)) (unread c.fail.new.self.pending (g.S.Source.left c.read_framed.new.source)) (placed c.fail.result c.read_framed.new.piece)) c.self.view_is
    (λ none. err_answers _ c.fail.new.self c.read_framed.new.pieces.pending c.read_framed.new.pieces.taken _ (g.S.Source.left c.read_framed.new.source) c.read_framed.new.piece c.in-Err.fault c.fail.result c.in-Err.ensures.finds
    (λ at e. c.in-Err.ensures.bad at (ap Err e)) c.fail.ensures.answer c.fail.ensures.kept)
