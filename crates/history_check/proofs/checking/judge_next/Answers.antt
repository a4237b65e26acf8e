use Rattle.std.proofs.Common.{◌≡◌, ℕ, Err, ap, subst, sym}
use Rattle.log_base.specs.Outside.{Rose, unread}
use Rattle.history_check.specs.Verdicts.{IsFault}
use Rattle.history_check.proofs.NextLaws.{comes_next, ends, fault_is, goes_on}
use Rattle.history_check.proofs.checking.judge_next.Goals as goal

pub returns-in-End-clause-course : goal.returns-in-End-clause-course
returns-in-End-clause-course g c = λ before pieces stands.
    let left = g.S.Source.left in
    ends before (unread c.args.reader.now.pending (left c.args.source.now)) (unread c.next_into.new.self.pending (left c.next_into.new.source)) c.args.reader.now c.next_into.new.self c.args.judge.now pieces stands
    c.next_into.new.piece c.in-End.is (c.in-Ok.ensures.answers stands.given.fault)

pub take-requires : goal.take-requires
take-requires g c =
    let left = g.S.Source.left in
    let stands = c.requires.2 in (
      c.requires.1,
      stands.judged,
      comes_next c.requires.0 (unread c.args.reader.now.pending (left c.args.source.now)) (unread c.next_into.new.self.pending (left c.next_into.new.source)) c.args.reader.now c.next_into.new.self c.args.judge.now c.requires.1 stands
          c.next_into.new.piece c.in_default.not-End (c.in-Ok.ensures.answers stands.given.fault),
    )

pub returns-in_default : goal.returns-in_default
returns-in_default g c =
    let left = g.S.Source.left in
    let now = unread c.args.reader.now.pending (left c.args.source.now) in
    let after = unread c.next_into.new.self.pending (left c.next_into.new.source) in
    record {
      course = λ before pieces stands.
          goes_on before now after c.args.reader.now c.next_into.new.self c.args.judge.now pieces stands c.next_into.new.piece c.take.new.self c.in_default.not-End (c.in-Ok.ensures.answers stands.given.fault)
          (c.in_ok-take-in_default.ensures pieces stands.judged
          (comes_next before now after c.args.reader.now c.next_into.new.self c.args.judge.now pieces stands c.next_into.new.piece c.in_default.not-End (c.in-Ok.ensures.answers stands.given.fault)));
      fault = tt;
      taken = c.next_into.ensures.taken c.requires.2.given.fault;
      later = c.next_into.ensures.later;
    }

pub returns-in-Err-clause-fault : goal.returns-in-Err-clause-fault
returns-in-Err-clause-fault g c = λ before pieces stands.
    let left = g.S.Source.left in
    let Stops : ℕ → Type 0 = λ at. Rose (g.S.Source.faults c.args.source.now) (g.S.Source.faults c.next_into.new.source) × (at ≡ c.next_into.new.self.taken) in
    subst (IsFault Stops before) (sym c.told.ensures)
    (fault_is before (unread c.args.reader.now.pending (left c.args.source.now)) (unread c.next_into.new.self.pending (left c.next_into.new.source)) c.args.reader.now c.next_into.new.self c.args.judge.now pieces stands
    Stops c.in-Err.fault (c.in-Err.ensures.answers stands.given.fault) (λ at e. c.in-Err.ensures.read stands.given.fault at (ap Err e)))
