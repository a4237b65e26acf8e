use Rattle.std.proofs.Common.{◌≤◌}
use Rattle.log_base.specs.Outside.{TakesOn, unread}
use Rattle.history_check.proofs.NextLaws.{HasJudged}
use Rattle.history_check.proofs.checking.judge_all.Given as goal

-- the frames so far were judged
abbrev pub invariant-frames : goal.invariant-frames
invariant-frames g l = record {
  judged : HasJudged (g.S.Source.left l.initial.source) (unread l.reader.pending (g.S.Source.left l.source)) l.reader l.judge l._count;
  taken : TakesOn 0 l.reader.taken (g.S.Source.left l.initial.source) (g.S.Source.left l.source);
  later : g.S.Source.faults l.initial.source ≤ g.S.Source.faults l.source;
}
