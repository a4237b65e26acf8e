use Rattle.std.proofs.Common.{refl}
use Rattle.history_check.proofs.CourseLaws.{end_of, given_none}
use Rattle.history_check.proofs.JudgeLaws.{reads_history}
use Rattle.history_check.proofs.checking.judge_history.Goals as goal

pub judge_all-requires-clause-new : goal.judge_all-requires-clause-new
judge_all-requires-clause-new g c =
    record { given = given_none (g.S.Source.left c.args.source.now) c.new-reader.result c.new-reader.ensures; judged = (0, refl) }

pub verdict-requires : goal.verdict-requires
verdict-requires g c =
    let all = c.in_ok-judge.ensures.judge in
    (all.0, all.1.so_far.judged, all.1.inside)

pub returns-clause-verdict : goal.returns-clause-verdict
returns-clause-verdict g c =
    let left = g.S.Source.left in
    let all = c.in_ok-judge.ensures.judge in
    reads_history (left c.args.source.now) (left c.judge_all.new.source) c.judge_all.new.reader c.in_ok-judge.judge all.0 c.in_ok-verdict.verdict all.1
    (c.in_ok-verdict.ensures all.0 all.1.so_far.judged all.1.inside)
    (end_of c.judge_all.new.reader.pending (left c.judge_all.new.source) all.1.at_end)
