use Rattle.std.proofs.Common.{ℕ, [], inr, refl, subst, sym, arith}
use Rattle.log_base.specs.Outside.{TakesOn, unread}
use Rattle.log_base.proofs.Taking.{takes_none, takes_then}
use Rattle.history_check.proofs.NextLaws.{fault_more, one_judged}
use Rattle.history_check.proofs.checking.judge_all.Goals as goal

pub frames-init : goal.frames-init
frames-init g c =
    let left = g.S.Source.left c.args.source.now in
    record {
      judged = record { pieces = []; stands = c.requires.new; many = refl };
      taken = subst (λ (n : ℕ). TakesOn 0 n left left) (sym c.requires.untaken) (takes_none 0 left (omega arith));
      later = omega arith;
    }

pub judge_next-requires : goal.judge_next-requires
judge_next-requires g c = (g.S.Source.left c.args.source.now, c.frames.invariant.judged.pieces, c.frames.invariant.judged.stands)

-- one frame more
pub frames-preserved : goal.frames-preserved
frames-preserved g c =
    let left = g.S.Source.left in
    let so_far = c.frames.invariant in
    let step = rw c.in-Ok-Goes.field-0-is at c.in-Ok-Goes.ensures.course in
    record {
      judged = one_judged (left c.args.source.now) (unread c.judge_next.new.reader.pending (left c.judge_next.new.source)) c.judge_next.new.reader c.judge_next.new.judge so_far.judged.pieces c.frames._count so_far.judged.many
          (step (left c.args.source.now) so_far.judged.pieces so_far.judged.stands);
      taken = takes_then 0 c.frames.reader.taken c.judge_next.new.reader.taken (left c.args.source.now) (left c.frames.source) (left c.judge_next.new.source) so_far.taken c.in-Ok-Goes.ensures.taken;
      later = omega (arith, so_far.later, c.in-Ok-Goes.ensures.later);
    }

pub returns-in-Ok-Ends-clause-judge : goal.returns-in-Ok-Ends-clause-judge
returns-in-Ok-Ends-clause-judge g c =
    let so_far = c.frames.invariant.judged in
    let step = rw c.in-Ok-Ends.field-0-is at c.in-Ok-Ends.ensures.course in
    (so_far.pieces, step (g.S.Source.left c.args.source.now) so_far.pieces so_far.stands)

pub returns-in-Err-clause-fault : goal.returns-in-Err-clause-fault
returns-in-Err-clause-fault g c =
    let left = g.S.Source.left in
    let so_far = c.frames.invariant in
    let earlier = so_far.later in
    fault_more _ _ (left c.args.source.now) c.in-Err.fault
    (λ at stops. (
      omega (arith, stops.0, earlier),
      subst (λ (n : ℕ). TakesOn 0 n (left c.args.source.now) (left c.judge_next.new.source)) (sym stops.1)
          (takes_then 0 c.frames.reader.taken c.judge_next.new.reader.taken (left c.args.source.now) (left c.frames.source) (left c.judge_next.new.source) so_far.taken c.in-Err.ensures.taken),
    ))
    (c.in-Err.ensures.fault (left c.args.source.now) so_far.judged.pieces so_far.judged.stands)

-- there are more frames
pub returns-clause-fault : goal.returns-clause-fault
returns-clause-fault g c =
    let so_far = c.frames.invariant.judged in
    inr (
      refl,
      record {
        after = unread c.frames.reader.pending (g.S.Source.left c.frames.source);
        pieces = so_far.pieces;
        read = so_far.stands.given.read;
        many = omega (arith, so_far.many);
      },
    )
