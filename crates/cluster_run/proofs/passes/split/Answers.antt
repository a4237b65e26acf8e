use Rattle.std.proofs.Common.{length, refl, ap, arith}
use Rattle.cluster_run.proofs.Moving.{left_others, moved_first}
use Rattle.cluster_run.proofs.passes.split.Goals as goal

pub loop-one-preserved-then-number-count : goal.loop-one-preserved-then-number-count
loop-one-preserved-then-number-count g c =
    let was = c.loop-one.invariant in let step = c.in-Some.ensures.steps.0 in let put = c.push_reserved.ensures in let size = ap length step in
    record {
      first = moved_first _ _ _ _ _ _ c.in-Some.one _ _ c.if-number-count.true refl was.first step put.items;
      others = left_others _ _ _ _ _ c.in-Some.one _ _ c.if-number-count.true refl was.others step;
      few = omega arith;
      some = omega arith;
      first_len = omega arith;
      first_room = omega arith;
      others_room = omega arith;
    }
