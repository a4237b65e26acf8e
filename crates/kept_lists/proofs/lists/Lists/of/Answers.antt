use Rattle.std.proofs.Common.{◌<◌, ◌≢◌, length, refl, sym, subst, ◌∙◌, arith, below_more, get_or-set_other, get_or-set_same, length-set}
use Rattle.kept_lists.specs.Starts.{IsStart}
use Rattle.kept_lists.proofs.Places.{below_more as start_more, below_none as start_none}
use Rattle.kept_lists.proofs.lists.Lists.of.Goals as goal

pub loop-disk-init : goal.loop-disk-init
loop-disk-init c = record { cells = refl; below = start_none c.args.kept.now 0; starts = λ disk lt. absurd (omega arith) }

pub loop-disk-preserved : goal.loop-disk-preserved
loop-disk-preserved c =
    let kept = c.args.kept.now in
    let starts = c.loop-disk.starts in
    let here = c.loop-disk.disk in
    let start = c.start_from-start.result in
    let lt : here < length starts = omega (arith, c.loop-disk.invariant.cells) in
    record {
      cells = length-set starts here start ∙ c.loop-disk.invariant.cells;
      below = start_more kept here start c.start_from-start.ensures.below;
      starts = below_more _ _
          (λ disk h. let ne : disk ≢ here = omega arith in subst (IsStart kept disk) (sym (get_or-set_other starts here disk start 0 ne)) (c.loop-disk.invariant.starts disk h))
          (subst (IsStart kept here) (sym (get_or-set_same starts here start 0 lt)) c.start_from-start.ensures);
    }
