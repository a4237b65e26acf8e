use Rattle.std.proofs.Common.{◌≡◌, ◌++◌, drop, map}
use Rattle.std.specs.List.{AllByRecursion}
use Rattle.log_base.specs.Shape.{shape}
use Rattle.item_course.specs.Asking.{IsPutOff}
use Rattle.schedule_model.specs.Courses.{asked_anew}
use Rattle.schedule_model.specs.Duties.{settling}
use Rattle.item_course.proofs.lines.settle.Given as goal

abbrev pub invariant-loop-late : goal.invariant-loop-late
invariant-loop-late l = (l.duties.items ++ map (asked_anew (shape l.config)) (drop l.late-index l.put_off)
    ≡ settling (shape l.config) ++ map (asked_anew (shape l.config)) l.put_off)
    × AllByRecursion (IsPutOff (shape l.config)) (drop l.late-index l.put_off)
