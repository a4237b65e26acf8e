use Rattle.std.proofs.Common.{◌≡◌, None, subst}
use Rattle.std.specs.Prelude.{IfOk}
use Rattle.log_base.specs.Shape.{shape}
use Rattle.schedule_model.specs.declared.courses.Course.{Course}
use Rattle.serial_schedule.proofs.Followed.{answers-made}
use Rattle.lane_work.specs.declared.stages.Stage.{Stage}
use Rattle.lane_work.specs.Stages.{gone, unplaced_stage}
use Rattle.lane_work.proofs.answers.go_on.Goals as goal

pub take-requires : goal.take-requires
take-requires c =
    answers-made (shape c.args.config.now) None c.args.asking.due.awaited c.args.reply.now c.in_ok-course.course c.requires.single c.in_ok-course.ensures

pub returns : goal.returns
returns c =
    subst (λ (course : Course). IfOk c.take.result (λ (stage : Stage). unplaced_stage stage ≡ gone c.args.asking course)) c.in_ok-course.ensures c.take.ensures
