use Rattle.std.proofs.Common.{◌≡◌, IfOk, subst, sym}
use Rattle.log_base.specs.Shape.{shape}
use Rattle.schedule_model.specs.declared.duties.Awaited.{Awaited}
use Rattle.schedule_model.specs.Courses.{course_of}
use Rattle.item_course.proofs.courses.course_after.Goals as goal

pub returns-in-Held : goal.returns-in-Held
returns-in-Held c =
    subst (λ (awaited : Awaited). IfOk c.after_question.result (λ course. course ≡ course_of (shape c.args.config.now) awaited c.args.reply.now)) (sym c.in-Held.is)
    (c.after_question.ensures (shape c.args.config.now))
