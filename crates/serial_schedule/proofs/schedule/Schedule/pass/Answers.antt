use Rattle.std.proofs.Common.{subst, sym}
use Rattle.std.specs.List.{AllByRecursion}
use Rattle.log_base.specs.Shape.{shape}
use Rattle.serial_schedule.specs.Keeping.{IsDuty}
use Rattle.schedule_model.proofs.Kept.{each-due}
use Rattle.serial_schedule.proofs.schedule.Schedule.pass.Goals as goal

pub invariant_of-self : goal.invariant_of-self
invariant_of-self c =
    let kept = c.self.invariant.kept in
    record {
      kept = record {
        run_fits = kept.run_fits;
        each_item = kept.each_item;
        each_duty = subst (AllByRecursion (IsDuty (shape c.self.inside.config))) (sym c.pass_over.ensures.due)
            (each-due (IsDuty (shape c.self.inside.config)) c.self.inside.queue.items c.self.inside.duties.items kept.each_duty);
        answer = kept.answer;
        questions = kept.questions;
        lanes = kept.lanes;
        room = kept.room;
      };
      lanes_are = c.self.invariant.lanes_are;
      records_are = c.self.invariant.records_are;
    }
