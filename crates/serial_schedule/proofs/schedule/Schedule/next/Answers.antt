use Rattle.std.proofs.Common.{Result, Ok, Err, ap, ◌∙◌}
use Rattle.std.specs.Prelude.{OnErr}
use Rattle.schedule_model.specs.Scheduling.{ready}
use Rattle.schedule_model.proofs.Ready.{ready-ready}
use Rattle.serial_schedule.proofs.schedule.Schedule.next.Goals as goal

-- what is so is so of every error
on_err : {T E P : Type 0} (result : Result T E) → P → OnErr result P
on_err (Ok value) h = tt
on_err (Err error) h = h

pub returns-in_err-turn-clause-err : goal.returns-in_err-turn-clause-err
returns-in_err-turn-clause-err c =
    on_err c.from_residual-in_err-turn.result
    (ap ready c.in_err-turn.ensures.err ∙ ap ready c.in_ok-make_ready.ensures.ok ∙ ready-ready c.args.self.now)
