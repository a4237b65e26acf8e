use Rattle.std.proofs.Common.{Some, map, ap, subst, sym, ◌∙◌}
use Rattle.command_frame.specs.Streams.{unplaced}
use Rattle.schedule_model.specs.declared.courses.Course.{Course}
use Rattle.schedule_model.specs.Noting.{replies_with}
use Rattle.serial_schedule.specs.Keeping.{IsMade}
use Rattle.serial_schedule.proofs.Placed.{placed-single}
use Rattle.serial_schedule.proofs.noting.go_on.Goals as goal

pub returns-in-Replaces-clause-replies : goal.returns-in-Replaces-clause-replies
returns-in-Replaces-clause-replies c =
    placed-single c.args.replies.now.items c.replace.new.replies.items c.in-Replaces.item c.in-Replaces.reply c.replace.ensures (subst IsMade c.in-Replaces.is c.requires.made)
    ∙ ap (λ (course : Course). replies_with (Some course) c.args.subscriber.now (map unplaced c.args.replies.now.items)) (sym c.in-Replaces.is)
