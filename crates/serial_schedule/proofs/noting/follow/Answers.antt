use Rattle.log_base.specs.Shape.{shape}
use Rattle.serial_schedule.proofs.Followed.{answers-made}
use Rattle.serial_schedule.proofs.noting.follow.Goals as goal

pub go_on-requires : goal.go_on-requires
go_on-requires c = record {
  made = answers-made (shape c.args.config.now) c.args.hold.now c.in-Some.awaited c.args.reply.now c.in_ok-course.course c.requires.single c.in_ok-course.ensures;
}
