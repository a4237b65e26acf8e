use Rattle.std.proofs.Common.{arith}
use Rattle.log_base.specs.Shape.{shape}
use Rattle.command_frame.proofs.ReadingLaws.{command_read}
use Rattle.command_frame.proofs.reading.read_command.Goals as goal

pub returns : goal.returns
returns c =
    command_read (shape c.args.config.now) c.args.kind c.args.body.now c.read_kind.result c.args.config.now.in_range (λ i. omega (arith, c.type_inv.body i)) c.requires
    c.read_kind.ensures
