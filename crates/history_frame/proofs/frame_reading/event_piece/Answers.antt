use Rattle.std.proofs.Common.{arith}
use Rattle.history_frame.proofs.PieceLaws.{event_finds}
use Rattle.history_frame.proofs.frame_reading.event_piece.Goals as goal

pub returns : goal.returns
returns c = event_finds c.args.stage c.args.events c.args.body.now c.read_event.result c.read_event.new.piece c.requires.inside (λ i. omega (arith, c.type_inv.body i)) c.requires.size c.read_event.ensures
