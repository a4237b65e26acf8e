use Rattle.std.proofs.Common.{refl}
use Rattle.log_base.specs.Shape.{shape}
use Rattle.node_table.specs.Numbering.{nodes_of}
use Rattle.lane_work.proofs.Tries.{call_made}
use Rattle.lane_work.proofs.calling.ask.Goals as goal

pub returns-in-Answered-clause-asked : goal.returns-in-Answered-clause-asked
returns-in-Answered-clause-asked g c =
    call_made (nodes_of (shape c.args.cluster.now.config)) c.args.due.now.node.0 c.args.pass.now.account c.tries.pass.account c.call.new.pass.account
    c.args.pass.now.seat.me.0.own c.tries.pass.seat.me c.call.new.pass.seat.me c.tries.invariant.own c.tries.invariant.account
    c.args.due.now refl c.in_ok-call.call c.in_ok-call.ensures c.in-Answered.place c.in-Answered.reply c.in_ok-reply.field-0 c.in-Answered.is c.in_ok-reply.ensures.answer
