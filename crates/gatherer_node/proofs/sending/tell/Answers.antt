use Rattle.std.proofs.Common.{arith, rules}
use Rattle.log_base.specs.Shape.{shape}
use Rattle.gatherer_node.proofs.Heard.{due_is_heard}
use Rattle.gatherer_node.proofs.sending.tell.Goals as goal

pub send_least-requires-clause-message : goal.send_least-requires-clause-message
send_least-requires-clause-message c =
    (search arith, (due_is_heard (shape c.args.config.now) c.args.index c.args.reports.now c.args.shard.0 c.in-Some.lengths c.requires.reports (search rules)).0)
