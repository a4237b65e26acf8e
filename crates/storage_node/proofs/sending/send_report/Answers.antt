use Rattle.std.proofs.Common.{[]}
use Rattle.storage_node.proofs.Sizes.{report-length}
use Rattle.storage_node.proofs.Spaces.{space-first}
use Rattle.storage_node.proofs.sending.send_report.Goals as goal

pub send-requires-clause-space : goal.send-requires-clause-space
send-requires-clause-space c = space-first c.args.letters.now c.args.out.now.rooms _ 25 [] (report-length c.args.seat.now.shard.0 c.args.seat.now.own.0 c.args.lengths c.requires.lengths) c.requires.space

pub returns-clause-space : goal.returns-clause-space
returns-clause-space c = λ sizes h. c.send.ensures.space 25 sizes (report-length c.args.seat.now.shard.0 c.args.seat.now.own.0 c.args.lengths c.requires.lengths) h
