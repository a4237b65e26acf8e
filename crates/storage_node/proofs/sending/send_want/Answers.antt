use Rattle.std.proofs.Common.{[], arith}
use Rattle.log_base.specs.Shape.{shape}
use Rattle.node_table.specs.Numbering.{storage_node}
use Rattle.storage_node.proofs.Sizes.{want-length}
use Rattle.storage_node.proofs.Spaces.{space-first}
use Rattle.storage_node.proofs.sending.send_want.Goals as goal

pub send-requires-clause-space : goal.send-requires-clause-space
send-requires-clause-space c = space-first c.args.letters.now c.args.out.now.rooms _ 7 [] (want-length c.args.known c.storage-node.result.0) c.requires.space

pub returns-clause-space : goal.returns-clause-space
returns-clause-space c = λ sizes h. c.send.ensures.space 7 sizes (want-length c.args.known c.storage-node.result.0) h

pub returns-clause-letter : goal.returns-clause-letter
returns-clause-letter c =
    let config = c.args.seat.now.config.in_range in
    let size = want-length c.args.known (storage_node (shape c.args.seat.now.config) c.args.seat.now.shard.0 c.args.seat.now.own.0) in
    ((omega (arith, c.requires.known), omega (arith, c.storage-node.ensures.node, c.storage-node.ensures.within, config.segments, config.gatherers, config.orderers)), omega (arith, size))
