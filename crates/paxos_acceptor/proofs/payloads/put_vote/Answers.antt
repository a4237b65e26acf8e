use Rattle.std.proofs.Common.{arith}
use Rattle.message_frame.proofs.Sizes.{value_short}
use Rattle.paxos_acceptor.proofs.payloads.put_vote.Goals as goal

pub put_value-requires-clause-room : goal.put_value-requires-clause-room
put_value-requires-clause-room c = let short = value_short c.args.vote.now.value c.requires.vote.2 in omega (arith, short)
