use Rattle.std.proofs.Common.{arith}
use Rattle.kept_lists.proofs.Spelled.{entry_is}
use Rattle.kept_lists.proofs.promises.spelled_entry.Goals as goal

pub returns : goal.returns
returns c = entry_is c.args.payload.now c.read_entry.result (λ i. omega (arith, c.type_inv.payload i)) c.read_entry.ensures.payload
