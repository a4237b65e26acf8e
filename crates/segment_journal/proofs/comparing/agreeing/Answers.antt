use Rattle.std.proofs.Common.{arith}
use Rattle.segment_journal.proofs.Comparisons.{agree-more}
use Rattle.segment_journal.proofs.comparing.agreeing.Goals as goal

pub payloads-preserved : goal.payloads-preserved
payloads-preserved c = (
  omega arith,
  agree-more c.args.read.now.list c.args.kept.now.list c.payloads.same c.get.result.now c.get-in-payloads.result.now c.get.ensures.payload c.get-in-payloads.ensures.payload (c.is_same.ensures.0 c.if-is_same.true) c.payloads.invariant.1,
)
