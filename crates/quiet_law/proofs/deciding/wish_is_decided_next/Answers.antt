use Rattle.quiet_law.proofs.Next.{wish_next}
use Rattle.quiet_law.proofs.deciding.wish_is_decided_next.Goals as goal

pub returns : goal.returns
returns c = wish_next
