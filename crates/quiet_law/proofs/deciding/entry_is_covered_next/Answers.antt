use Rattle.quiet_law.proofs.Next.{cut_next}
use Rattle.quiet_law.proofs.deciding.entry_is_covered_next.Goals as goal

pub returns : goal.returns
returns c = λ config range ballot lists sizes state shard segment entry in_range within live is.
    cut_next config range ballot lists sizes state shard segment entry in_range within live is
