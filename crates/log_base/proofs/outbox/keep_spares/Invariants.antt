use Rattle.std.proofs.Common.{vec_len}
use Rattle.log_base.proofs.outbox.keep_spares.Given as goal

abbrev pub decreases-spares : goal.decreases-spares
decreases-spares l = vec_len l.spares
