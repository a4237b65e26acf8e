use Rattle.quiet_law.proofs.WorkedRun.{worked_is_quiet, worked_log, worked_replies}
use Rattle.quiet_law.proofs.worked.worked_run_is_quiet.Goals as goal

pub returns : goal.returns
returns c = record { quiet = worked_is_quiet; replies = worked_replies; log = worked_log }
