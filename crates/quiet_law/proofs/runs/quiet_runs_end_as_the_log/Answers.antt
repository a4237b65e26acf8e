use Rattle.std.proofs.Common.{inl, inr}
use Rattle.quiet_law.proofs.Ending.{run_ended}
use Rattle.quiet_law.proofs.runs.quiet_runs_end_as_the_log.Goals as goal

pub returns-clause-few : goal.returns-clause-few
returns-clause-few c = λ config run items events h few. (run_ended config h.legal.config_in_range run items events h (inl few)).1

pub returns-clause-slots : goal.returns-clause-slots
returns-clause-slots c = λ config run items events h slots. (run_ended config h.legal.config_in_range run items events h (inr slots)).1
