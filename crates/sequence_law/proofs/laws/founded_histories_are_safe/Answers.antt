use Rattle.sequence_law.proofs.Agreeing.{one_list}
use Rattle.sequence_law.proofs.Concluding.{acknowledged, refused}
use Rattle.sequence_law.proofs.Founded.{all_owned}
use Rattle.sequence_law.proofs.Reading.{pending_unknown, reads_agree}
use Rattle.sequence_law.proofs.laws.founded_histories_are_safe.Goals as goal

pub returns : goal.returns
returns c config run kept events founded legal = record {
  decided = one_list config run kept founded events legal;
  reads = reads_agree config run kept founded events legal;
  acknowledged = acknowledged config run kept founded events legal (all_owned config run kept founded);
  refused = refused config run kept founded events legal (all_owned config run kept founded);
  pending = pending_unknown config run kept founded (all_owned config run kept founded) events legal;
}
