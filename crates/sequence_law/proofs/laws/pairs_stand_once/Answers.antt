use Rattle.sequence_law.proofs.Founded.{all_owned, numbers_below}
use Rattle.sequence_law.proofs.laws.pairs_stand_once.Goals as goal

pub returns : goal.returns
returns c = record {
  once = λ config run kept events founded legal. (all_owned config run kept founded events legal).once;
  submitted = λ config run kept events founded legal. (all_owned config run kept founded events legal).origin;
  below = λ config run kept events legal. numbers_below config run kept legal.config_in_range legal.sound;
}
