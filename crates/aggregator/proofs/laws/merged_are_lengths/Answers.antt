use Rattle.aggregator.proofs.Sound.{greater_sound, least_sound}
use Rattle.aggregator.proofs.laws.merged_are_lengths.Goals as goal

pub returns-clause-heard : goal.returns-clause-heard
returns-clause-heard c = greater_sound

pub returns-clause-least : goal.returns-clause-least
returns-clause-least c = least_sound
