use Rattle.node_model.proofs.Sounding.{sound_all, sound_each}
use Rattle.node_model.proofs.histories.sound_one_by_one.Goals as goal

pub returns : goal.returns
returns c = record { each = sound_each; all = sound_all }
