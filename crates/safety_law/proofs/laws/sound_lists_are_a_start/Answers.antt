use Rattle.node_model.specs.Machine.{IsAny}
use Rattle.safety_law.proofs.Start.{start_fits}
use Rattle.safety_law.proofs.laws.sound_lists_are_a_start.Goals as goal

pub returns : goal.returns
returns c = λ config kept range sound. start_fits config range IsAny kept sound
