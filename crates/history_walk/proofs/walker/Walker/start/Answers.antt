use Rattle.log_base.specs.Shape.{shape}
use Rattle.node_model.specs.Sound.{payloads_on}
use Rattle.history_walk.proofs.Begun.{sound_any}
use Rattle.history_walk.proofs.walker.Walker.start.Goals as goal

pub begin-requires : goal.begin-requires
begin-requires c = sound_any (shape c.args.config) c.args.run (payloads_on c.args.kept.items) c.requires
