use Rattle.std.proofs.Common.{[]}
use Rattle.log_base.specs.Shape.{shape}
use Rattle.node_model.specs.Sound.{payloads_on}
use Rattle.history_check.proofs.WrittenLaws.{events_named}
use Rattle.history_check.proofs.laws.letters_are_named.Goals as goal

pub returns : goal.returns
returns c history lawful = events_named (shape history.config) history.run (payloads_on history.kept) [] history.events lawful.follow
