use Rattle.node_model.proofs.Delivering.{delivered_is, delivers}
use Rattle.node_model.proofs.histories.letters_spell_messages.Goals as goal

pub returns : goal.returns
returns c = record { delivered = delivered_is; delivers = delivers }
