use Rattle.std.specs.Prelude.{[]}
use Rattle.node_model.proofs.Following.{front}
use Rattle.node_model.proofs.Orderers.{legal_at_orderers}
use Rattle.node_model.proofs.histories.legal_in_parts.Goals as goal

pub returns : goal.returns
returns c = record {
  front = λ config run kept events more legal.
      record { config_in_range = legal.config_in_range; sound = legal.sound; follow = front config run kept [] events more legal.follow };
  orderers = legal_at_orderers;
}
