use Rattle.std.proofs.Common.{refl}
use Rattle.storage_node.proofs.Counting.{counts-same}
use Rattle.storage_node.proofs.Sounding.{sound-down, turned-from}
use Rattle.storage_node.proofs.Starting.{turns-stopped}
use Rattle.storage_node.proofs.node.StorageNode.stop.Goals as goal

pub invariant_of-self : goal.invariant_of-self
invariant_of-self g c = record {
  replica = c.self.invariant.replica;
  sound = sound-down _ _ c.self.invariant.sound;
  nothing_sent = c.self.invariant.nothing_sent;
}

pub returns-clause-turn : goal.returns-clause-turn
returns-clause-turn g c =
    turned-from _ _ _ _ _ c.self.view_is
    (turns-stopped _ _ c.silent.result c.self.invariant.sound refl refl (counts-same _ _ refl) c.silent.ensures.mark c.silent.ensures.outputs c.silent.ensures.reply)
