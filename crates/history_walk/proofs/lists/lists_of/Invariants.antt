use Rattle.node_model.specs.Sound.{payloads_on}
use Rattle.history_walk.specs.Beginning.{AreLists}
use Rattle.history_walk.proofs.lists.lists_of.Given as goal

-- the payloads so far are in the lists of their disks
abbrev pub invariant-loop-one : goal.invariant-loop-one
invariant-loop-one l = AreLists l.journals.items (payloads_on l.yielded) 0 l.count
