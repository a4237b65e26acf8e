use Rattle.std.proofs.Common.{sym, subst, map}
use Rattle.std.specs.List.{AllByRecursion}
use Rattle.command_frame.specs.Items.{IsItem}
use Rattle.core_step.specs.Standing.{cluster_node}
use Rattle.log_base.specs.ClusterShape.{Shape}
use Rattle.log_base.specs.Shape.{shape}
use Rattle.quiet_run.proofs.Empty.{nothing_sound, stand_at_first}
use Rattle.quiet_run.proofs.tests.run.Goals as goal

pub drive-requires-clause-items : goal.drive-requires-clause-items
drive-requires-clause-items c = subst (λ (s : Shape). AllByRecursion (IsItem s) c.args.items.now) (sym c.in_ok-config.ensures) c.requires.items

pub drive-requires-clause-sound : goal.drive-requires-clause-sound
drive-requires-clause-sound c = nothing_sound (shape c.in_ok-config.config) 1 c.new-kept.result.items c.new-kept.ensures.items

pub drive-requires-clause-nodes : goal.drive-requires-clause-nodes
drive-requires-clause-nodes c =
    stand_at_first (shape c.in_ok-config.config) 1 c.args.items.now c.new-kept.result.items (map (cluster_node (λ j. j.journal)) c.in_ok-nodes.nodes.items) c.new-kept.ensures.items c.in_ok-nodes.ensures
