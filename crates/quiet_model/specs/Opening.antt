-- The opening of a run over empty disks: every node starts, orderer 0 is to lead, and all letters are delivered.
use Rattle.std.specs.Prelude.{◌≡◌, [], replicate}
use Rattle.history_frame.specs.declared.inputs.Input.TheVariants.{Lead, Restart}
use Rattle.history_frame.specs.declared.inputs.Mark.TheVariants.{Done, OpenedWithout}
use Rattle.log_base.specs.ClusterShape.{Shape}
use Rattle.node_table.specs.declared.role.Role.{Role}
use Rattle.node_table.specs.Numbering.{IsRole, node_of, nodes_of, orderer_node}
use Rattle.node_model.specs.NodeState.{KeptLists, begun_as}
use Rattle.quiet_model.specs.Moments.{IsRound, Moment, TakeInTurn}
use Rattle.quiet_model.specs.Settled.{Agreed, ListsOf}

-- disks that keep nothing
abbrev pub empty_disks : KeptLists
empty_disks disk = []

-- no list has an entry
abbrev pub no_lists : Shape → ListsOf
no_lists config shard = replicate config.replicas []

-- orderer 0 leads with its first ballot, and nothing is decided
abbrev pub at_first : Shape → Agreed
at_first config = record { ballot = config.orderers; values = []; wishes = [] }

-- every node is down, with empty disks, and no letter is under way
pub record IsBeginning (config : Shape) (moment : Moment) : Type 0 where
  pub nodes : (role : Role) → IsRole config role → moment.nodes (node_of config role) ≡ begun_as config empty_disks (node_of config role) role
  pub queue : moment.queue ≡ []

pub record IsOpening (config : Shape) (before after : Moment) : Type 0 where
  pub started : Moment
  pub restarts : TakeInTurn config Restart OpenedWithout 0 (nodes_of config) before started
  pub lead : IsRound config Lead Done (orderer_node config 0) 1 started after
