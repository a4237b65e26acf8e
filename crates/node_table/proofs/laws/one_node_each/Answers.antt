use Rattle.node_table.proofs.Roles.{node_of-lt, role_at-node_of}
use Rattle.node_table.proofs.laws.one_node_each.Goals as goal

pub returns-clause-role : goal.returns-clause-role
returns-clause-role c = λ shape role range is. (node_of-lt shape role is, role_at-node_of shape role is)
