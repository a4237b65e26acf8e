-- Nodes of which one is replaced.
use Rattle.std.specs.Prelude.{ℕ, ◌==◌, if◌then◌else◌}
use Rattle.node_model.specs.OrdererNode.{Node}

abbrev pub replaced : (ℕ → Node) → ℕ → Node → ℕ → Node
replaced node i new j = if j == i then new else node j
