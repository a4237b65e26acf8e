-- What events count with.
use Rattle.std.specs.Prelude.{ℕ, ◌+◌, List, [], ◌∷◌}
use Rattle.log_base.specs.Machines.{Meanings}
use Rattle.tied_cells.specs.declared.board.Own.{Own}

-- the sizes of some events together
abbrev pub sizes_of : {S I H : Type 0} → Meanings S I H → List (Own H) → ℕ
sizes_of m [] = 0
sizes_of m (own ∷ list) = m.size own.happened + sizes_of m list
