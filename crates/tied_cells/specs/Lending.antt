-- What becomes of a turn whose machine was lent.
use Rattle.std.specs.Borrow.{Lends, MutBor, Fml}
use denote.RattleType.{RattleType}
use Rattle.tied_cells.specs.declared.turns.HeldCell.{HeldCell}
use Rattle.tied_cells.specs.contracts.turns.HeldCell.{the_row}

-- the turn with another machine
abbrev pub with_machine : {A H : Type 0} → HeldCell A H → A → HeldCell A H
with_machine held machine = record held { cell = record held.cell { machine = machine } }

-- the turn ends with what was left of the machine that was lent
abbrev pub LendsMachine : (A H : RattleType) → MutBor (HeldCell A.Denot H.Denot) → MutBor A.Denot → Fml
LendsMachine A H held result = Lends (the_row A H) A held result (with_machine held.now)
