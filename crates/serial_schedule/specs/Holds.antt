-- A hold, as it is kept: whether items are held, and the questions that they put off.
use Rattle.std.specs.Prelude.{List, Option, Some, None}
use Rattle.schedule_model.specs.declared.duties.PutOff.{PutOff}
use Rattle.serial_schedule.specs.declared.hold.Standing.{Standing}
use Rattle.serial_schedule.specs.declared.hold.Standing.TheVariants.{Settling, Holding}

-- the questions are kept while items are held
abbrev pub hold_of : Standing → List PutOff → Option (List PutOff)
hold_of Settling put_off = None
hold_of Holding put_off = Some put_off
