-- The questions that are put off while items are held.
use Rattle.std.specs.Prelude.{List, [], Option, Some, None}
use Rattle.schedule_model.specs.declared.duties.PutOff.{PutOff}

-- the questions that were put off
abbrev pub questions_of : Option (List PutOff) → List PutOff
questions_of None = []
questions_of (Some put_off) = put_off

-- a hold begins, and one that began before stays
abbrev pub begun_hold : Option (List PutOff) → Option (List PutOff)
begun_hold None = Some []
begun_hold (Some put_off) = Some put_off
