-- How a storage node starts.
use Rattle.std.specs.Prelude.{◌≡◌, ℕ, List, [], ◌∷◌, IsTrue, Option, Some, None}
use Rattle.history_frame.specs.declared.inputs.Mark.{Mark}
use Rattle.history_frame.specs.declared.inputs.Mark.TheVariants.{OpenedWithout, OpenedWith, StayedDown}
use Rattle.log_base.specs.Outside.{Rose}
use Rattle.segment_journal.specs.Journalled.{Turns}
use Rattle.segment_journal.specs.declared.journal.Installed.{Installed}
use Rattle.segment_journal.specs.declared.journal.Installed.TheVariants.{Failed, OneMore, Same}
use Rattle.shard_replica.specs.declared.lists.LastReload.{LastReload}
use Rattle.shard_replica.specs.Lists.{Medium, answer_of, medium_at}

-- a count of faults of a journal rose
abbrev pub RoseIn : List Medium → List Medium → Type 0
RoseIn old new = (k : ℕ) × Rose (medium_at old k).faults (medium_at new k).faults

-- the mark of a start, by what putting the lists in place comes to
abbrev pub opening_mark : Installed → Mark
opening_mark Failed = StayedDown
opening_mark OneMore = OpenedWith
opening_mark Same = OpenedWithout

-- the mark of a start after the last reload
abbrev pub mark_after : Option LastReload → List Medium → Mark
mark_after last media = opening_mark (answer_of last media)

-- of one journal and of others: a failure goes before one more, and that before the same
abbrev pub joined : Installed → Installed → Installed
joined Failed others = Failed
joined OneMore Failed = Failed
joined OneMore OneMore = OneMore
joined OneMore Same = OneMore
joined Same others = others

abbrev pub told_both : Option Turns → Option Installed → Option Installed
told_both None others = None
told_both (Some turn) None = None
told_both (Some turn) (Some others) = Some (joined turn.reload others)

-- what a reload of all journals comes to, where each of them tells it
abbrev pub told_by : List Medium → Option Installed
told_by [] = Some Same
told_by (medium ∷ media) = told_both medium.turns (told_by media)

-- How the journals were read anew for a start. The node stays down only where a count of faults rose, or where what a journal
-- keeps did not stay. Where all journals told what a reload comes to, the mark follows.
pub record IsOpening (last : Option LastReload) (old new : List Medium) : Type 0 where
  pub stayed : mark_after last new ≡ StayedDown → ((k : ℕ) → IsTrue (medium_at old k).keeps_synced) → RoseIn old new
  pub told : (answer : Installed) → told_by old ≡ Some answer → mark_after last new ≡ opening_mark answer
