-- What a history needs beside its events to have a spelling.
use Rattle.std.specs.Prelude.{List}
use Rattle.std.specs.List.{AllByRecursion}
use Rattle.history_frame.specs.declared.events.Kept.{Kept}
use Rattle.history_frame.specs.Spelling.{DisksRise, IsKept}

-- What disks kept can be spelled: it is in order of disks, and each payload fits its frame.
pub record AreKept (kept : List Kept) : Type 0 where
  pub disks : DisksRise 0 kept
  pub fit : AllByRecursion IsKept kept
