use Rattle.std.proofs.Common.{length, map, string_bytes}
use Rattle.command_words.proofs.GivenSoFar.{SoFar}
use Rattle.command_words.proofs.reading.read_given.Given as goal

abbrev pub invariant-settings : goal.invariant-settings
invariant-settings l = SoFar l.command (map string_bytes l.words) (map string_bytes l.rest) l.given

abbrev pub decreases-settings : goal.decreases-settings
decreases-settings l = length l.rest
