use Rattle.std.proofs.Common.{◌≡◌, ◌++◌, replicate}
use Rattle.event_letters.proofs.letters.EventLetters.ready.Given as goal

-- so many spare buffers were added
abbrev pub invariant-loop : goal.invariant-loop
invariant-loop l = record {
  letters : l.out.letters ≡ l.fn.out.letters;
  rooms : l.out.rooms ≡ l.fn.out.rooms ++ replicate l.counter l.bytes;
}
