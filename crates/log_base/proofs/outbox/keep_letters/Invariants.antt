use Rattle.std.proofs.Common.{◌≡◌, vec_len, vec_capacity}
use Rattle.log_base.proofs.outbox.keep_letters.Given as goal

-- the letters take as much memory as before
abbrev pub invariant-letters : goal.invariant-letters
invariant-letters l = record {
  capacity : vec_capacity l.letters ≡ vec_capacity l.initial.letters;
}

abbrev pub decreases-letters : goal.decreases-letters
decreases-letters l = vec_len l.letters
