use Rattle.std.proofs.Common.{◌≡◌, ◌+◌, drop}
use Rattle.cluster.specs.Sizing.{letters_size}
use Rattle.cluster.proofs.sizing.letters_size.Given as goal

-- the size so far and that of the letters left are that of all
abbrev pub invariant-loop-index : goal.invariant-loop-index
invariant-loop-index l = l.size + letters_size (drop l.index l.out.letters) ≡ letters_size l.out.letters
