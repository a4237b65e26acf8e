-- What a reader took from its source, one piece after another.
use Rattle.std.proofs.Common.{ℕ, ◌^◌, ◌<◌, List, [], ◌++◌, Option, arith}
use Rattle.std.proofs.lemmas.List.{length-append}
use Rattle.std.proofs.KnownBytes.{Consumes-nil, Consumes-trans}
use Rattle.log_base.specs.Outside.{ReadsOn, TakesOn}

-- Nothing was taken yet.
pub takes_none : (n : ℕ) (left : Option (List ℕ)) → n < 2 ^ 64 → TakesOn n n left left
takes_none n left bound = ([], Consumes-nil left, omega arith)

-- What is taken next follows what was taken.
pub takes_then : (n m k : ℕ) (before now after : Option (List ℕ)) → TakesOn n m before now → TakesOn m k now after → TakesOn n k before after
takes_then n m k before now after (xs, first, m_is) (ys, second, k_is) =
    (xs ++ ys, Consumes-trans before now after xs ys first second, omega (arith, m_is, k_is, length-append xs ys))

-- What is read next follows what was read.
pub reads_then : (before now after : Option (List ℕ)) → ReadsOn before now → ReadsOn now after → ReadsOn before after
reads_then before now after (xs, first) (ys, second) = (xs ++ ys, Consumes-trans before now after xs ys first second)
