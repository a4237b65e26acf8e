use Rattle.std.proofs.Common.{refl}
use Rattle.cut_chain.proofs.Newest.{counted-empty}
use Rattle.cut_chain.proofs.walking.WalkPlaces.new.Goals as goal

pub invariant_of-result : goal.invariant_of-result
invariant_of-result c = counted-empty _ 0 c.new.ensures.items refl
