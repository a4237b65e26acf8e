use Rattle.std.proofs.Common.{refl}
use Rattle.cut_chain.proofs.Newest.{counted-empty}
use Rattle.cut_chain.proofs.walking.WalkPlacesPlaces.clear.Goals as goal

pub invariant_of-self : goal.invariant_of-self
invariant_of-self c = counted-empty _ 0 c.clear.ensures.items refl
