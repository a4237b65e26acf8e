use Rattle.core_step.proofs.TwoLeaders.{two_leaders_decided, two_leaders_known, two_leaders_legal}
use Rattle.core_step.proofs.laws.two_leaders_agree.Goals as goal

pub returns : goal.returns
returns c = record { legal = two_leaders_legal; decided = two_leaders_decided; known = two_leaders_known }
