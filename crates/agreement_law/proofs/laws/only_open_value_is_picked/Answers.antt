use Rattle.agreement_law.proofs.Advance.{picked_safe}
use Rattle.agreement_law.proofs.laws.only_open_value_is_picked.Goals as goal

pub returns : goal.returns
returns c = picked_safe
