use Rattle.std.proofs.Common.{◌≡◌, true}
use Rattle.agreement_law.proofs.FineStep.{outcome_fine}
use Rattle.agreement_law.proofs.laws.values_stay_fine.Goals as goal

pub returns : goal.returns
returns c = λ shape test noop silent. outcome_fine shape (λ v. test v ≡ true) noop silent
