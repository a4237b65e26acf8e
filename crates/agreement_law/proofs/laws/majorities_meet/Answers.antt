use Rattle.std.proofs.Common.{◌≡◌, true}
use Rattle.agreement_law.proofs.Quorum.{meet, most_in}
use Rattle.agreement_law.proofs.laws.majorities_meet.Goals as goal

pub returns : goal.returns
returns c = λ n one other p q.
    meet n (λ i. one i ≡ true) (λ i. other i ≡ true)
    (most_in n one (λ i. one i ≡ true) p (λ i l e. e)) (most_in n other (λ i. other i ≡ true) q (λ i l e. e))
