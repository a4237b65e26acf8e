use Rattle.std.proofs.Common.{◌≡◌}
use Rattle.client_session.proofs.tests.numbers_rise_to_the_last_draw.Given as goal

-- one pair was drawn before the loop, and one in each turn
abbrev pub invariant-loop-drawn : goal.invariant-loop-drawn
invariant-loop-drawn g l = (l.session.draws ≡ l.drawn) × (l.session.run ≡ 2) × (l.session.client ≡ 3)
