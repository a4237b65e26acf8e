use Rattle.std.proofs.Common.{◌≡◌, length}
use Rattle.peer_copy.proofs.tests.the_window_follows_what_is_held.Given as goal

-- the state stays that of replica 1 of three
abbrev pub invariant-loop-held : goal.invariant-loop-held
invariant-loop-held g l = (l.state.own ≡ 1) × (length l.state.acked ≡ 3)
