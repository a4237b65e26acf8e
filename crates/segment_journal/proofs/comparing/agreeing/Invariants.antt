use Rattle.std.proofs.Common.{◌≡◌, ◌-◌, ◌≤◌, take}
use Rattle.segment_journal.proofs.comparing.agreeing.Given as goal

abbrev pub invariant-payloads : goal.invariant-payloads
invariant-payloads l = (l.same ≤ l.most) × (take l.same l.read.list ≡ take l.same l.kept.list)

abbrev pub decreases-payloads : goal.decreases-payloads
decreases-payloads l = l.most - l.same
