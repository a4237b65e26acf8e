use Rattle.std.proofs.Common.{length, drop, ◌-◌, ◌≡◌, ◌+◌, ◌≤◌}
use Rattle.fault_script.specs.Longest.{shared}
use Rattle.fault_script.proofs.sharing.shared_length.Given as goal

abbrev pub invariant-bytes : goal.invariant-bytes
invariant-bytes l = (l.count ≤ length l.text) × (l.count ≤ length l.other) × (l.count + shared (drop l.count l.text) (drop l.count l.other) ≡ shared l.text l.other)

abbrev pub decreases-bytes : goal.decreases-bytes
decreases-bytes l = length l.text - l.count
