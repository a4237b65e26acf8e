use Rattle.std.proofs.Common.{drop, arith, length-drop}
use Rattle.fault_script.proofs.SharedFronts.{shared-le}
use Rattle.fault_script.proofs.sharing.shared_length.Goals as goal

-- the other text is at its end
pub returns-else-count-other-clause-count : goal.returns-else-count-other-clause-count
returns-else-count-other-clause-count c =
    let at = c.bytes.count in
    let nothing = (shared-le (drop at c.args.text.now) (drop at c.args.other.now)).1 in
    omega (arith, length-drop at c.args.other.now)
