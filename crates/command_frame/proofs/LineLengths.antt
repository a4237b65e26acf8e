-- How long the lines of faults are.
use Rattle.std.proofs.Common.{ℕ, ◌<◌, ◌≤◌, List, ◌++◌, length, codes, length-append, arith}
use Rattle.std.specs.Fmt.{decimal}
use Rattle.std.proofs.lemmas.Fmt.{length-decimal-le}
use Rattle.log_base.specs.ClusterShape.{Shape, InRange}
use Rattle.node_table.specs.Numbering.{nodes_of}
use Rattle.fault_script.specs.declared.fault.Fault.{Fault}
use Rattle.fault_script.specs.declared.fault.Fault.TheVariants.{Hold, Settle, Tick, Deliver, Drop, Again, Stop, StopAfter, Lose, Restart, Lead, Resubmit}
use Rattle.fault_script.specs.Lines.{IsFault, fault_line}

few_digits : (n : ℕ) → n ≤ 1000000 → length (decimal n) ≤ 7
few_digits n small = length-decimal-le 7 n (omega arith) (omega arith) (omega arith)

few_nodes : (c : Shape) (node : ℕ) → InRange c → node < nodes_of c → node ≤ 1000000
few_nodes c node range below =
    let segments = range.segments in
    let gatherers = range.gatherers in
    let orderers = range.orderers in
    omega arith

one_number : (word : List ℕ) (n : ℕ) → length word ≤ 8 → n ≤ 1000000 → length (word ++ decimal n) ≤ 40
one_number word n short small = omega (arith, length-append word (decimal n), few_digits n small)

two_numbers : (word middle : List ℕ) (n m : ℕ) → length word ≤ 8 → length middle ≤ 8 → n ≤ 1000000 → m ≤ 1000000
    → length (word ++ decimal n ++ middle ++ decimal m) ≤ 40
two_numbers word middle n m short also small little =
    omega (arith, length-append (word ++ decimal n ++ middle) (decimal m), length-append (word ++ decimal n) middle, length-append word (decimal n), few_digits n small, few_digits m little)

three_numbers : (word middle end : List ℕ) (n m k : ℕ) → length word ≤ 5 → length middle ≤ 7 → length end ≤ 6 → n ≤ 1000000 → m ≤ 1000000 → k ≤ 1000000
    → length (word ++ decimal n ++ middle ++ decimal m ++ end ++ decimal k) ≤ 40
three_numbers word middle end n m k short also brief small little tiny =
    omega (
      arith,
      length-append (word ++ decimal n ++ middle ++ decimal m ++ end) (decimal k),
      length-append (word ++ decimal n ++ middle ++ decimal m) end,
      length-append (word ++ decimal n ++ middle) (decimal m),
      length-append (word ++ decimal n) middle,
      length-append word (decimal n),
      few_digits n small,
      few_digits m little,
      few_digits k tiny,
    )

pub length-fault_line : (c : Shape) (fault : Fault) → InRange c → IsFault c fault → length (fault_line fault) ≤ 40
length-fault_line c Hold range is = omega arith
length-fault_line c Settle range is = omega arith
length-fault_line c (Tick node) range is = one_number (codes "tick ") node.0 (omega arith) (few_nodes c node.0 range is)
length-fault_line c (Deliver letter) range is = one_number (codes "deliver ") letter (omega arith) is
length-fault_line c (Drop letter) range is = one_number (codes "drop ") letter (omega arith) is
length-fault_line c (Again letter) range is = one_number (codes "again ") letter (omega arith) is
length-fault_line c (Stop node) range is = one_number (codes "stop ") node.0 (omega arith) (few_nodes c node.0 range is)
length-fault_line c (StopAfter node after keep) range is =
    three_numbers (codes "stop ") (codes " after ") (codes " keep ") node.0 after keep (omega arith) (omega arith) (omega arith) (few_nodes c node.0 range is.0.0) is.1 is.2
length-fault_line c (Lose node after) range is =
    two_numbers (codes "lose ") (codes " after ") node.0 after (omega arith) (omega arith) (few_nodes c node.0 range is.0.0) is.1
length-fault_line c (Restart node) range is = one_number (codes "restart ") node.0 (omega arith) (few_nodes c node.0 range is)
length-fault_line c (Lead orderer) range is = let most = range.orderers in one_number (codes "lead ") orderer (omega arith) (omega arith)
length-fault_line c Resubmit range is = omega arith
