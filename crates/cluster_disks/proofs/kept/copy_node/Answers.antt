use Rattle.std.proofs.Common.{◌≡◌, ℕ, ◌+◌, List, take, sym, ap, ◌∙◌, subst, add-one, arith}
use Rattle.history_frame.specs.declared.events.Kept.{Kept}
use Rattle.node_table.specs.Numbering.{disk_of}
use Rattle.cluster_disks.specs.Found.{TakesIn, TakesNot, kept_from, kept_on}
use Rattle.cluster_disks.proofs.Copying.{from_split, from_take, takes_not, takes_on}
use Rattle.cluster_disks.proofs.Nodes.{found_there}
use Rattle.cluster_disks.proofs.kept.copy_node.Goals as goal

pub returns-in-Err-clause-refused : goal.returns-in-Err-clause-refused
returns-in-Err-clause-refused g c =
    let first = disk_of c.args.node.0 0 in
    let journals = c.args.journals.now in
    let segment = c.loop-segment.segment in
    let journal = c.index-journals-segment.result in
    let at = found_there journals segment journal (omega (arith, c.loop-segment-test.true)) c.index-journals-segment.is in
    let number : c.disk.result ≡ first + segment = omega (arith, c.disk.ensures) in
    let split = from_split first journals segment journal at in
    subst (λ (l : List Kept). TakesNot l c.args.bytes c.in-Err.fault) (sym split.1)
    (takes_not (kept_from first (take segment journals)) (kept_on (first + segment) journal.journal.payloads) split.0 c.args.bytes c.loop-segment.total c.args.kept.now.items c.loop-segment.kept.items c.in-Err.fault
    c.loop-segment.invariant (subst (λ (n : ℕ). TakesNot (kept_on n journal.journal.payloads) c.loop-segment.total c.in-Err.fault) number c.in-Err.ensures.refused))

pub loop-segment-preserved : goal.loop-segment-preserved
loop-segment-preserved g c =
    let first = disk_of c.args.node.0 0 in
    let journals = c.args.journals.now in
    let segment = c.loop-segment.segment in
    let journal = c.index-journals-segment.result in
    let at = found_there journals segment journal (omega (arith, c.loop-segment-test.true)) c.index-journals-segment.is in
    let number : c.disk.result ≡ first + segment = omega (arith, c.disk.ensures) in
    let next = ap (λ (n : ℕ). kept_from first (take n journals)) (add-one segment) ∙ from_take first journals segment journal at in
    subst (λ (l : List Kept). TakesIn l c.args.bytes c.in-Ok.more c.args.kept.now.items c.copy_journal.new.kept.items) (sym next)
    (takes_on (kept_from first (take segment journals)) (kept_on (first + segment) journal.journal.payloads) c.args.bytes c.loop-segment.total c.in-Ok.more c.args.kept.now.items c.loop-segment.kept.items c.copy_journal.new.kept.items
    c.loop-segment.invariant
    (subst (λ (n : ℕ). TakesIn (kept_on n journal.journal.payloads) c.loop-segment.total c.in-Ok.more c.loop-segment.kept.items c.copy_journal.new.kept.items) number c.in-Ok.ensures.taken))
