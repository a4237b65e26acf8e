use Rattle.std.proofs.Common.{◌≡◌, ℕ, ◌+◌, List, [], ◌++◌, take, sym, ap, ◌∙◌, subst, add-one, arith}
use Rattle.std.specs.List.{AllByRecursion}
use Rattle.history_frame.specs.Spelling.{IsKept}
use Rattle.history_frame.specs.declared.events.Kept.{Kept}
use Rattle.node_table.specs.Numbering.{disk_of}
use Rattle.cluster_disks.specs.Found.{TakesIn, TakesNot, bytes_in, kept_from, kept_in}
use Rattle.cluster_disks.proofs.Copying.{both_fit, counted, in_split, in_take, takes_not}
use Rattle.cluster_disks.proofs.Nodes.{found_there}
use Rattle.cluster_disks.proofs.kept.copy_kept.Goals as goal

pub returns-in-Err-clause-refused : goal.returns-in-Err-clause-refused
returns-in-Err-clause-refused g c =
    let nodes = c.args.nodes.now in
    let node = c.loop-node.node in
    let journals = c.index-nodes-node.result in
    let kept = c.loop-node.invariant in
    let at = found_there nodes node journals (omega (arith, c.loop-node-test.true)) c.index-nodes-node.is in
    let here : 0 + node ≡ node = omega arith in
    let split = in_split 0 nodes node journals at in
    let so_far : TakesIn (kept_in 0 (take node nodes)) 0 c.loop-node.total [] c.loop-node.kept.items =
    record { items = kept.copied; count = (let n = kept.count ∙ ap bytes_in kept.copied in omega arith); few = kept.few; fit = kept.fit } in
    subst (λ (l : List Kept). TakesNot l 0 c.in-Err.fault) (sym split.1)
    (takes_not (kept_in 0 (take node nodes)) (kept_from (disk_of (0 + node) 0) journals) split.0 0 c.loop-node.total [] c.loop-node.kept.items c.in-Err.fault so_far
    (subst (λ (n : ℕ). TakesNot (kept_from (disk_of n 0) journals) c.loop-node.total c.in-Err.fault) (sym here)
    (subst (λ js. TakesNot (kept_from (disk_of node 0) js) c.loop-node.total c.in-Err.fault) c.get.ensures c.in-Err.ensures.refused)))

pub loop-node-preserved : goal.loop-node-preserved
loop-node-preserved g c =
    let nodes = c.args.nodes.now in
    let node = c.loop-node.node in
    let journals = c.index-nodes-node.result in
    let kept = c.loop-node.invariant in
    let at = found_there nodes node journals (omega (arith, c.loop-node-test.true)) c.index-nodes-node.is in
    let here : 0 + node ≡ node = omega arith in
    let taken = subst (λ js. TakesIn (kept_from (disk_of node 0) js) c.loop-node.total c.in-Ok.more c.loop-node.kept.items c.copy_node.new.kept.items) c.get.ensures c.in-Ok.ensures.taken in
    let next = ap (λ (n : ℕ). kept_in 0 (take n nodes)) (add-one node) ∙ in_take 0 nodes node journals at ∙ ap (λ (n : ℕ). kept_in 0 (take node nodes) ++ kept_from (disk_of n 0) journals) here in
    record {
      copied = taken.items ∙ ap (λ (l : List Kept). l ++ kept_from (disk_of node 0) journals) kept.copied ∙ sym next;
      count = counted (kept_from (disk_of node 0) journals) c.loop-node.kept.items c.copy_node.new.kept.items c.loop-node.total c.in-Ok.more kept.count taken;
      few = taken.few;
      fit = subst (λ (l : List Kept). AllByRecursion IsKept l) (sym next) (both_fit (kept_in 0 (take node nodes)) (kept_from (disk_of node 0) journals) kept.fit taken.fit);
    }
