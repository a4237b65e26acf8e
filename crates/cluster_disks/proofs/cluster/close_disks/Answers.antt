use Rattle.std.proofs.Common.{◌≢◌, ℕ, ◌<◌, ◌≤◌, None, length, sym, ap, ◌∙◌, subst, arith, rules}
use Rattle.std.proofs.lemmas.Iterator.Adapters.{YieldsList-from_vec}
use Rattle.std.proofs.lemmas.Iterator.Consumers.{YieldsList-turn, YieldsList-end}
use Rattle.std.specs.Prelude.{◌++◌, ◌∷◌, []}
use Rattle.node_table.specs.Numbering.{disk_of}
use Rattle.cluster_disks.specs.Lent.{IsDiskOfNode, StaysBut, disks, lain}
use Rattle.cluster_disks.specs.Opened.{AreAllGivenBack, AreGivenBack, IsDiskIn}
use Rattle.cluster_disks.proofs.Lending.{other_node, same_where, stays_join, taken_all}
use Rattle.cluster_disks.proofs.Nodes.{at_last, found_there, in_longer, one_closing}
use Rattle.cluster_disks.proofs.cluster.close_disks.Goals as goal

pub close_node-requires-clause-few : goal.close_node-requires-clause-few
close_node-requires-clause-few g c κs κ≤ =
    let turn = YieldsList-turn (YieldsList-from_vec {s = c.into_iter-journals-iterator.result} c.args.nodes.items (search rules) (search rules))
    c.nodes.yielded c.nodes.journals-iterator c.nodes.yielded_by c.next.result c.next.new.self c.in-Some.journals c.in-Some.is c.next.ensures.steps in
    let here = found_there c.args.nodes.items (length c.nodes.yielded) c.in-Some.journals turn.0 turn.1 in
    subst (λ l. length l ≤ 8) (sym c.into_inner.ensures) (c.requires.small (length c.nodes.yielded) c.in-Some.journals here)

pub close_node-requires-clause-lent : goal.close_node-requires-clause-lent
close_node-requires-clause-lent g c κs κ≤ j lt =
    let turn = YieldsList-turn (YieldsList-from_vec {s = c.into_iter-journals-iterator.result} c.args.nodes.items (search rules) (search rules))
    c.nodes.yielded c.nodes.journals-iterator c.nodes.yielded_by c.next.result c.next.new.self c.in-Some.journals c.in-Some.is c.next.ensures.steps in
    let here = found_there c.args.nodes.items (length c.nodes.yielded) c.in-Some.journals turn.0 turn.1 in
    let count = c.nodes.invariant.closing.count in
    c.nodes.invariant.lent (disk_of c.nodes.node j) (record {
      node = length c.nodes.yielded;
      segment = j;
      journals = c.in-Some.journals;
      at = here;
      within = subst (λ l. j < length l) c.into_inner.ensures lt;
      number_is = ap (λ (n : ℕ). disk_of n j) count;
    }) (omega arith)

pub nodes-preserved : goal.nodes-preserved
nodes-preserved g c =
    let rack = g.Q.Rack in
    let device = g.Q.D.Disk in
    let by = disks device.reads device.may_leave device.keeps_synced device.faults in
    let node = c.nodes.node in
    let kept = c.nodes.invariant in
    let journals = c.in-Some.journals in
    let old = c.nodes.rack in
    let new = c.close_node.new.rack in
    let told = lain rack.disk_at rack.disk_faults rack.faults in
    let turn = YieldsList-turn (YieldsList-from_vec {s = c.into_iter-journals-iterator.result} c.args.nodes.items (search rules) (search rules))
    c.nodes.yielded c.nodes.journals-iterator c.nodes.yielded_by c.next.result c.next.new.self journals c.in-Some.is c.next.ensures.steps in
    let here = found_there c.args.nodes.items (length c.nodes.yielded) journals turn.0 turn.1 in
    let few : length journals ≤ 8 = c.requires.small (length c.nodes.yielded) journals here in
    let stays = subst (λ l. StaysBut rack.lent_under rack.disk_faults rack.disk_at (IsDiskOfNode node (length l)) old new) c.into_inner.ensures c.close_node.ensures.others in
    record {
      closing = one_closing by (told old) (told new) node c.nodes.yielded journals kept.closing few
          (λ k other. same_where rack.lent_under rack.disk_faults rack.disk_at rack.faults old new k (stays k other))
          (subst (λ l. AreGivenBack by node l (told new)) c.into_inner.ensures c.close_node.ensures.back);
      lent = λ number is behind.
          let inside = is.within in
          let small = c.requires.small is.node is.journals is.at in
          let apart : is.node ≢ node = λ e. absurd (omega arith) in
          (stays number (λ of. other_node is.node node (length journals) is.segment few (omega arith) apart (subst (IsDiskOfNode node (length journals)) is.number_is of))).lent None (kept.lent number is (omega arith));
      others = stays_join rack.lent_under rack.disk_faults rack.disk_at (IsDiskIn c.nodes.yielded) (IsDiskOfNode node (length journals)) (IsDiskIn (c.nodes.yielded ++ journals ∷ [])) c.args.rack.now old new
          (λ k is. record { node = is.node; segment = is.segment; journals = is.journals; at = in_longer c.nodes.yielded journals is.node is.journals is.at; within = is.within; number_is = is.number_is })
          (λ k is. record { node = length c.nodes.yielded; segment = is.0; journals = journals; at = at_last c.nodes.yielded journals; within = is.1; number_is = is.2 ∙ ap (λ (n : ℕ). disk_of n is.0) kept.closing.count })
          kept.others stays;
      later = (let a = kept.later in let b = c.close_node.ensures.later in omega arith);
    }

pub returns-clause-back : goal.returns-clause-back
returns-clause-back g c =
    let rack = g.Q.Rack in
    let device = g.Q.D.Disk in
    let end = YieldsList-end (YieldsList-from_vec {s = c.into_iter-journals-iterator.result} c.args.nodes.items (search rules) (search rules))
    c.nodes.yielded c.nodes.journals-iterator c.nodes.yielded_by c.next.result c.next.new.self c.in-None.is c.next.ensures.steps in
    let all = taken_all c.nodes.yielded c.args.nodes.items end.0 in
    subst (λ ns. AreAllGivenBack (disks device.reads device.may_leave device.keeps_synced device.faults) ns (lain rack.disk_at rack.disk_faults rack.faults c.nodes.rack)) all c.nodes.invariant.closing.back

pub returns-clause-others : goal.returns-clause-others
returns-clause-others g c =
    let rack = g.Q.Rack in
    let end = YieldsList-end (YieldsList-from_vec {s = c.into_iter-journals-iterator.result} c.args.nodes.items (search rules) (search rules))
    c.nodes.yielded c.nodes.journals-iterator c.nodes.yielded_by c.next.result c.next.new.self c.in-None.is c.next.ensures.steps in
    let all = taken_all c.nodes.yielded c.args.nodes.items end.0 in
    subst (λ ns. StaysBut rack.lent_under rack.disk_faults rack.disk_at (IsDiskIn ns) c.args.rack.now c.nodes.rack) all c.nodes.invariant.others
