use Rattle.std.proofs.Common.{◌≡◌, ◌≢◌, ℕ, ◌+◌, ◌<◌, ◌≤◌, ◌∷◌, [], None, length, length-append, refl, sym, ap, ◌∙◌, subst, arith, rules}
use Rattle.std.proofs.lemmas.Iterator.Adapters.{YieldsList-from_vec}
use Rattle.std.proofs.lemmas.Iterator.Consumers.{YieldsList-turn, YieldsList-end}
use Rattle.log_base.specs.Shape.{shape}
use Rattle.node_table.specs.Numbering.{disk_of}
use Rattle.cluster_disks.specs.Lent.{IsDiskBelow, IsDiskOfNode, StaysBut, disks, disks_at, lain}
use Rattle.cluster_disks.specs.Nodes.{AreAllOf}
use Rattle.cluster_disks.specs.Opened.{AreGivenBack}
use Rattle.cluster_disks.proofs.HandedBack.{given_all, handed_node, none_of, one_of}
use Rattle.cluster_disks.proofs.Lending.{node_small, other_node, same_where, stays_join, stays_none, taken_all}
use Rattle.cluster_disks.proofs.Nodes.{found_there}
use Rattle.cluster_disks.proofs.returning.close_nodes.Goals as goal

pub close_node-requires-clause-few : goal.close_node-requires-clause-few
close_node-requires-clause-few g c κs κ≤ =
    let device = g.Q.D.Disk in
    let by = disks device.reads device.may_leave device.keeps_synced device.faults in
    let config = shape c.args.config in
    let turn = YieldsList-turn (YieldsList-from_vec {s = c.into_iter-node-iterator.result} c.args.nodes.items (search rules) (search rules))
    c.nodes.yielded c.nodes.node-iterator c.nodes.yielded_by c.next.result c.next.new.self c.in-Some.node c.in-Some.is c.next.ensures.steps in
    let at = found_there c.args.nodes.items (length c.nodes.yielded) c.in-Some.node turn.0 turn.1 in
    let seat = c.requires.seated (length c.nodes.yielded) c.in-Some.node at in
    let size = given_all by config (length c.nodes.yielded) c.in-Some.node c.into_journals.result.items seat.0 seat.1 c.tell.ensures c.into_journals.ensures.media in
    let few : c.args.config.replicas ≤ 8 = (let range = c.args.config.in_range.replicas in omega arith) in
    let small = node_small config (length c.nodes.yielded) few in omega arith

pub close_node-requires-clause-lent : goal.close_node-requires-clause-lent
close_node-requires-clause-lent g c κs κ≤ j lt =
    let device = g.Q.D.Disk in
    let by = disks device.reads device.may_leave device.keeps_synced device.faults in
    let config = shape c.args.config in
    let kept = c.nodes.invariant in
    let turn = YieldsList-turn (YieldsList-from_vec {s = c.into_iter-node-iterator.result} c.args.nodes.items (search rules) (search rules))
    c.nodes.yielded c.nodes.node-iterator c.nodes.yielded_by c.next.result c.next.new.self c.in-Some.node c.in-Some.is c.next.ensures.steps in
    let at = found_there c.args.nodes.items (length c.nodes.yielded) c.in-Some.node turn.0 turn.1 in
    let seat = c.requires.seated (length c.nodes.yielded) c.in-Some.node at in
    let size = given_all by config (length c.nodes.yielded) c.in-Some.node c.into_journals.result.items seat.0 seat.1 c.tell.ensures c.into_journals.ensures.media
    ∙ ap (λ (n : ℕ). disks_at config n) (sym kept.count) in
    let below : c.nodes.number < length c.args.nodes.items = (let count = kept.count in let inside = turn.0 in omega arith) in
    kept.lent c.nodes.number j (omega arith) below (omega arith)

pub nodes-preserved : goal.nodes-preserved
nodes-preserved g c =
    let rack = g.Q.Rack in
    let device = g.Q.D.Disk in
    let by = disks device.reads device.may_leave device.keeps_synced device.faults in
    let config = shape c.args.config in
    let kept = c.nodes.invariant in
    let number = c.nodes.number in
    let node = c.in-Some.node in
    let journals = c.into_journals.result.items in
    let told = lain rack.disk_at rack.disk_faults rack.faults in
    let old = c.nodes.rack in
    let new = c.close_node.new.rack in
    let turn = YieldsList-turn (YieldsList-from_vec {s = c.into_iter-node-iterator.result} c.args.nodes.items (search rules) (search rules))
    c.nodes.yielded c.nodes.node-iterator c.nodes.yielded_by c.next.result c.next.new.self node c.in-Some.is c.next.ensures.steps in
    let at = found_there c.args.nodes.items (length c.nodes.yielded) node turn.0 turn.1 in
    let seat = c.requires.seated (length c.nodes.yielded) node at in
    let few : c.args.config.replicas ≤ 8 = (let range = c.args.config.in_range.replicas in omega arith) in
    let size = given_all by config (length c.nodes.yielded) node journals seat.0 seat.1 c.tell.ensures c.into_journals.ensures.media in
    let small = node_small config number few in
    let stays = subst (λ (m : ℕ). StaysBut rack.lent_under rack.disk_faults rack.disk_at (IsDiskOfNode number m) old new) (size ∙ ap (λ (n : ℕ). disks_at config n) (sym kept.count)) c.close_node.ensures.others in
    let given = subst (λ (n : ℕ). AreGivenBack by n journals (told new)) kept.count c.close_node.ensures.back in
    record {
      count = ap (λ (n : ℕ). n + 1) kept.count ∙ sym (length-append c.nodes.yielded (node ∷ []));
      back = one_of by config (told old) (told new) c.nodes.yielded node few kept.back
          (λ k other. same_where rack.lent_under rack.disk_faults rack.disk_at rack.faults old new k (stays k (λ of. other (subst (λ (n : ℕ). IsDiskOfNode n (disks_at config n) k) kept.count of))))
          (handed_node by config (length c.nodes.yielded) node journals (told new) size c.into_journals.ensures.holds c.into_journals.ensures.media given);
      lent = λ n j behind below within.
          let inside = node_small config n few in
          let apart : n ≢ number = λ e. absurd (omega arith) in
          (stays (disk_of n j) (other_node n number (disks_at config number) j small (omega arith) apart)).lent None (kept.lent n j (omega arith) below within);
      others = stays_join rack.lent_under rack.disk_faults rack.disk_at (IsDiskBelow config number) (IsDiskOfNode number (disks_at config number)) (IsDiskBelow config (number + 1)) c.args.rack.now old new
          (λ k is. (is.0, (let lt = is.1 in omega arith), is.2)) (λ k is. (number, omega arith, is)) kept.others stays;
      later = (let a = kept.later in let b = c.close_node.ensures.later in omega arith);
    }

pub returns-clause-back : goal.returns-clause-back
returns-clause-back g c =
    let rack = g.Q.Rack in
    let device = g.Q.D.Disk in
    let end = YieldsList-end (YieldsList-from_vec {s = c.into_iter-node-iterator.result} c.args.nodes.items (search rules) (search rules))
    c.nodes.yielded c.nodes.node-iterator c.nodes.yielded_by c.next.result c.next.new.self c.in-None.is c.next.ensures.steps in
    let all = taken_all c.nodes.yielded c.args.nodes.items end.0 in
    subst (λ ns. AreAllOf (disks device.reads device.may_leave device.keeps_synced device.faults) (shape c.args.config) ns (lain rack.disk_at rack.disk_faults rack.faults c.nodes.rack)) all c.nodes.invariant.back

pub returns-clause-others : goal.returns-clause-others
returns-clause-others g c =
    let rack = g.Q.Rack in
    let end = YieldsList-end (YieldsList-from_vec {s = c.into_iter-node-iterator.result} c.args.nodes.items (search rules) (search rules))
    c.nodes.yielded c.nodes.node-iterator c.nodes.yielded_by c.next.result c.next.new.self c.in-None.is c.next.ensures.steps in
    let all = taken_all c.nodes.yielded c.args.nodes.items end.0 in
    let total : c.nodes.number ≡ length c.args.nodes.items = c.nodes.invariant.count ∙ ap (λ l. length l) all in
    subst (λ (n : ℕ). StaysBut rack.lent_under rack.disk_faults rack.disk_at (IsDiskBelow (shape c.args.config) n) c.args.rack.now c.nodes.rack) total c.nodes.invariant.others

pub nodes-init : goal.nodes-init
nodes-init g c =
    let rack = g.Q.Rack in
    let device = g.Q.D.Disk in
    let by = disks device.reads device.may_leave device.keeps_synced device.faults in
    let config = shape c.args.config in
    record {
      count = refl;
      back = none_of by config (lain rack.disk_at rack.disk_faults rack.faults c.args.rack.now);
      lent = λ n j behind below within. c.requires.lent (disk_of n j) (n, below, (j, within, refl));
      others = stays_none rack.lent_under rack.disk_faults rack.disk_at (IsDiskBelow config 0) c.args.rack.now;
      later = omega arith;
    }

pub overflow_add-number : goal.overflow_add-number
overflow_add-number g c =
    let turn = YieldsList-turn (YieldsList-from_vec {s = c.into_iter-node-iterator.result} c.args.nodes.items (search rules) (search rules))
    c.nodes.yielded c.nodes.node-iterator c.nodes.yielded_by c.next.result c.next.new.self c.in-Some.node c.in-Some.is c.next.ensures.steps in
    let lt = turn.0 in
    let count = c.nodes.invariant.count in
    let few = c.requires.few in
    let range = c.args.config.in_range in omega (arith, range.segments, range.gatherers, range.orderers)
