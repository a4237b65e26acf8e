use Rattle.std.proofs.Common.{◌≡◌, ◌≢◌, ℕ, ◌+◌, ◌<◌, ◌≤◌, Bool, ◌∷◌, [], ◌++◌, None, length, sym, ap, ◌∙◌, subst, ⊎_elim, arith, rules}
use Rattle.std.proofs.lemmas.Bool.{cases_eq}
use Rattle.std.specs.Prelude.{if◌then◌else◌}
use Rattle.log_base.specs.Shape.{shape}
use Rattle.node_table.specs.Numbering.{disk_of, nodes_of}
use Rattle.cluster_disks.specs.Lent.{IsDisk, IsDiskBelow, IsDiskOfNode, StaysBut, disks, disks_at, lain}
use Rattle.cluster_disks.specs.Opened.{AreOpened, AreReturned, FailsAmong, IsDiskIn}
use Rattle.cluster_disks.proofs.Lending.{later_node, node_small, other_node, place_within, same_where, stays_join}
use Rattle.cluster_disks.proofs.Nodes.{AreOpening, nodes_fail, nodes_returned, one_opening}
use Rattle.cluster_disks.proofs.cluster.open_disks.Goals as goal

-- each of the nodes before this one has at most eight journals
pub close_disks-requires-clause-small : goal.close_disks-requires-clause-small
close_disks-requires-clause-small g c κs κ≤ node journals at =
    let few : c.args.config.replicas ≤ 8 = (let range = c.args.config.in_range.replicas in omega arith) in
    let size = c.loop-number.invariant.opening.counts node journals at in
    let small = node_small (shape c.args.config) node few in omega arith

-- the disks of the nodes before this one are still lent
pub close_disks-requires-clause-lent : goal.close_disks-requires-clause-lent
close_disks-requires-clause-lent g c κs κ≤ number is =
    let node = c.loop-number.number in
    let few : c.args.config.replicas ≤ 8 = (let range = c.args.config.in_range.replicas in omega arith) in
    let opening = c.loop-number.invariant.opening in
    let size = opening.counts is.node is.journals is.at in
    let small = node_small (shape c.args.config) is.node few in
    let below = place_within c.loop-number.opened.items is.node is.journals is.at in
    let inside = is.within in
    let all = opening.count in
    let apart : is.node ≢ node = λ e. absurd (omega arith) in
    let lent = c.loop-number.invariant.lent number (is.node, omega arith, (is.segment, omega arith, is.number_is)) in
    (c.open_node.ensures.others number (λ of. other_node is.node node (disks_at (shape c.args.config) node) is.segment (node_small (shape c.args.config) node few) (omega arith) apart
    (subst (λ (k : ℕ). IsDiskOfNode node (disks_at (shape c.args.config) node) k) is.number_is (subst (λ (n : ℕ). IsDiskOfNode node n number) c.disk_count.ensures.count of)))).lent None lent

pub returns-in-Err-clause-fails : goal.returns-in-Err-clause-fails
returns-in-Err-clause-fails g c =
    let rack = g.Q.Rack in
    let device = g.Q.D.Disk in
    let by = disks device.reads device.may_leave device.keeps_synced device.faults in
    let node = c.loop-number.number in
    let kept = c.loop-number.invariant in
    let told = lain rack.disk_at rack.disk_faults rack.faults in
    let few : c.args.config.replicas ≤ 8 = (let range = c.args.config.in_range.replicas in omega arith) in
    let this = subst (λ (n : ℕ). FailsAmong by (IsDiskOfNode node n) (told c.loop-number.rack) (told c.open_node.new.rack) c.in-Err.fault) c.disk_count.ensures.count c.in-Err.ensures.fails in
    nodes_fail by (shape c.args.config) (told c.args.rack.now) (told c.loop-number.rack) (told c.open_node.new.rack) (told c.close_disks.new.rack) node c.loop-number.opened.items c.in-Err.fault
    few (omega arith) kept.opening
    (λ k other. same_where rack.lent_under rack.disk_faults rack.disk_at rack.faults _ _ k (kept.others k other))
    (λ k other. same_where rack.lent_under rack.disk_faults rack.disk_at rack.faults _ _ k (c.close_disks.ensures.others k other))
    (λ k. kept.later) (λ k. c.close_disks.ensures.later) this

pub returns-in-Err-clause-back : goal.returns-in-Err-clause-back
returns-in-Err-clause-back g c =
    let rack = g.Q.Rack in
    let device = g.Q.D.Disk in
    let by = disks device.reads device.may_leave device.keeps_synced device.faults in
    let node = c.loop-number.number in
    let kept = c.loop-number.invariant in
    let told = lain rack.disk_at rack.disk_faults rack.faults in
    let few : c.args.config.replicas ≤ 8 = (let range = c.args.config.in_range.replicas in omega arith) in
    let count = c.disk_count.ensures.count in
    nodes_returned by (shape c.args.config) (told c.args.rack.now) (told c.loop-number.rack) (told c.open_node.new.rack) (told c.close_disks.new.rack) node c.loop-number.opened.items
    few kept.opening
    (λ k other. same_where rack.lent_under rack.disk_faults rack.disk_at rack.faults _ _ k (kept.others k other))
    (λ k other. same_where rack.lent_under rack.disk_faults rack.disk_at rack.faults _ _ k (c.open_node.ensures.others k (λ of. other (subst (λ (n : ℕ). IsDiskOfNode node n k) count of))))
    (λ k other. same_where rack.lent_under rack.disk_faults rack.disk_at rack.faults _ _ k (c.close_disks.ensures.others k other))
    (λ k. kept.later) (λ k. c.open_node.ensures.later) (λ k. c.close_disks.ensures.later)
    (subst (λ (n : ℕ). AreReturned by (IsDiskOfNode node n) (told c.loop-number.rack) (told c.open_node.new.rack)) count c.in-Err.ensures.back) c.close_disks.ensures.back

pub returns-in-Err-clause-others : goal.returns-in-Err-clause-others
returns-in-Err-clause-others g c =
    let rack = g.Q.Rack in
    let config = shape c.args.config in
    let node = c.loop-number.number in
    let kept = c.loop-number.invariant in
    let all = IsDisk config in
    let stays = subst (λ (n : ℕ). StaysBut rack.lent_under rack.disk_faults rack.disk_at (IsDiskOfNode node n) c.loop-number.rack c.open_node.new.rack) c.disk_count.ensures.count c.open_node.ensures.others in
    stays_join rack.lent_under rack.disk_faults rack.disk_at all (IsDiskIn c.loop-number.opened.items) all c.args.rack.now c.open_node.new.rack c.close_disks.new.rack
    (λ k is. is)
    (λ k is. (
      is.node,
      (let lt = place_within c.loop-number.opened.items is.node is.journals is.at in let size = kept.opening.count in omega arith),
      (is.segment, (let size = kept.opening.counts is.node is.journals is.at in let lt = is.within in omega arith), is.number_is),
    ))
    (stays_join rack.lent_under rack.disk_faults rack.disk_at (IsDiskBelow config node) (IsDiskOfNode node (disks_at config node)) all c.args.rack.now c.loop-number.rack c.open_node.new.rack
    (λ k is. (is.0, (let lt = is.1 in omega arith), is.2)) (λ k is. (node, omega arith, is))
    kept.others stays)
    c.close_disks.ensures.others

pub loop-number-preserved : goal.loop-number-preserved
loop-number-preserved g c =
    let rack = g.Q.Rack in
    let device = g.Q.D.Disk in
    let by = disks device.reads device.may_leave device.keeps_synced device.faults in
    let config = shape c.args.config in
    let node = c.loop-number.number in
    let kept = c.loop-number.invariant in
    let told = lain rack.disk_at rack.disk_faults rack.faults in
    let before = c.loop-number.rack in
    let now = c.open_node.new.rack in
    let few : c.args.config.replicas ≤ 8 = (let range = c.args.config.in_range.replicas in omega arith) in
    let small = node_small config node few in
    let count = c.disk_count.ensures.count in
    let journals = c.of.result in
    let same = sym c.of.ensures in
    let items : c.push.new.self.items ≡ c.loop-number.opened.items ++ journals ∷ [] =
    c.push.ensures.items ∙ ap (λ (b : Bool). if b then c.loop-number.opened.items ++ journals ∷ [] else c.loop-number.opened.items) (c.push.ensures.succeeds (let r = kept.room in omega arith)) in
    let size = subst (λ js. length js ≡ disks_at config node) same (c.in-Ok.ensures.count ∙ count) in
    let opened = subst (λ js. AreOpened by node (told before) js) same c.in-Ok.ensures.opened in
    let stays = subst (λ (n : ℕ). StaysBut rack.lent_under rack.disk_faults rack.disk_at (IsDiskOfNode node n) before now) count c.open_node.ensures.others in
    record {
      opening = subst (AreOpening by config (told c.args.rack.now) (node + 1)) (sym items)
          (one_opening by config (told c.args.rack.now) (told before) node c.loop-number.opened.items journals kept.opening
          (λ j lt. same_where rack.lent_under rack.disk_faults rack.disk_at rack.faults c.args.rack.now before (disk_of node j) (kept.others (disk_of node j) (later_node config node node j few lt (omega arith))))
          few size opened);
      lent = λ k is. ⊎_elim
          (λ here.
          let inside = subst (λ (m : ℕ). is.2.0 < disks_at config m) here is.2.1 in
          let lent = c.in-Ok.ensures.lent is.2.0 (omega arith) in
          subst (λ (d : ℕ). rack.lent_under now d None) (sym (is.2.2 ∙ ap (λ (m : ℕ). disk_of m is.2.0) here)) lent)
          (λ other.
          let inside = node_small config is.0 few in
          let lt = is.2.1 in
          (stays k (λ of. other_node is.0 node (disks_at config node) is.2.0 small (omega arith) other (subst (IsDiskOfNode node (disks_at config node)) is.2.2 of))).lent None
          (kept.lent k (is.0, (let below = is.1 in omega arith), is.2)))
          (cases_eq is.0 node);
      others = stays_join rack.lent_under rack.disk_faults rack.disk_at (IsDiskBelow config node) (IsDiskOfNode node (disks_at config node)) (IsDiskBelow config (node + 1)) c.args.rack.now before now
          (λ k is. (is.0, (let lt = is.1 in omega arith), is.2)) (λ k is. (node, omega arith, is)) kept.others stays;
      later = (let a = kept.later in let b = c.open_node.ensures.later in omega arith);
      room = search rules;
    }

pub returns-clause-opened : goal.returns-clause-opened
returns-clause-opened g c =
    let end : c.loop-number.number ≡ nodes_of (shape c.args.config) = omega (arith, c.loop-number-test.false, c.loop-number.auto.number-end, c.nodes-count.ensures) in
    let opening = c.loop-number.invariant.opening in
    record { all = opening.count ∙ end; counts = opening.counts; each = opening.each }

pub returns-clause-lent : goal.returns-clause-lent
returns-clause-lent g c number is =
    let end : c.loop-number.number ≡ nodes_of (shape c.args.config) = omega (arith, c.loop-number-test.false, c.loop-number.auto.number-end, c.nodes-count.ensures) in
    c.loop-number.invariant.lent number (is.0, (let lt = is.1 in omega arith), is.2)

pub returns-clause-others : goal.returns-clause-others
returns-clause-others g c =
    let rack = g.Q.Rack in
    let end : c.loop-number.number ≡ nodes_of (shape c.args.config) = omega (arith, c.loop-number-test.false, c.loop-number.auto.number-end, c.nodes-count.ensures) in
    subst (λ (n : ℕ). StaysBut rack.lent_under rack.disk_faults rack.disk_at (IsDiskBelow (shape c.args.config) n) c.args.rack.now c.loop-number.rack) end c.loop-number.invariant.others
