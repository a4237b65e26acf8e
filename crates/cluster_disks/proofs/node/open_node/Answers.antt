use Rattle.std.proofs.Common.{◌≡◌, ◌≢◌, inr, ℕ, ◌+◌, ◌<◌, Bool, ◌∷◌, [], ◌++◌, None, length, sym, ap, ◌∙◌, subst, ⊎_elim, arith, rules}
use Rattle.std.proofs.lemmas.Bool.{cases_eq}
use Rattle.std.specs.Prelude.{if◌then◌else◌}
use Rattle.node_table.specs.Numbering.{disk_of}
use Rattle.cluster_disks.specs.Lent.{IsDiskOfNode, StaysBut, disks, lain}
use Rattle.cluster_disks.specs.Opened.{FailsToOpen, IsOpened, IsReturned}
use Rattle.cluster_disks.proofs.Lending.{later_segment, same_where, stays_join}
use Rattle.cluster_disks.proofs.Opening.{IsOpening, all_returned, one_fails, one_opened}
use Rattle.cluster_disks.proofs.node.open_node.Goals as goal

-- the disks before this one are still lent
pub close_node-requires-clause-lent : goal.close_node-requires-clause-lent
close_node-requires-clause-lent g c κs κ≤ j lt =
    let node = c.args.node.0 in
    let segment = c.loop-segment.segment in
    let within : j < segment = (let n = c.loop-segment.invariant.opening.count in omega arith) in
    let apart : disk_of node j ≢ c.disk.result = λ e. (let f = e ∙ c.disk.ensures in omega arith) in
    (c.open_disk.ensures.others (disk_of node j) apart).lent None (c.loop-segment.invariant.lent j within)

pub returns-in-Err-clause-fails : goal.returns-in-Err-clause-fails
returns-in-Err-clause-fails g c =
    let rack = g.Q.Rack in
    let device = g.Q.D.Disk in
    let by = disks device.reads device.may_leave device.keeps_synced device.faults in
    let node = c.args.node.0 in
    let segment = c.loop-segment.segment in
    let kept = c.loop-segment.invariant in
    let told = lain rack.disk_at rack.disk_faults rack.faults in
    let this = subst (λ (k : ℕ). FailsToOpen by k (told c.loop-segment.rack k) (told c.open_disk.new.rack k) c.in-Err.fault) c.disk.ensures c.in-Err.ensures.fails in
    inr (one_fails by node c.args.count (told c.args.rack.now) (told c.loop-segment.rack) (told c.open_disk.new.rack) (told c.close_node.new.rack) segment c.loop-segment.journals.items c.in-Err.fault
    (omega arith) kept.opening
    (λ k other. same_where rack.lent_under rack.disk_faults rack.disk_at rack.faults _ _ k (kept.others k other))
    (λ k other. same_where rack.lent_under rack.disk_faults rack.disk_at rack.faults _ _ k (c.close_node.ensures.others k other))
    (λ k. kept.later) (λ k. c.close_node.ensures.later) this)

pub returns-in-Err-clause-back : goal.returns-in-Err-clause-back
returns-in-Err-clause-back g c number is =
    let rack = g.Q.Rack in
    let device = g.Q.D.Disk in
    let by = disks device.reads device.may_leave device.keeps_synced device.faults in
    let node = c.args.node.0 in
    let segment = c.loop-segment.segment in
    let kept = c.loop-segment.invariant in
    let told = lain rack.disk_at rack.disk_faults rack.faults in
    let this = subst (λ (k : ℕ). IsReturned by (told c.loop-segment.rack k) (told c.open_disk.new.rack k)) c.disk.ensures c.in-Err.ensures.back in
    subst (λ (k : ℕ). IsReturned by (told c.args.rack.now k) (told c.close_node.new.rack k)) (sym is.2)
    (all_returned by node (told c.args.rack.now) (told c.loop-segment.rack) (told c.open_disk.new.rack) (told c.close_node.new.rack) segment c.loop-segment.journals.items
    kept.opening
    (λ k other. same_where rack.lent_under rack.disk_faults rack.disk_at rack.faults _ _ k (kept.others k other))
    (λ k other. same_where rack.lent_under rack.disk_faults rack.disk_at rack.faults _ _ k (c.open_disk.ensures.others k (λ e. other (e ∙ c.disk.ensures))))
    (λ k other. same_where rack.lent_under rack.disk_faults rack.disk_at rack.faults _ _ k (c.close_node.ensures.others k other))
    (λ k. kept.later) (λ k. c.open_disk.ensures.later) (λ k. c.close_node.ensures.later) this c.close_node.ensures.back is.0)

pub returns-in-Err-clause-others : goal.returns-in-Err-clause-others
returns-in-Err-clause-others g c =
    let rack = g.Q.Rack in
    let node = c.args.node.0 in
    let segment = c.loop-segment.segment in
    let count = c.args.count in
    let held = length c.loop-segment.journals.items in
    stays_join rack.lent_under rack.disk_faults rack.disk_at (IsDiskOfNode node count) (IsDiskOfNode node held) (IsDiskOfNode node count) c.args.rack.now c.open_disk.new.rack c.close_node.new.rack
    (λ k is. is) (λ k is. (is.0, (let lt = is.1 in let n = c.loop-segment.invariant.opening.count in omega arith), is.2))
    (stays_join rack.lent_under rack.disk_faults rack.disk_at (IsDiskOfNode node segment) (λ (k : ℕ). k ≡ c.disk.result) (IsDiskOfNode node count) c.args.rack.now c.loop-segment.rack c.open_disk.new.rack
    (λ k is. (is.0, (let lt = is.1 in omega arith), is.2)) (λ k is. (segment, omega arith, is ∙ c.disk.ensures))
    c.loop-segment.invariant.others c.open_disk.ensures.others)
    c.close_node.ensures.others

pub loop-segment-preserved : goal.loop-segment-preserved
loop-segment-preserved g c =
    let rack = g.Q.Rack in
    let device = g.Q.D.Disk in
    let by = disks device.reads device.may_leave device.keeps_synced device.faults in
    let node = c.args.node.0 in
    let segment = c.loop-segment.segment in
    let kept = c.loop-segment.invariant in
    let told = lain rack.disk_at rack.disk_faults rack.faults in
    let before = c.loop-segment.rack in
    let now = c.open_disk.new.rack in
    let items : c.push.new.self.items ≡ c.loop-segment.journals.items ++ c.in-Ok.journal ∷ [] =
    c.push.ensures.items ∙ ap (λ (b : Bool). if b then c.loop-segment.journals.items ++ c.in-Ok.journal ∷ [] else c.loop-segment.journals.items) (c.push.ensures.succeeds (let r = kept.room in omega arith)) in
    let opened = subst (λ (k : ℕ). IsOpened by (told before k) c.in-Ok.journal) c.disk.ensures c.in-Ok.ensures.opened in
    let lent = subst (λ (k : ℕ). rack.lent_under now k None) c.disk.ensures c.in-Ok.ensures.lent in
    record {
      opening = subst (IsOpening by node (told c.args.rack.now) (segment + 1)) (sym items)
          (one_opened by node (told c.args.rack.now) (told before) segment c.loop-segment.journals.items c.in-Ok.journal kept.opening
          (same_where rack.lent_under rack.disk_faults rack.disk_at rack.faults _ _ _ (kept.others (disk_of node segment) (later_segment node segment segment (omega arith))))
          opened);
      lent = λ j lt. ⊎_elim
          (λ same. subst (λ (n : ℕ). rack.lent_under now (disk_of node n) None) (sym same) lent)
          (λ other. (c.open_disk.ensures.others (disk_of node j) (λ e. (let f = e ∙ c.disk.ensures in omega arith))).lent None (kept.lent j (omega arith)))
          (cases_eq j segment);
      others = stays_join rack.lent_under rack.disk_faults rack.disk_at (IsDiskOfNode node segment) (λ (k : ℕ). k ≡ c.disk.result) (IsDiskOfNode node (segment + 1)) c.args.rack.now before now
          (λ k is. (is.0, (let lt = is.1 in omega arith), is.2)) (λ k is. (segment, omega arith, is ∙ c.disk.ensures)) kept.others c.open_disk.ensures.others;
      later = (let a = kept.later in let b = c.open_disk.ensures.later in omega arith);
      room = search rules;
    }

pub returns-clause-others : goal.returns-clause-others
returns-clause-others g c =
    let rack = g.Q.Rack in
    let segment = c.loop-segment.segment in
    let end : segment ≡ c.args.count = omega (arith, c.loop-segment-test.false, c.loop-segment.auto.segment-end) in
    subst (λ (n : ℕ). StaysBut rack.lent_under rack.disk_faults rack.disk_at (IsDiskOfNode c.args.node.0 n) c.args.rack.now c.loop-segment.rack) end c.loop-segment.invariant.others
