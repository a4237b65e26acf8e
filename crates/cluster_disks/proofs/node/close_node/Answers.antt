use Rattle.std.proofs.Common.{◌≡◌, ℕ, ◌+◌, ◌<◌, None, length, sym, ap, ◌∙◌, subst, ⊎_elim, arith, rules}
use Rattle.std.proofs.lemmas.Bool.{cases_eq}
use Rattle.std.proofs.lemmas.Iterator.Adapters.{YieldsList-from_vec}
use Rattle.std.proofs.lemmas.Iterator.Consumers.{YieldsList-turn, YieldsList-end}
use Rattle.std.specs.Prelude.{IfSome}
use Rattle.disk_base.specs.Lending.{IsGivenBack}
use Rattle.node_table.specs.Numbering.{disk_of}
use Rattle.cluster_disks.specs.Lent.{IsDiskOfNode, StaysBut, disks, lain}
use Rattle.cluster_disks.specs.Opened.{AreGivenBack}
use Rattle.cluster_disks.proofs.Closing.{laid_back, one_closed}
use Rattle.cluster_disks.proofs.Lending.{same_where, stays_join, taken_all}
use Rattle.cluster_disks.proofs.node.close_node.Goals as goal

pub journals-preserved : goal.journals-preserved
journals-preserved g c =
    let rack = g.Q.Rack in
    let device = g.Q.D.Disk in
    let by = disks device.reads device.may_leave device.keeps_synced device.faults in
    let node = c.args.node.0 in
    let segment = c.journals.segment in
    let journal = c.in-Some.journal in
    let kept = c.journals.invariant in
    let old = c.journals.rack in
    let new = c.give_back.new.self in
    let number_is : c.disk.result ≡ disk_of node segment = c.disk.ensures in
    let turn = YieldsList-turn (YieldsList-from_vec {s = c.into_iter-journal-iterator.result} c.args.journals.items (search rules) (search rules))
    c.journals.yielded c.journals.journal-iterator c.journals.yielded_by c.next.result c.next.new.self journal c.in-Some.is c.next.ensures.steps in
    let within : segment < length c.args.journals.items = (let n = kept.closing.count in let lt = turn.0 in omega arith) in
    let lent = subst (λ (k : ℕ). rack.lent_under old k None) (sym number_is) (kept.lent segment within) in
    let lies = subst (λ (k : ℕ). IfSome (rack.disk_at new None k) (IsGivenBack device.reads device.may_leave device.keeps_synced device.faults c.into_disk.result)) number_is (c.give_back.ensures.disk None lent) in
    let count = subst (λ (k : ℕ). rack.disk_faults new None k ≡ device.faults c.into_disk.result) number_is (c.give_back.ensures.disk_count None lent) in
    record {
      closing = one_closed by node (lain rack.disk_at rack.disk_faults rack.faults old) (lain rack.disk_at rack.disk_faults rack.faults new) segment c.journals.yielded journal
          kept.closing (λ k other. same_where rack.lent_under rack.disk_faults rack.disk_at rack.faults old new k (c.give_back.ensures.others k (λ e. other (e ∙ number_is))))
          (laid_back by journal c.into_disk.result (lain rack.disk_at rack.disk_faults rack.faults new (disk_of node segment))
          c.into_disk.ensures.disk c.into_disk.ensures.images lies count);
      lent = λ j lt. ⊎_elim
          (λ same. subst (λ (k : ℕ). rack.lent_under new k None) same (c.give_back.ensures.lent None lent))
          (λ other. (c.give_back.ensures.others (disk_of node j) (λ e. other (sym e))).lent None (kept.lent j lt))
          (cases_eq c.disk.result (disk_of node j));
      others = stays_join rack.lent_under rack.disk_faults rack.disk_at (IsDiskOfNode node segment) (λ (k : ℕ). k ≡ c.disk.result) (IsDiskOfNode node (segment + 1)) c.args.rack.now old new
          (λ k is. (is.0, (let lt = is.1 in omega arith), is.2)) (λ k is. (segment, omega arith, is ∙ number_is)) kept.others c.give_back.ensures.others;
      later = (let a = kept.later in let b = c.give_back.ensures.later in omega arith);
    }

pub returns-clause-back : goal.returns-clause-back
returns-clause-back g c =
    let rack = g.Q.Rack in
    let device = g.Q.D.Disk in
    let end = YieldsList-end (YieldsList-from_vec {s = c.into_iter-journal-iterator.result} c.args.journals.items (search rules) (search rules))
    c.journals.yielded c.journals.journal-iterator c.journals.yielded_by c.next.result c.next.new.self c.in-None.is c.next.ensures.steps in
    let all = taken_all c.journals.yielded c.args.journals.items end.0 in
    subst (λ js. AreGivenBack (disks device.reads device.may_leave device.keeps_synced device.faults) c.args.node.0 js (lain rack.disk_at rack.disk_faults rack.faults c.journals.rack)) all c.journals.invariant.closing.back

pub returns-clause-others : goal.returns-clause-others
returns-clause-others g c =
    let rack = g.Q.Rack in
    let end = YieldsList-end (YieldsList-from_vec {s = c.into_iter-journal-iterator.result} c.args.journals.items (search rules) (search rules))
    c.journals.yielded c.journals.journal-iterator c.journals.yielded_by c.next.result c.next.new.self c.in-None.is c.next.ensures.steps in
    let all = taken_all c.journals.yielded c.args.journals.items end.0 in
    let total : c.journals.segment ≡ length c.args.journals.items = c.journals.invariant.closing.count ∙ ap (λ l. length l) all in
    subst (λ (n : ℕ). StaysBut rack.lent_under rack.disk_faults rack.disk_at (IsDiskOfNode c.args.node.0 n) c.args.rack.now c.journals.rack) total c.journals.invariant.others
