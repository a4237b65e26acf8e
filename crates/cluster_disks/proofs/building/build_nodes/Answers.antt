use Rattle.std.proofs.Common.{◌≡◌, ℕ, ◌+◌, Bool, ◌∷◌, [], ◌++◌, Some, length, length-append, sym, ap, ◌∙◌, subst, arith, rules}
use Rattle.std.specs.Prelude.{if◌then◌else◌, slice_get}
use Rattle.log_base.specs.Shape.{shape}
use Rattle.node_model.specs.NodeState.{node_at_first}
use Rattle.node_model.specs.Sound.{payloads_on}
use Rattle.cluster_disks.specs.Found.{kept_in}
use Rattle.cluster_disks.specs.Lent.{disks}
use Rattle.cluster_disks.specs.Nodes.{AreMade, AreTaken, IsBeginning, media_over}
use Rattle.cluster_disks.proofs.Built.{begins, none_made, none_taken, one_made, one_taken, put_back}
use Rattle.cluster_disks.proofs.building.build_nodes.Goals as goal

pub loop-number-init : goal.loop-number-init
loop-number-init g c =
    let by = disks g.D.Disk.reads g.D.Disk.may_leave g.D.Disk.keeps_synced g.D.Disk.faults in
    let none = c.reserve.ensures.items ∙ c.new-nodes.ensures.items in
    record {
      made = subst (λ ns. AreMade by (shape c.args.config) c.args.journals.items ns) (sym none) (none_made by (shape c.args.config) c.args.journals.items);
      taken = none_taken c.args.journals.items;
      count = ap (λ ns. length ns) none;
      room = search rules;
    }

pub make_node-requires-clause-beginning : goal.make_node-requires-clause-beginning
make_node-requires-clause-beginning g c =
    let by = disks g.D.Disk.reads g.D.Disk.may_leave g.D.Disk.keeps_synced g.D.Disk.faults in
    let config = shape c.args.config in
    let journals = c.args.journals.items in
    let number = c.loop-number.number in
    let at = sym (c.loop-number.invariant.taken.left number (omega arith)) ∙ c.replace-own.ensures.taken in (
      payloads_on (kept_in 0 journals),
      subst (λ own. IsBeginning (λ j. j.journal) config (payloads_on (kept_in 0 journals)) number own) (sym c.into_inner.ensures)
          (begins by config c.requires.sound.0 journals number c.replace-own.result c.requires.counts c.requires.small c.requires.fresh c.requires.sound.1 at),
    )

pub returns-in-Err-clause-rest : goal.returns-in-Err-clause-rest
returns-in-Err-clause-rest g c =
    let journals = c.args.journals.items in
    let number = c.loop-number.number in
    let kept = c.loop-number.invariant in
    let own = c.of-in-Err.ensures ∙ c.in-Err.ensures.back ∙ c.into_inner.ensures in
    subst (λ (n : ℕ). AreTaken n journals c.replace-empty.new.journals.items) (sym kept.count)
    (put_back number journals c.loop-number.rest.items c.replace-own.new.journals.items c.replace-empty.new.journals.items c.replace-own.result kept.taken c.replace-own.ensures.taken
    c.replace-own.ensures.size c.replace-own.ensures.rest c.replace-empty.ensures.size (c.replace-empty.ensures.put ∙ ap (λ js. Some js) own) c.replace-empty.ensures.rest)

pub loop-number-preserved : goal.loop-number-preserved
loop-number-preserved g c =
    let by = disks g.D.Disk.reads g.D.Disk.may_leave g.D.Disk.keeps_synced g.D.Disk.faults in
    let config = shape c.args.config in
    let journals = c.args.journals.items in
    let number = c.loop-number.number in
    let nodes = c.loop-number.nodes.items in
    let node = c.in-Ok.node in
    let kept = c.loop-number.invariant in
    let first = payloads_on (kept_in 0 journals) in
    let own = c.replace-own.result in
    let at = sym (kept.taken.left number (omega arith)) ∙ c.replace-own.ensures.taken in
    let beginning = begins by config c.requires.sound.0 journals number own c.requires.counts c.requires.small c.requires.fresh c.requires.sound.1 at in
    let items : c.push.new.self.items ≡ nodes ++ node ∷ [] =
    c.push.ensures.items ∙ ap (λ (b : Bool). if b then nodes ++ node ∷ [] else nodes) (c.push.ensures.succeeds (let r = kept.room in omega arith)) in
    let stands = c.in-Ok.ensures.state first (subst (λ js. IsBeginning (λ j. j.journal) config first number js) (sym c.into_inner.ensures) beginning) in
    record {
      made = subst (λ ns. AreMade by config journals ns) (sym items)
          (one_made by config journals nodes node own kept.made (ap (λ (n : ℕ). slice_get journals n) kept.count ∙ at) c.in-Ok.ensures.config (c.in-Ok.ensures.number ∙ sym kept.count)
          (stands ∙ ap (λ (n : ℕ). node_at_first config first n) (sym kept.count))
          (c.in-Ok.ensures.media ∙ ap (λ js. media_over by js) c.into_inner.ensures));
      taken = one_taken number journals c.loop-number.rest.items c.replace-own.new.journals.items kept.taken c.replace-own.ensures.size
          (c.replace-own.ensures.put ∙ ap (λ js. Some js) (c.of.ensures ∙ c.new.ensures.items)) c.replace-own.ensures.rest;
      count = ap (λ ns. length ns) items ∙ length-append nodes (node ∷ []) ∙ ap (λ (n : ℕ). n + 1) kept.count;
      room = search rules;
    }
