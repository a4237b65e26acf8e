use Rattle.std.proofs.Common.{◌≡◌, ◌+◌, ℕ, List, length, Some, sym, ap, subst, ◌∙◌}
use Rattle.history_frame.specs.declared.inputs.Mark.{Mark}
use Rattle.node_model.specs.Machine.{ClusterNode}
use Rattle.shard_replica.specs.Lists.{Medium}
use Rattle.counted_node.specs.Causes.{AllKeep, IsCounted, journals_at, node_media}
use Rattle.counted_node.specs.Counted.{AreCounted, Counted, IsReadyToCount}
use Rattle.counted_node.proofs.Stepping.{one_counted, told_all}
use Rattle.counted_node.proofs.node.CountedNodeMachine.step.Goals as goal

pub invariant_of-self : goal.invariant_of-self
invariant_of-self g c =
    let told = node_media {P = g.row.P.Denot} g.J.Journal.state g.J.Journal.faults g.J.Journal.keeps_synced g.J.Journal.turns in
    let old = c.self.inside.node in
    let new = c.step-happened.new.self in
    let first = told c.self.inside.first.value in
    let count = journals_at old.config old.number in
    let halts = c.self.inside.halted in
    let stays = c.self.inside.stayed in
    let mark = c.step-happened.result.mark in
    let seat : journals_at new.config new.number ≡ count = ap (λ (n : ClusterNode). journals_at n.config n.number) c.step-happened.ensures.after in
    let still : length (told new) ≡ count
    = told_all g.J.Journal.state g.J.Journal.faults g.J.Journal.keeps_synced g.J.Journal.turns (journals_at new.config new.number) (told new) c.tell.ensures ∙ seat in
    let ready
    = subst (λ (v : Counted g.row.J.Denot g.row.P.Denot). IsReadyToCount g.J.Journal.state g.J.Journal.faults g.J.Journal.keeps_synced g.J.Journal.turns v c.args.input c.args.out.now)
    (sym c.self.view_is) c.requires.ready in
    subst (λ (x : ℕ × ℕ × ℕ). AreCounted x.0 first (told new) x.1 x.2) (λ i. (sym seat i, sym c.halted_after-self-inside.ensures i, sym c.stayed_after-self-inside.ensures i))
    (one_counted count first (told old) (told new) halts stays c.self.invariant c.step-happened.ensures.counts mark still c.step-happened.ensures.halted
    (λ is keep.
    let restarts = c.step-happened.ensures.stayed is in
    ready.rose restarts (c.step-happened.ensures.opened restarts ∙ ap (λ (m : Mark). Some m) is) keep))
