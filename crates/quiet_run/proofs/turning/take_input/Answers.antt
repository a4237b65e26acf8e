use Rattle.std.proofs.Common.{◌≡◌, length, ap, ◌∙◌}
use Rattle.node_model.specs.Machine.{ClusterNode}
use Rattle.core_step.specs.Disks.{start_mark}
use Rattle.counted_node.specs.Causes.{journals_at, node_media}
use Rattle.counted_node.proofs.Stepping.{told_all}
use Rattle.quiet_run.proofs.Causing.{cause_is}
use Rattle.counted_node.proofs.Rises.{counts_then}
use Rattle.quiet_run.proofs.turning.take_input.Goals as goal

pub returns-clause-counts : goal.returns-clause-counts
returns-clause-counts g c =
    let told = node_media {P = g.row.P.Denot} g.J.Journal.state g.J.Journal.faults g.J.Journal.keeps_synced g.J.Journal.turns in
    counts_then (told c.args.node.now) (told c.ready.new.self) (told c.step-happened.new.self) c.ready.ensures.counts c.step-happened.ensures.counts

pub returns-clause-cause : goal.returns-clause-cause
returns-clause-cause g c =
    let told = node_media {P = g.row.P.Denot} g.J.Journal.state g.J.Journal.faults g.J.Journal.keeps_synced g.J.Journal.turns in
    let count = journals_at c.args.node.now.config c.args.node.now.number in
    let now = c.step-happened.new.self in
    let before : length (told c.args.node.now) ≡ count
    = told_all g.J.Journal.state g.J.Journal.faults g.J.Journal.keeps_synced g.J.Journal.turns count (told c.args.node.now) c.tell.ensures in
    let after : length (told now) ≡ journals_at now.config now.number
    = told_all g.J.Journal.state g.J.Journal.faults g.J.Journal.keeps_synced g.J.Journal.turns (journals_at now.config now.number) (told now) c.tell-2.ensures in
    let seat : journals_at now.config now.number ≡ count
    = ap (λ (n : ClusterNode). journals_at n.config n.number) c.step-happened.ensures.after ∙ ap (λ (n : ClusterNode). journals_at n.config n.number) c.ready.ensures.same in
    cause_is count (told c.args.node.now) (told c.ready.new.self) (told now) before (after ∙ seat) c.ready.ensures.counts c.step-happened.ensures.counts
    c.step-happened.result.mark c.args.input (start_mark g.J.Journal.state c.ready.new.self.part)
    c.step-happened.ensures.halted c.step-happened.ensures.stayed c.step-happened.ensures.opened c.in_ok-ready.ensures.opening
