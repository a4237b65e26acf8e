use Rattle.std.proofs.Common.{◌≡◌, length, sym, arith, ◌∙◌}
use Rattle.std.specs.Prelude.{nat_le}
use Rattle.core_step.specs.Known.{known_count}
use Rattle.core_step.specs.Standing.{Standing, state_of}
use Rattle.quiet_run.proofs.Fronts.{none_of_all, none_push, one_here}
use Rattle.quiet_run.proofs.limits.is_one_full.Goals as goal

pub returns-then-is_full : goal.returns-then-is_full
returns-then-is_full g c =
    sym (one_here (λ (node : Standing g.row.J.Denot g.row.P.Denot). nat_le 16384 (known_count (state_of g.J.Journal.state node.part)))
    c.args.nodes.now c.loop-node.node-index c.node-item.result c.loop-node-test.true c.node-item.is (sym c.is_full.ensures ∙ c.if-is_full.true))

pub loop-node-preserved : goal.loop-node-preserved
loop-node-preserved g c =
    none_push (λ (node : Standing g.row.J.Denot g.row.P.Denot). nat_le 16384 (known_count (state_of g.J.Journal.state node.part)))
    c.args.nodes.now c.loop-node.node-index c.node-item.result c.loop-node-test.true c.node-item.is c.loop-node.invariant (sym c.is_full.ensures ∙ c.if-is_full.false)

pub returns : goal.returns
returns g c =
    let at_end : c.loop-node.node-index ≡ length c.args.nodes.now = omega arith in
    sym (none_of_all (λ (node : Standing g.row.J.Denot g.row.P.Denot). nat_le 16384 (known_count (state_of g.J.Journal.state node.part)))
    c.args.nodes.now c.loop-node.node-index at_end c.loop-node.invariant)
