use Rattle.std.proofs.Common.{◌<◌, ◌≤◌, ◌+◌, ℕ, length, map, sym, subst, arith}
use Rattle.std.specs.Prelude.{slice_index}
use Rattle.core_step.specs.Known.{known_count}
use Rattle.core_step.specs.Standing.{Standing, state_of}
use Rattle.quiet_run.proofs.Mosts.{IsMostBelow, greater_next, most_at_first, same_next}
use Rattle.quiet_run.proofs.knowing.first_to_know_most.Goals as goal
use Rattle.quiet_run.proofs.knowing.first_to_know_most.Goals.{then-known_at, else-known_at}

pub loop-i-init : goal.loop-i-init
loop-i-init g c =
    most_at_first (map (λ (node : Standing g.row.J.Denot g.row.P.Denot). known_count (state_of g.J.Journal.state node.part)) c.args.nodes.now) (length c.args.nodes.now) c.requires

pub loop-i-preserved : goal.loop-i-preserved
loop-i-preserved g c =
    let counts = map (λ (node : Standing g.row.J.Denot g.row.P.Denot). known_count (state_of g.J.Journal.state node.part)) c.args.nodes.now in
    let size = length c.args.nodes.now in
    elim c.if-known_at.branch [
      | then-known_at w ↦
          let above : slice_index counts c.loop-i.most < slice_index counts c.loop-i.i = omega (arith, c.known_at.ensures, c.known_at-in-loop-i.ensures, w.if-known_at.true) in
          subst (λ (m : ℕ). IsMostBelow counts size (c.loop-i.i + 1) m) (sym w.most-is)
          (greater_next counts size c.loop-i.i c.loop-i.most c.loop-i.invariant c.loop-i-test.true above)
      | else-known_at w ↦
          let below : slice_index counts c.loop-i.i ≤ slice_index counts c.loop-i.most = omega (arith, c.known_at.ensures, c.known_at-in-loop-i.ensures, w.if-known_at.false) in
          subst (λ (m : ℕ). IsMostBelow counts size (c.loop-i.i + 1) m) (sym w.most-is)
          (same_next counts size c.loop-i.i c.loop-i.most c.loop-i.invariant c.loop-i-test.true below)
    ]

pub returns-clause-most : goal.returns-clause-most
returns-clause-most g c = λ k inside. c.loop-i.invariant.most k (let end = c.loop-i-test.false in omega (arith, inside, end))
