use Rattle.std.proofs.Common.{ℕ, Ok, sym, ◌∙◌, subst}
use Rattle.log_base.specs.Shape.{shape}
use Rattle.node_model.specs.Sound.{payloads_on}
use Rattle.node_table.specs.Numbering.{nodes_of}
use Rattle.cluster.specs.Clusters.{IsPassOf}
use Rattle.tied_cells.specs.Turns.{IsSpent}
use Rattle.lane_work.specs.declared.turning.Went.{Went}
use Rattle.lane_work.specs.Keeping.{TurnsAll}
use Rattle.lane_work.proofs.Rounds.{ends_err, last_round, one_round}
use Rattle.lane_work.proofs.turning.turn_in_rounds.Goals as goal

pub loop-round-preserved : goal.loop-round-preserved
loop-round-preserved g c =
    let config = shape c.args.cluster.now.config in
    let w = c.in_ok-turn_all.ensures in
    let t = c.loop-round in
    let before = c.args.pass.now.seat.me.0.own in
    let own = t.pass.seat.me.0.own in
    let after = c.turn_all.new.pass.seat.me.0.own in
    let number = sym t.pass.number_is ∙ t.invariant.pass.number_is in
    record {
      pass = subst (λ (n : ℕ). IsPassOf config c.args.cluster.now.run (payloads_on c.args.cluster.now.kept) c.args.cluster.now.cells.table.shared.table_id n c.turn_all.new.pass.seat) number w.pass;
      made = one_round (nodes_of config) t.round before own after t.invariant.made
          (subst (λ (went : Went). TurnsAll (nodes_of config) c.turn_all.new.pass.account own after (Ok went)) c.in-Made.is w.went);
    }

pub returns-in-Spent-clause-went : goal.returns-in-Spent-clause-went
returns-in-Spent-clause-went g c =
    let config = shape c.args.cluster.now.config in
    let t = c.loop-round in
    let own = t.pass.seat.me.0.own in
    let after = c.turn_all.new.pass.seat.me.0.own in
    let account = c.turn_all.new.pass.account in
    last_round (nodes_of config) t.round c.args.pass.now.seat.me.0.own own after t.invariant.made account (Ok tt) (λ (count : ℕ). IsSpent account)
    (subst (λ (went : Went). TurnsAll (nodes_of config) account own after (Ok went)) c.in-Spent.is c.in_ok-turn_all.ensures.went)
    c.loop-round-test.true (λ more spent short. spent)

pub returns-in_err-turn_all-clause-went : goal.returns-in_err-turn_all-clause-went
returns-in_err-turn_all-clause-went g c =
    let config = shape c.args.cluster.now.config in
    let t = c.loop-round in
    let account = c.turn_all.new.pass.account in
    last_round (nodes_of config) t.round c.args.pass.now.seat.me.0.own t.pass.seat.me.0.own c.turn_all.new.pass.seat.me.0.own t.invariant.made account c.from_residual.result (λ (count : ℕ). Unit {0})
    c.in_err-turn_all.ensures.went c.loop-round-test.true (λ more done. ends_err (nodes_of config) account _ c.from_residual.result c.from_residual.ensures.0)
