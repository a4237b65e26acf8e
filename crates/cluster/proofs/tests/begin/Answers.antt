use Rattle.std.proofs.Common.{◌≡◌, ℕ, sym, ◌∙◌, subst}
use Rattle.log_base.specs.Shape.{shape}
use Rattle.node_model.specs.Sound.{payloads_on}
use Rattle.cluster.specs.Clusters.{IsPassOf}
use Rattle.cluster.proofs.tests.begin.Goals as goal

pub returns-clause-pass : goal.returns-clause-pass
returns-clause-pass c =
    let cluster = c.in_ok-cluster.cluster in let pass = c.in_ok-pass.pass in
    let is = c.in_ok-cluster.ensures.passes 0 pass c.in_ok-pass.ensures in
    let number : 0 ≡ pass.account.number = sym is.number_is ∙ pass.number_is in
    subst (λ (n : ℕ). IsPassOf (shape cluster.config) cluster.run (payloads_on cluster.kept) cluster.cells.table.shared.table_id n pass.seat) number is
