use Rattle.std.proofs.Common.{◌≡◌, inr, sym, ap, ◌∙◌, refl}
use Rattle.std.specs.List.{list_any}
use Rattle.core_step.specs.Standing.{cluster_node}
use Rattle.cluster_run.proofs.Full.{knows_most}
use Rattle.cluster_run.proofs.Results.{at_some, not_none}
use Rattle.cluster_run.proofs.serving.end.Goals as goal

pub returns-then-is_one_full-clause-stopped : goal.returns-then-is_one_full-clause-stopped
returns-then-is_one_full-clause-stopped g c =
    let told = c.stopped-then-is_one_full.ensures in (
      at_some (λ left stop. left.items ≡ c.args.nodes.items) c.stopped-then-is_one_full.result.nodes c.args.nodes c.stopped-then-is_one_full.result.stop _ told.1 told.0 refl,
      not_none c.stopped-then-is_one_full.result.nodes c.args.nodes told.1,
      inr (told.0, ap (list_any (knows_most (cluster_node g.J.Journal.state))) (sym c.deref.ensures.value) ∙ (sym c.is_one_full.ensures ∙ c.if-is_one_full.true)),
    )

pub returns-clause-few : goal.returns-clause-few
returns-clause-few g c =
    ap (list_any (knows_most (cluster_node g.J.Journal.state))) (sym c.deref.ensures.value) ∙ (sym c.is_one_full.ensures ∙ c.if-is_one_full.false)
