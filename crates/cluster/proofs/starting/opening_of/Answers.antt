use Rattle.std.proofs.Common.{◌++◌, ◌∷◌, [], ap, ◌∙◌}
use Rattle.history_frame.specs.declared.inputs.Input.TheVariants.{Lead}
use Rattle.cluster.specs.Opening.{restarts_from}
use Rattle.cluster.proofs.starting.opening_of.Goals as goal

pub returns : goal.returns
returns c =
    c.push_reserved.ensures.items ∙ (λ i. (c.put_restarts.ensures.asked ∙ ap (restarts_from 0) c.nodes-count.ensures) i ++ (record { 0 = c.orderer.ensures.node i }, Lead) ∷ [])
