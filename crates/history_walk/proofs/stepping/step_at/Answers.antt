use Rattle.std.proofs.Common.{◌≡◌, ℕ, get_or, refl, sym, ap, subst, ◌∙◌}
use Rattle.history_frame.specs.declared.events.Event.{Event}
use Rattle.history_frame.specs.declared.events.Happened.{Happened}
use Rattle.history_frame.specs.Effects.{happened}
use Rattle.std.proofs.Common.{List}
use Rattle.log_base.specs.ClusterShape.{Shape}
use Rattle.log_base.specs.Shape.{shape}
use Rattle.node_model.specs.NodeState.{KeptLists}
use Rattle.history_walk.specs.Beginning.{AreNodes, IsNode, MemoryNode}
use Rattle.history_walk.specs.Stepped.{HasStepped}
use Rattle.history_walk.proofs.Steps.{fits_of, flown_of, has_stepped, here, in_range_of, number_of}
use Rattle.node_table.specs.Numbering.{nodes_of}
use Rattle.std.proofs.Common.{◌<◌, set}
use Rattle.history_walk.proofs.stepping.step_at.Goals as goal

-- the node that was lent is the one of its number
lent : (config : Shape) (kept : KeptLists) (events : List Event) (nodes : List MemoryNode) (number at : ℕ) (node : MemoryNode) → AreNodes config kept events nodes → number < nodes_of config
    → at ≡ number → node ≡ get_or nodes at node → IsNode config kept events number node
lent config kept events nodes number at node stand lt e value =
    subst (IsNode config kept events number) (sym (value ∙ ap (λ (k : ℕ). get_or nodes k node) e)) (here config kept events nodes number node stand lt)

pub step-requires-clause-in_range : goal.step-requires-clause-in_range
step-requires-clause-in_range c =
    let may = c.requires.stand.3 in
    in_range_of _ c.requires.stand.0 c.requires.stand.1 c.requires.stand.2 _ _ _ may c.requires.node c.index_mut.result.now
    (lent _ c.requires.stand.1 c.requires.stand.2 _ c.args.node.0 c.from.result c.index_mut.result.now may.stand c.requires.node c.from.ensures c.index_mut.ensures.value)

pub step-requires-clause-number : goal.step-requires-clause-number
step-requires-clause-number c =
    let may = c.requires.stand.3 in
    number_of _ c.requires.stand.0 c.requires.stand.1 c.requires.stand.2 _ _ _ may c.requires.node c.index_mut.result.now
    (lent _ c.requires.stand.1 c.requires.stand.2 _ c.args.node.0 c.from.result c.index_mut.result.now may.stand c.requires.node c.from.ensures c.index_mut.ensures.value)

pub step-requires-clause-flown : goal.step-requires-clause-flown
step-requires-clause-flown c =
    let may = c.requires.stand.3 in
    flown_of _ c.requires.stand.0 c.requires.stand.1 c.requires.stand.2 _ _ _ may c.requires.node c.index_mut.result.now
    (lent _ c.requires.stand.1 c.requires.stand.2 _ c.args.node.0 c.from.result c.index_mut.result.now may.stand c.requires.node c.from.ensures c.index_mut.ensures.value)

pub step-requires-clause-fits : goal.step-requires-clause-fits
step-requires-clause-fits c =
    let may = c.requires.stand.3 in
    fits_of _ c.requires.stand.0 c.requires.stand.1 c.requires.stand.2 _ _ _ may c.requires.node c.index_mut.result.now
    (lent _ c.requires.stand.1 c.requires.stand.2 _ c.args.node.0 c.from.result c.index_mut.result.now may.stand c.requires.node c.from.ensures c.index_mut.ensures.value)

pub returns : goal.returns
returns c run kept events may =
    let made : Happened = happened c.args.input.now c.in_ok-effect.effect in
    subst (λ (k : ℕ). HasStepped (shape c.args.config.now) kept events c.args.node.0 c.args.input.now c.args.mark made c.step.new.out.letters (set c.args.nodes.now.items k c.step.new.node)) (sym c.from.ensures)
    (has_stepped (shape c.args.config.now) run kept events c.args.nodes.now.items c.args.node.0 c.args.input.now may c.requires.node c.index_mut.result.now
    (lent (shape c.args.config.now) kept events c.args.nodes.now.items c.args.node.0 c.from.result c.index_mut.result.now may.stand c.requires.node c.from.ensures c.index_mut.ensures.value)
    c.args.mark c.step.new.node made c.step.new.out.letters c.in_ok-effect.ensures.config c.in_ok-effect.ensures.number refl c.in_ok-effect.ensures.row
    c.in_ok-effect.ensures.state c.in_ok-effect.ensures.letters c.in_ok-effect.ensures.mark)
