use Rattle.std.proofs.Common.{ap, ◌∙◌}
use Rattle.cut_chain.specs.Known.{Known, learned}
use Rattle.orderer_node.proofs.Orderers.{added_known}
use Rattle.orderer_node.proofs.memory.learning.learn_next.Goals as goal

pub returns-in-Added-clause-chain : goal.returns-in-Added-clause-chain
returns-in-Added-clause-chain g c =
    c.apply.ensures ∙ ap (λ (k : Known). learned k c.args.value.now) c.requires.chain
    ∙ added_known c.args.chain.now.known.config c.args.known.now.known c.args.slot.0 c.args.value.now c.in-Added.ensures.answer
