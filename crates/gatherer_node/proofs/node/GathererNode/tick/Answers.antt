use Rattle.std.proofs.Common.{◌≡◌, List, length, ap, sym, subst, arith, rules}
use Rattle.std.specs.List.{AllByRecursion}
use Rattle.history_frame.specs.declared.events.Sent.{Sent}
use Rattle.gatherer_node.specs.Gatherer.{IsShort}
use Rattle.log_base.specs.Shape.{shape}
use Rattle.node_model.specs.GathererRow.{leasts}
use Rattle.gatherer_node.proofs.Letters.{at_most_56, few_letters, short_letters}
use Rattle.gatherer_node.proofs.node.GathererNode.tick.Goals as goal

pub returns-then-eq-clause-few : goal.returns-then-eq-clause-few
returns-then-eq-clause-few c =
    let config = shape c.self.inside.config in
    let all = leasts config c.self.inside.index c.self.inside.reports 0 config.shards in
    let sent : c.send_leasts.new.letters.sent ≡ all = search rules in
    omega (arith, ap length sent, few_letters config c.self.inside.index c.self.inside.reports 0 config.shards, at_most_56 config.shards config.orderers (search arith) (search arith))

pub returns-then-eq-clause-short : goal.returns-then-eq-clause-short
returns-then-eq-clause-short c =
    let config = shape c.self.inside.config in
    let all = leasts config c.self.inside.index c.self.inside.reports 0 config.shards in
    let sent : c.send_leasts.new.letters.sent ≡ all = search rules in
    subst (λ (l : List Sent). AllByRecursion IsShort l) (sym sent)
    (short_letters config c.self.inside.index c.self.inside.reports 0 config.shards (search arith) (search arith) c.self.invariant.1)
