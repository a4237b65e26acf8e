use Rattle.std.proofs.Common.{◌≡◌, OnOk, ◌++◌, Some, ℕ, List, sym, subst, arith, rules}
use Rattle.event_letters.specs.Letters.{HasSpace}
use Rattle.log_base.specs.Shape.{shape}
use Rattle.gatherer_node.specs.Gatherer.{least_due}
use Rattle.gatherer_node.proofs.Letters.{room_for}
use Rattle.gatherer_node.proofs.sending.ready_least.Goals as goal

pub returns-in-Some-clause-space : goal.returns-in-Some-clause-space
returns-in-Some-clause-space c =
    let due : least_due (shape c.args.config.now) c.args.index c.args.reports.now c.args.shard.0 ≡ Some c.in-Some._lengths = search rules in
    let room = room_for (shape c.args.config.now) c.args.index c.args.reports.now c.args.shard.0 c.in-Some._lengths (search arith) c.requires.reports due in
    subst (λ (l : List ℕ). OnOk c.ready.result ((sizes : List ℕ) → HasSpace c.args.letters.now c.args.out.now.rooms sizes → HasSpace c.ready.new.self c.ready.new.out.rooms (sizes ++ l)))
    (sym room) (search rules)
