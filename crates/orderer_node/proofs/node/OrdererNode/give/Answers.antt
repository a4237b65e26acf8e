use Rattle.std.proofs.Common.{◌≡◌, ◌+◌, ◌≤◌, List, ◌++◌, length, map, take, drop, replicate, refl, sym, ap, subst, ◌∙◌, arith}
use Rattle.std.specs.List.{AllByRecursion}
use Rattle.event_letters.specs.Letters.{HasSpace}
use Rattle.history_frame.specs.declared.events.Sent.{Sent}
use Rattle.record_frame.specs.declared.values.Value.{Value}
use Rattle.record_frame.specs.Values.{IsValue}
use Rattle.node_model.specs.Machine.{posted}
use Rattle.node_model.specs.OrdererRow.{decide_letters, on_want, told}
use Rattle.orderer_node.specs.Announcing.{AreSmall, decides}
use Rattle.orderer_node.specs.Ordering.{Ordering}
use Rattle.orderer_node.proofs.Following.{done_follows}
use Rattle.orderer_node.proofs.Sending.{decides-asked, given_count, given_slots, given_values, small-more}
use Rattle.orderer_node.proofs.node.OrdererNode.give.Goals as goal

pub tell-requires-clause-values : goal.tell-requires-clause-values
tell-requires-clause-values g c =
    subst (λ (v : List Value). AllByRecursion IsValue v) (sym c.give.ensures.given)
    (given_values c.self.inside.memory.config c.args.from.0 16 c.self.inside.memory.orderer.known c.give.ensures.fine)

pub tell-requires-clause-slots : goal.tell-requires-clause-slots
tell-requires-clause-slots g c =
    subst (λ (v : List Value). c.args.from.0 + length v ≤ 16384) (sym c.give.ensures.given)
    (given_slots c.args.from.0 16 c.self.inside.memory.orderer.known c.requires.from c.give.ensures.few)

pub tell-requires-clause-space : goal.tell-requires-clause-space
tell-requires-clause-space g c =
    let known : c.self.inside.memory.orderer.known ≡ c.args.self.now.memory.orderer.known = ap (λ (m : Ordering g.row.J.Denot). m.memory.orderer.known) c.self.view_is in
    let given : c.give.result.now ≡ take 16 (drop c.args.from.0 c.args.self.now.memory.orderer.known) = c.give.ensures.given ∙ ap (λ (v : List Value). take 16 (drop c.args.from.0 v)) known in
    subst (λ (v : List Value). HasSpace c.args.letters.now c.args.out.now.rooms (replicate (length v) 143)) (sym given) c.requires.space

pub returns : goal.returns
unfolding on_want
returns g c =
    let node = c.args.node.0 in
    let from = c.args.from.0 in
    let given = c.give.result.now in
    let count : length given ≤ 16 = subst (λ (v : List Value). length v ≤ 16) (sym c.give.ensures.given) (given_count from 16 c.self.inside.memory.orderer.known) in
    let known : c.self.inside.memory.orderer.known ≡ c.args.self.now.memory.orderer.known = ap (λ (m : Ordering g.row.J.Denot). m.memory.orderer.known) c.self.view_is in
    let first : c.tell.new.letters.sent ≡ decides node from given = c.tell.ensures.sent ∙ ap (λ (l : List Sent). l ++ decides node from given) c.requires.sent in
    let outputs = first ∙ ap (λ (v : List Value). decides node from v) (c.give.ensures.given ∙ ap (λ (k : List Value). take 16 (drop from k)) known)
    ∙ decides-asked node from 16 c.args.self.now.memory.orderer.known in
    let posts = c.tell.ensures.posted ∙ ap (λ (l : List Sent). c.args.out.now.letters ++ map posted l) (sym first) in
    let small = small-more (length given) 64 c.tell.new.letters.sent (omega arith) (subst (λ (l : List Sent). AreSmall (length given) l) (sym first) c.tell.ensures.small) in
    done_follows g.J.Journal.state c.args.self.now c.args.self.now c.tell.new.letters c.args.out.now c.tell.new.out
    (told c.args.self.now.memory.orderer (decide_letters node c.args.self.now.memory.orderer.known from 16)) tt refl refl (sym outputs) refl c.requires.running posts small refl refl
