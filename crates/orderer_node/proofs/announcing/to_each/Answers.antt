use Rattle.std.proofs.Common.{◌≡◌, ◌≤◌, ℕ, suc, ◌+◌, ◌-◌, List, [], ◌∷◌, ◌++◌, map, replicate, sym, subst, ap, ◌∙◌, append_assoc, arith}
use Rattle.event_letters.specs.Letters.{HasSpace, message_length}
use Rattle.history_frame.specs.declared.events.Sent.{Sent}
use Rattle.message_frame.specs.declared.messages.Message.{Message}
use Rattle.node_model.specs.Machine.{posted}
use Rattle.node_model.specs.Nodes.{letter, to_nodes}
use Rattle.orderer_node.specs.Announcing.{message_of}
use Rattle.orderer_node.proofs.Sending.{posted-push, said_short, space_of, space_one, to_nodes-push, to_nodes-said}
use Rattle.orderer_node.proofs.announcing.to_each.Goals as goal

pub send-requires-clause-space : goal.send-requires-clause-space
send-requires-clause-space c =
    let none : c.args.count ≡ c.args.count + 0 = omega arith in
    let here = c.loop-node.invariant.space 0 (space_of _ _ 143 _ _ none c.requires.space) in
    let left : c.args.count - c.loop-node.node + 0 ≡ suc (c.args.count - (c.loop-node.node + 1)) = omega arith in
    let first = space_of _ _ 143 _ _ left here in
    subst (λ (m : Message). HasSpace c.loop-node.letters c.loop-node.out.rooms (message_length m ∷ [])) (sym c.message.ensures)
    (space_one _ _ (message_length (message_of c.args.what.now)) 143 (replicate (c.args.count - (c.loop-node.node + 1)) 143) (said_short c.args.what.now c.requires.message) first)

pub loop-node-preserved : goal.loop-node-preserved
loop-node-preserved c =
    let first = c.args.first in
    let node = c.loop-node.node in
    let message = message_of c.args.what.now in
    let next : suc node ≡ node + 1 = omega arith in
    let old = c.args.letters.now.sent in
    let before = c.args.out.now.letters in
    let short : message_length c.message.result ≤ 143 = subst (λ (m : Message). message_length m ≤ 143) (sym c.message.ensures) (said_short c.args.what.now c.requires.message) in
    record {
      sent = c.send.ensures.sent ∙ ap (λ (l : List Sent). l ++ letter (first + node) c.message.result ∷ []) c.loop-node.invariant.sent
          ∙ ap (λ (m : Message). (old ++ to_nodes first node message) ++ letter (first + node) m ∷ []) c.message.ensures
          ∙ append_assoc old (to_nodes first node message) (letter (first + node) message ∷ [])
          ∙ ap (λ (l : List Sent). old ++ l) (to_nodes-push first node message)
          ∙ ap (λ (n : ℕ). old ++ to_nodes first n message) next;
      posted = c.send.ensures.letters ∙ ap (λ (l : List (ℕ × List ℕ)). l ++ posted (letter (first + node) c.message.result) ∷ []) c.loop-node.invariant.posted
          ∙ ap (λ (m : Message). (before ++ map posted (to_nodes first node message)) ++ posted (letter (first + node) m) ∷ []) c.message.ensures
          ∙ append_assoc before (map posted (to_nodes first node message)) (posted (letter (first + node) message) ∷ [])
          ∙ ap (λ (l : List (ℕ × List ℕ)). before ++ l) (posted-push first node message)
          ∙ ap (λ (n : ℕ). before ++ map posted (to_nodes first n message)) next;
      space = λ more h.
          let left : c.args.count - node + more ≡ suc (c.args.count - (node + 1) + more) = omega arith in
          c.send.ensures.space 143 (replicate (c.args.count - (node + 1) + more) 143) short (space_of _ _ 143 _ _ left (c.loop-node.invariant.space more h));
    }

pub returns-clause-space : goal.returns-clause-space
returns-clause-space c = λ more h.
    let left : c.args.count - c.loop-node.node + more ≡ more = omega arith in
    space_of _ _ 143 _ _ left (c.loop-node.invariant.space more h)

pub returns-clause-small : goal.returns-clause-small
returns-clause-small c = to_nodes-said c.args.first c.args.count c.args.what.now c.requires.message
