use Rattle.std.proofs.Common.{◌≡◌, ◌<◌, ◌≤◌, false, List, [], ◌∷◌, ◌++◌, length, map, vec_capacity, is_some, refl, sym, ap, subst, ◌∙◌, arith}
use Rattle.history_frame.specs.declared.events.Sent.{Sent}
use Rattle.history_frame.specs.declared.inputs.Mark.TheVariants.{Done}
use Rattle.log_base.specs.ClusterShape.{Shape}
use Rattle.message_frame.specs.Spelling.{IsMessage}
use Rattle.node_model.specs.Machine.{posted}
use Rattle.node_model.specs.Messages.{want_message}
use Rattle.node_model.specs.Nodes.{letter}
use Rattle.node_model.specs.OrdererNode.{Change, Orderer}
use Rattle.node_model.specs.OrdererRow.{on_tick, one_tick, told}
use Rattle.node_table.specs.Numbering.{orderer_node}
use Rattle.orderer_node.specs.Announcing.{AreSmall}
use Rattle.orderer_node.specs.Ordering.{Follows, Ordering}
use Rattle.orderer_node.specs.declared.node.Standing.TheVariants.{Up}
use Rattle.orderer_node.proofs.Following.{done_follows}
use Rattle.orderer_node.proofs.Outcomes.{tick_row, want_short, want_space}
use Rattle.orderer_node.proofs.node.OrdererNode.tick.Goals as goal

pub send-requires-clause-space : goal.send-requires-clause-space
send-requires-clause-space g c =
    let here : 0 < c.self.inside.memory.config.orderers = let w = c.self.invariant.within in omega arith in
    let some = subst (λ (m : Ordering g.row.J.Denot). 0 < m.memory.config.orderers) c.self.view_is here in
    want_space _ _ c.known.result c.orderer.result.0 c.args.self.now.memory.config.orderers some c.requires.space

pub returns-clause-row : goal.returns-clause-row
returns-clause-row g c =
    let old : Ordering g.row.J.Denot = record { index = c.self.inside.index; journal = c.self.inside.acceptor.journal; standing = c.self.inside.standing; memory = c.self.inside.memory; letters = c.self.inside.letters; vote_room = vec_capacity c.self.inside.votes } in
    let new : Ordering g.row.J.Denot = record { index = c.self.inside.index; journal = c.self.inside.acceptor.journal; standing = c.self.inside.standing; memory = c.count_tick-asked.new.self; letters = c.self.inside.letters; vote_room = vec_capacity c.self.inside.votes } in
    let config = c.self.inside.memory.config in
    let o = c.self.inside.memory.orderer in
    let asked = c.count_tick-asked.result in
    let found = c.count_tick-asked.ensures.orderer in
    let follower : is_some o.leader ≡ false = ap (λ (p : Orderer). is_some p.leader) (sym found) ∙ sym c.leads.ensures ∙ c.if-leads.false in
    let row = tick_row config c.self.inside.index o asked follower c.count_tick-asked.ensures.asked c.if-asked-self.false in
    let first : c.send.new.self.sent ≡ letter c.orderer-2.result.0 (want_message c.known.result c.orderer.result.0) ∷ [] =
    c.send.ensures.sent ∙ ap (λ (l : List Sent). l ++ letter c.orderer-2.result.0 (want_message c.known.result c.orderer.result.0) ∷ []) c.requires.sent in
    let to = c.orderer-2.ensures.node ∙ ap (λ (s : Shape). orderer_node s asked) c.config-config.ensures in
    let own = c.orderer.ensures.node ∙ ap (λ (s : Shape). orderer_node s c.self.inside.index) c.config-config.ensures in
    let count = c.known.ensures.count ∙ ap (λ (p : Orderer). length p.known) found in
    let sent = first ∙ (λ j. letter (to j) (want_message (count j) (own j)) ∷ []) in
    let posts = c.send.ensures.letters ∙ ap (λ (l : List Sent). c.args.out.now.letters ++ map posted l) (sym first) in
    let range = c.config-config.result.in_range in
    let node : c.orderer.result.0 ≤ 42 = omega (arith, range.segments, range.gatherers, range.orderers, c.orderer.ensures.within) in
    let is : IsMessage (want_message c.known.result c.orderer.result.0) = (c.known.ensures.most, node) in
    let short = want_short c.known.result c.orderer.result.0 in
    let small = subst (λ (l : List Sent). AreSmall 64 l) (sym first) (record { few = omega arith; each = (record { message = is; short = omega (arith, short) }, tt) }) in
    let up : c.self.inside.standing ≡ Up = ap (λ (m : Ordering g.row.J.Denot). m.standing) c.self.view_is ∙ c.requires.running in
    subst (λ (m : Ordering g.row.J.Denot). Follows g.J.Journal.state (on_tick m.memory.config m.index m.memory.orderer) m new Done c.send.new.self c.args.out.now c.send.new.out) c.self.view_is
    (subst (λ (change : Change). Follows g.J.Journal.state change old new Done c.send.new.self c.args.out.now c.send.new.out) row
    (done_follows g.J.Journal.state old new c.send.new.self c.args.out.now c.send.new.out
    (told (one_tick o) (letter (orderer_node config asked) (want_message (length o.known) (orderer_node config c.self.inside.index)) ∷ [])) tt (sym found) refl (sym sent) refl up posts small
    c.count_tick-asked.ensures.config refl))
