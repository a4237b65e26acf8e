use Rattle.std.proofs.Common.{◌≡◌, ◌≤◌, List, [], ◌++◌, map, vec_capacity, refl, sym, ap, subst, ◌∙◌, arith}
use Rattle.event_letters.specs.Letters.{message_length}
use Rattle.history_frame.specs.declared.events.Sent.{Sent}
use Rattle.history_frame.specs.declared.inputs.Mark.TheVariants.{Done, Halted}
use Rattle.log_base.specs.ClusterShape.{Shape}
use Rattle.log_base.specs.Shape.{shape}
use Rattle.message_frame.specs.declared.messages.Message.{Message}
use Rattle.node_model.specs.Machine.{posted}
use Rattle.node_model.specs.Messages.{accepted_message, lower_message}
use Rattle.node_model.specs.OrdererRow.{on_accept, to_owner}
use Rattle.paxos_model.specs.Acceptor.{accept}
use Rattle.paxos_acceptor.specs.Listed.{list_of}
use Rattle.orderer_node.specs.Ordering.{Follows, Ordering}
use Rattle.orderer_node.specs.declared.node.Standing.TheVariants.{Down, Up}
use Rattle.orderer_node.proofs.Sending.{space_one}
use Rattle.orderer_node.proofs.Following.{accept_put, accepted_follows, accepted_short, halted_vote_follows, low_vote_follows, low_vote_range, lower_short, one_small, put_fell, put_kept}
use Rattle.orderer_node.proofs.node.OrdererNode.accept.Goals as goal

pub to_owner-requires-clause-space : goal.to_owner-requires-clause-space
to_owner-requires-clause-space g c =
    let short = accepted_short c.args.ballot.0 c.args.slot.0 c.self.inside.index in
    space_one _ _ (message_length (accepted_message c.args.ballot.0 c.args.slot.0 c.self.inside.index)) 143 [] (omega (arith, short)) c.requires.space

pub invariant_of-self : goal.invariant_of-self
invariant_of-self g c =
    put_kept c.self.inside.index (g.J.Journal.state c.self.inside.acceptor.journal) _ _ c.self.inside.standing c.self.inside.memory c.self.inside.letters
    (accept_put (list_of (g.J.Journal.state c.self.inside.acceptor.journal)) c.args.ballot.0 c.args.slot.0 c.args.value.now c.requires.ballot c.requires.slot c.requires.value) c.in-Accepted.ensures.journal c.self.invariant

pub returns-in-Accepted-clause-row : goal.returns-in-Accepted-clause-row
unfolding on_accept
returns-in-Accepted-clause-row g c =
    let message : Message = (accepted_message c.args.ballot.0 c.args.slot.0 c.self.inside.index) in
    let first : c.to_owner.new.letters.sent ≡ to_owner (shape c.config.result) c.args.ballot.0 message =
    c.to_owner.ensures.sent ∙ ap (λ (l : List Sent). l ++ to_owner (shape c.config.result) c.args.ballot.0 message) c.requires.sent in
    let sent = first ∙ ap (λ (s : Shape). to_owner s c.args.ballot.0 message) c.config.ensures in
    let posts = c.to_owner.ensures.posted ∙ ap (λ (l : List Sent). c.args.out.now.letters ++ map posted l) (sym first) in
    let up : c.self.inside.standing ≡ Up = ap (λ (m : Ordering g.row.J.Denot). m.standing) c.self.view_is ∙ c.requires.running in
    let count = ap (λ (s : Shape). s.orderers) c.config.ensures in
    let within : c.self.inside.index ≤ 6 = omega (arith, c.self.invariant.within, c.config.result.in_range.orderers, count) in
    let short = accepted_short c.args.ballot.0 c.args.slot.0 c.self.inside.index in
    let small = one_small (shape c.config.result) c.args.ballot.0 message c.to_owner.new.letters.sent (c.requires.ballot, c.requires.slot, within) (omega (arith, short)) first in
    let old : Ordering g.row.J.Denot = record { index = c.self.inside.index; journal = c.self.inside.acceptor.journal; standing = c.self.inside.standing; memory = c.self.inside.memory; letters = c.self.inside.letters; vote_room = vec_capacity c.self.inside.votes } in
    let new : Ordering g.row.J.Denot = record { index = c.self.inside.index; journal = c.accept.new.self.journal; standing = c.self.inside.standing; memory = c.self.inside.memory; letters = c.self.inside.letters; vote_room = vec_capacity c.self.inside.votes } in
    subst (λ (m : Ordering g.row.J.Denot). Follows g.J.Journal.state (on_accept m.memory.config m.index (list_of (g.J.Journal.state m.journal)) m.memory.orderer c.args.ballot.0 c.args.slot.0 c.args.value.now) m new Done c.to_owner.new.letters c.args.out.now c.to_owner.new.out) c.self.view_is
    (accepted_follows g.J.Journal.state old new _ _ _ c.args.ballot.0 c.args.slot.0 (accept (list_of (g.J.Journal.state c.self.inside.acceptor.journal)) c.args.ballot.0 c.args.slot.0 c.args.value.now) c.in-Accepted.ensures.answer
    (accept_put (list_of (g.J.Journal.state c.self.inside.acceptor.journal)) c.args.ballot.0 c.args.slot.0 c.args.value.now c.requires.ballot c.requires.slot c.requires.value) c.in-Accepted.ensures.journal up refl refl sent posts small)

pub to_owner-requires-in-Lower-clause-message : goal.to_owner-requires-in-Lower-clause-message
to_owner-requires-in-Lower-clause-message g c =
    (c.requires.ballot, low_vote_range (list_of (g.J.Journal.state c.self.inside.acceptor.journal)) c.args.ballot.0 c.args.slot.0 c.args.value.now c.in-Lower.promised c.self.invariant.list c.in-Lower.ensures.answer)

pub to_owner-requires-in-Lower-clause-space : goal.to_owner-requires-in-Lower-clause-space
to_owner-requires-in-Lower-clause-space g c =
    let short = lower_short c.args.ballot.0 c.in-Lower.promised.0 in
    space_one _ _ (message_length (lower_message c.args.ballot.0 c.in-Lower.promised.0)) 143 [] (omega (arith, short)) c.requires.space

pub returns-in-Lower-clause-row : goal.returns-in-Lower-clause-row
unfolding on_accept
returns-in-Lower-clause-row g c =
    let message : Message = (lower_message c.args.ballot.0 c.in-Lower.promised.0) in
    let first : c.to_owner-in-Lower.new.letters.sent ≡ to_owner (shape c.config-in-Lower.result) c.args.ballot.0 message =
    c.to_owner-in-Lower.ensures.sent ∙ ap (λ (l : List Sent). l ++ to_owner (shape c.config-in-Lower.result) c.args.ballot.0 message) c.requires.sent in
    let sent = first ∙ ap (λ (s : Shape). to_owner s c.args.ballot.0 message) c.config-in-Lower.ensures in
    let posts = c.to_owner-in-Lower.ensures.posted ∙ ap (λ (l : List Sent). c.args.out.now.letters ++ map posted l) (sym first) in
    let up : c.self.inside.standing ≡ Up = ap (λ (m : Ordering g.row.J.Denot). m.standing) c.self.view_is ∙ c.requires.running in
    let short = lower_short c.args.ballot.0 c.in-Lower.promised.0 in
    let range = low_vote_range (list_of (g.J.Journal.state c.self.inside.acceptor.journal)) c.args.ballot.0 c.args.slot.0 c.args.value.now c.in-Lower.promised c.self.invariant.list c.in-Lower.ensures.answer in
    let small = one_small (shape c.config-in-Lower.result) c.args.ballot.0 message c.to_owner-in-Lower.new.letters.sent (c.requires.ballot, range) (omega (arith, short)) first in
    let old : Ordering g.row.J.Denot = record { index = c.self.inside.index; journal = c.self.inside.acceptor.journal; standing = c.self.inside.standing; memory = c.self.inside.memory; letters = c.self.inside.letters; vote_room = vec_capacity c.self.inside.votes } in
    let new : Ordering g.row.J.Denot = record { index = c.self.inside.index; journal = c.accept.new.self.journal; standing = c.self.inside.standing; memory = c.self.inside.memory; letters = c.self.inside.letters; vote_room = vec_capacity c.self.inside.votes } in
    subst (λ (m : Ordering g.row.J.Denot). Follows g.J.Journal.state (on_accept m.memory.config m.index (list_of (g.J.Journal.state m.journal)) m.memory.orderer c.args.ballot.0 c.args.slot.0 c.args.value.now) m new Done c.to_owner-in-Lower.new.letters c.args.out.now c.to_owner-in-Lower.new.out) c.self.view_is
    (low_vote_follows g.J.Journal.state old new _ _ _ c.args.ballot.0 c.args.slot.0 (accept (list_of (g.J.Journal.state c.self.inside.acceptor.journal)) c.args.ballot.0 c.args.slot.0 c.args.value.now) c.in-Lower.promised c.in-Lower.ensures.answer
    c.in-Lower.ensures.journal up refl refl sent posts small)

pub invariant_of-self-in-Halted : goal.invariant_of-self-in-Halted
invariant_of-self-in-Halted g c =
    put_fell c.self.inside.index (g.J.Journal.state c.self.inside.acceptor.journal) _ _ c.self.inside.standing c.self.inside.memory c.self.inside.letters
    (accept_put (list_of (g.J.Journal.state c.self.inside.acceptor.journal)) c.args.ballot.0 c.args.slot.0 c.args.value.now c.requires.ballot c.requires.slot c.requires.value) c.in-Halted.ensures.journal c.self.invariant

pub returns-in-Halted-clause-row : goal.returns-in-Halted-clause-row
unfolding on_accept
returns-in-Halted-clause-row g c =
    let old : Ordering g.row.J.Denot = record { index = c.self.inside.index; journal = c.self.inside.acceptor.journal; standing = c.self.inside.standing; memory = c.self.inside.memory; letters = c.self.inside.letters; vote_room = vec_capacity c.self.inside.votes } in
    let new : Ordering g.row.J.Denot = record { index = c.self.inside.index; journal = c.accept.new.self.journal; standing = Down; memory = c.self.inside.memory; letters = c.self.inside.letters; vote_room = vec_capacity c.self.inside.votes } in
    subst (λ (m : Ordering g.row.J.Denot). Follows g.J.Journal.state (on_accept m.memory.config m.index (list_of (g.J.Journal.state m.journal)) m.memory.orderer c.args.ballot.0 c.args.slot.0 c.args.value.now) m new Halted c.args.letters.now c.args.out.now c.args.out.now) c.self.view_is
    (halted_vote_follows g.J.Journal.state old new _ _ _ c.args.ballot.0 c.args.slot.0 (accept (list_of (g.J.Journal.state c.self.inside.acceptor.journal)) c.args.ballot.0 c.args.slot.0 c.args.value.now) c.in-Halted.ensures.answer
    (accept_put (list_of (g.J.Journal.state c.self.inside.acceptor.journal)) c.args.ballot.0 c.args.slot.0 c.args.value.now c.requires.ballot c.requires.slot c.requires.value) c.in-Halted.ensures.journal refl refl refl c.requires.sent refl)
