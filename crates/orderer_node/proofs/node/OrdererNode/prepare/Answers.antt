use Rattle.std.proofs.Common.{◌≡◌, ◌≤◌, List, [], ◌++◌, length, map, vec_capacity, refl, sym, ap, subst, ◌∙◌, arith}
use Rattle.event_letters.specs.Letters.{message_length}
use Rattle.history_frame.specs.declared.events.Sent.{Sent}
use Rattle.history_frame.specs.declared.inputs.Mark.TheVariants.{Done, Halted}
use Rattle.log_base.specs.ClusterShape.{Shape}
use Rattle.log_base.specs.Shape.{shape}
use Rattle.message_frame.specs.declared.messages.Message.{Message}
use Rattle.message_frame.specs.declared.messages.Vote.{Vote}
use Rattle.message_frame.specs.Spelling.{AreVotes, IsMessage}
use Rattle.node_model.specs.Machine.{posted}
use Rattle.node_model.specs.Messages.{lower_message, promised_message}
use Rattle.node_model.specs.OrdererRow.{on_prepare, to_owner}
use Rattle.paxos_model.specs.Acceptor.{prepare}
use Rattle.paxos_acceptor.specs.Listed.{list_of}
use Rattle.orderer_node.specs.Ordering.{Follows, Ordering}
use Rattle.orderer_node.specs.declared.node.Standing.TheVariants.{Down, Up}
use Rattle.orderer_node.proofs.Sending.{space_one}
use Rattle.orderer_node.proofs.Reporting.{promised_votes, report_short}
use Rattle.orderer_node.proofs.Following.{halted_promise_follows, low_promise_follows, low_promise_range, lower_short, one_small, prepare_put, promised_follows, put_fell, put_kept}
use Rattle.orderer_node.proofs.node.OrdererNode.prepare.Goals as goal

pub report-requires : goal.report-requires
report-requires g c =
    let votes = promised_votes (list_of (g.J.Journal.state c.self.inside.acceptor.journal)) c.args.ballot.0 c.args.from.0 c.self.inside.acceptor.reported c.prepare.new.self.reported c.self.invariant.list c.in-Promised.ensures.answer in
    let room : 64 ≤ vec_capacity c.self.inside.votes = subst (λ (m : Ordering g.row.J.Denot). 64 ≤ m.vote_room) (sym c.self.view_is) c.requires.votes in
    let same : length c.votes.result.now ≡ length c.prepare.new.self.reported = ap length c.votes.ensures in
    omega (arith, votes.few, room, same)

pub to_owner-requires-clause-message : goal.to_owner-requires-clause-message
to_owner-requires-clause-message g c =
    let votes = promised_votes (list_of (g.J.Journal.state c.self.inside.acceptor.journal)) c.args.ballot.0 c.args.from.0 c.self.inside.acceptor.reported c.prepare.new.self.reported c.self.invariant.list c.in-Promised.ensures.answer in
    let seen : AreVotes c.args.from.0 c.report.result = subst (λ (v : List Vote). AreVotes c.args.from.0 v) (sym (c.report.ensures ∙ c.votes.ensures)) votes in
    let count = ap (λ (s : Shape). s.orderers) c.config.ensures in
    let within : c.self.inside.index ≤ 6 = omega (arith, c.self.invariant.within, c.config.result.in_range.orderers, count) in
    (c.requires.ballot, c.requires.from, within, seen)

pub to_owner-requires-clause-space : goal.to_owner-requires-clause-space
to_owner-requires-clause-space g c =
    let votes = promised_votes (list_of (g.J.Journal.state c.self.inside.acceptor.journal)) c.args.ballot.0 c.args.from.0 c.self.inside.acceptor.reported c.prepare.new.self.reported c.self.invariant.list c.in-Promised.ensures.answer in
    let seen : AreVotes c.args.from.0 c.report.result = subst (λ (v : List Vote). AreVotes c.args.from.0 v) (sym (c.report.ensures ∙ c.votes.ensures)) votes in
    let count = ap (λ (s : Shape). s.orderers) c.config.ensures in
    let within : c.self.inside.index ≤ 6 = omega (arith, c.self.invariant.within, c.config.result.in_range.orderers, count) in
    let is : IsMessage (promised_message c.args.ballot.0 c.args.from.0 c.self.inside.index c.report.result) = (c.requires.ballot, c.requires.from, within, seen) in
    space_one _ _ (message_length (promised_message c.args.ballot.0 c.args.from.0 c.self.inside.index c.report.result)) 9103 []
    (report_short c.args.ballot.0 c.args.from.0 c.self.inside.index c.report.result is) c.requires.space

pub invariant_of-self : goal.invariant_of-self
invariant_of-self g c =
    put_kept c.self.inside.index (g.J.Journal.state c.self.inside.acceptor.journal) _ _ c.self.inside.standing c.self.inside.memory c.self.inside.letters
    (prepare_put (list_of (g.J.Journal.state c.self.inside.acceptor.journal)) c.args.ballot.0 c.args.from.0 c.requires.ballot) c.in-Promised.ensures.journal c.self.invariant

pub returns-in-Promised-clause-row : goal.returns-in-Promised-clause-row
unfolding on_prepare
returns-in-Promised-clause-row g c =
    let votes = promised_votes (list_of (g.J.Journal.state c.self.inside.acceptor.journal)) c.args.ballot.0 c.args.from.0 c.self.inside.acceptor.reported c.prepare.new.self.reported c.self.invariant.list c.in-Promised.ensures.answer in
    let seen : AreVotes c.args.from.0 c.report.result = subst (λ (v : List Vote). AreVotes c.args.from.0 v) (sym (c.report.ensures ∙ c.votes.ensures)) votes in
    let count = ap (λ (s : Shape). s.orderers) c.config.ensures in
    let within : c.self.inside.index ≤ 6 = omega (arith, c.self.invariant.within, c.config.result.in_range.orderers, count) in
    let is : IsMessage (promised_message c.args.ballot.0 c.args.from.0 c.self.inside.index c.report.result) = (c.requires.ballot, c.requires.from, within, seen) in
    let message : Message = (promised_message c.args.ballot.0 c.args.from.0 c.self.inside.index c.report.result) in
    let first : c.to_owner.new.letters.sent ≡ to_owner (shape c.config.result) c.args.ballot.0 message =
    c.to_owner.ensures.sent ∙ ap (λ (l : List Sent). l ++ to_owner (shape c.config.result) c.args.ballot.0 message) c.requires.sent in
    let sent = first ∙ ap (λ (s : Shape). to_owner s c.args.ballot.0 message) c.config.ensures
    ∙ ap (λ (v : List Vote). to_owner c.self.inside.memory.config c.args.ballot.0 (promised_message c.args.ballot.0 c.args.from.0 c.self.inside.index v)) (c.report.ensures ∙ c.votes.ensures) in
    let posts = c.to_owner.ensures.posted ∙ ap (λ (l : List Sent). c.args.out.now.letters ++ map posted l) (sym first) in
    let up : c.self.inside.standing ≡ Up = ap (λ (m : Ordering g.row.J.Denot). m.standing) c.self.view_is ∙ c.requires.running in
    let small = one_small (shape c.config.result) c.args.ballot.0 message c.to_owner.new.letters.sent is (report_short c.args.ballot.0 c.args.from.0 c.self.inside.index c.report.result is) first in
    let old : Ordering g.row.J.Denot = record { index = c.self.inside.index; journal = c.self.inside.acceptor.journal; standing = c.self.inside.standing; memory = c.self.inside.memory; letters = c.self.inside.letters; vote_room = vec_capacity c.self.inside.votes } in
    let new : Ordering g.row.J.Denot = record { index = c.self.inside.index; journal = c.prepare.new.self.journal; standing = c.self.inside.standing; memory = c.self.inside.memory; letters = c.self.inside.letters; vote_room = vec_capacity c.report.new.room } in
    subst (λ (m : Ordering g.row.J.Denot). Follows g.J.Journal.state (on_prepare m.memory.config m.index (list_of (g.J.Journal.state m.journal)) m.memory.orderer c.args.ballot.0 c.args.from.0) m new Done c.to_owner.new.letters c.args.out.now c.to_owner.new.out) c.self.view_is
    (promised_follows g.J.Journal.state old new _ _ _ c.args.ballot.0 c.args.from.0 (prepare (list_of (g.J.Journal.state c.self.inside.acceptor.journal)) c.args.ballot.0 c.args.from.0) c.self.inside.acceptor.reported c.prepare.new.self.reported c.in-Promised.ensures.answer
    (prepare_put (list_of (g.J.Journal.state c.self.inside.acceptor.journal)) c.args.ballot.0 c.args.from.0 c.requires.ballot) c.in-Promised.ensures.journal up refl refl sent posts small)

pub to_owner-requires-in-Lower-clause-message : goal.to_owner-requires-in-Lower-clause-message
to_owner-requires-in-Lower-clause-message g c =
    (c.requires.ballot, low_promise_range (list_of (g.J.Journal.state c.self.inside.acceptor.journal)) c.args.ballot.0 c.args.from.0 c.in-Lower.promised c.self.inside.acceptor.reported c.prepare.new.self.reported c.self.invariant.list c.in-Lower.ensures.answer)

pub to_owner-requires-in-Lower-clause-space : goal.to_owner-requires-in-Lower-clause-space
to_owner-requires-in-Lower-clause-space g c =
    let short = lower_short c.args.ballot.0 c.in-Lower.promised.0 in
    space_one _ _ (message_length (lower_message c.args.ballot.0 c.in-Lower.promised.0)) 9103 [] (omega (arith, short)) c.requires.space

pub returns-in-Lower-clause-row : goal.returns-in-Lower-clause-row
unfolding on_prepare
returns-in-Lower-clause-row g c =
    let message : Message = (lower_message c.args.ballot.0 c.in-Lower.promised.0) in
    let first : c.to_owner-in-Lower.new.letters.sent ≡ to_owner (shape c.config-in-Lower.result) c.args.ballot.0 message =
    c.to_owner-in-Lower.ensures.sent ∙ ap (λ (l : List Sent). l ++ to_owner (shape c.config-in-Lower.result) c.args.ballot.0 message) c.requires.sent in
    let sent = first ∙ ap (λ (s : Shape). to_owner s c.args.ballot.0 message) c.config-in-Lower.ensures in
    let posts = c.to_owner-in-Lower.ensures.posted ∙ ap (λ (l : List Sent). c.args.out.now.letters ++ map posted l) (sym first) in
    let up : c.self.inside.standing ≡ Up = ap (λ (m : Ordering g.row.J.Denot). m.standing) c.self.view_is ∙ c.requires.running in
    let short = lower_short c.args.ballot.0 c.in-Lower.promised.0 in
    let range = low_promise_range (list_of (g.J.Journal.state c.self.inside.acceptor.journal)) c.args.ballot.0 c.args.from.0 c.in-Lower.promised c.self.inside.acceptor.reported c.prepare.new.self.reported c.self.invariant.list c.in-Lower.ensures.answer in
    let small = one_small (shape c.config-in-Lower.result) c.args.ballot.0 message c.to_owner-in-Lower.new.letters.sent (c.requires.ballot, range) (omega (arith, short)) first in
    let old : Ordering g.row.J.Denot = record { index = c.self.inside.index; journal = c.self.inside.acceptor.journal; standing = c.self.inside.standing; memory = c.self.inside.memory; letters = c.self.inside.letters; vote_room = vec_capacity c.self.inside.votes } in
    let new : Ordering g.row.J.Denot = record { index = c.self.inside.index; journal = c.prepare.new.self.journal; standing = c.self.inside.standing; memory = c.self.inside.memory; letters = c.self.inside.letters; vote_room = vec_capacity c.self.inside.votes } in
    subst (λ (m : Ordering g.row.J.Denot). Follows g.J.Journal.state (on_prepare m.memory.config m.index (list_of (g.J.Journal.state m.journal)) m.memory.orderer c.args.ballot.0 c.args.from.0) m new Done c.to_owner-in-Lower.new.letters c.args.out.now c.to_owner-in-Lower.new.out) c.self.view_is
    (low_promise_follows g.J.Journal.state old new _ _ _ c.args.ballot.0 c.args.from.0 (prepare (list_of (g.J.Journal.state c.self.inside.acceptor.journal)) c.args.ballot.0 c.args.from.0) c.in-Lower.promised c.self.inside.acceptor.reported c.prepare.new.self.reported c.in-Lower.ensures.answer
    c.in-Lower.ensures.journal up refl refl sent posts small)

pub invariant_of-self-in-Halted : goal.invariant_of-self-in-Halted
invariant_of-self-in-Halted g c =
    put_fell c.self.inside.index (g.J.Journal.state c.self.inside.acceptor.journal) _ _ c.self.inside.standing c.self.inside.memory c.self.inside.letters
    (prepare_put (list_of (g.J.Journal.state c.self.inside.acceptor.journal)) c.args.ballot.0 c.args.from.0 c.requires.ballot) c.in-Halted.ensures.journal c.self.invariant

pub returns-in-Halted-clause-row : goal.returns-in-Halted-clause-row
unfolding on_prepare
returns-in-Halted-clause-row g c =
    let old : Ordering g.row.J.Denot = record { index = c.self.inside.index; journal = c.self.inside.acceptor.journal; standing = c.self.inside.standing; memory = c.self.inside.memory; letters = c.self.inside.letters; vote_room = vec_capacity c.self.inside.votes } in
    let new : Ordering g.row.J.Denot = record { index = c.self.inside.index; journal = c.prepare.new.self.journal; standing = Down; memory = c.self.inside.memory; letters = c.self.inside.letters; vote_room = vec_capacity c.self.inside.votes } in
    subst (λ (m : Ordering g.row.J.Denot). Follows g.J.Journal.state (on_prepare m.memory.config m.index (list_of (g.J.Journal.state m.journal)) m.memory.orderer c.args.ballot.0 c.args.from.0) m new Halted c.args.letters.now c.args.out.now c.args.out.now) c.self.view_is
    (halted_promise_follows g.J.Journal.state old new _ _ _ c.args.ballot.0 c.args.from.0 (prepare (list_of (g.J.Journal.state c.self.inside.acceptor.journal)) c.args.ballot.0 c.args.from.0) c.self.inside.acceptor.reported c.prepare.new.self.reported c.in-Halted.ensures.answer
    (prepare_put (list_of (g.J.Journal.state c.self.inside.acceptor.journal)) c.args.ballot.0 c.args.from.0 c.requires.ballot) c.in-Halted.ensures.journal refl refl refl c.requires.sent refl)
