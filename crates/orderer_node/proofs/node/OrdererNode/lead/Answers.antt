use Rattle.std.proofs.Common.{◌≡◌, ℕ, true, false, List, ◌++◌, map, vec_capacity, Some, refl, sym, ap, subst, ◌∙◌, arith}
use Rattle.std.specs.Result.{is_err}
use Rattle.history_frame.specs.declared.events.Sent.{Sent}
use Rattle.history_frame.specs.declared.inputs.Mark.TheVariants.{Done, Halted}
use Rattle.log_base.specs.ClusterShape.{Shape}
use Rattle.log_base.specs.Shape.{shape}
use Rattle.message_frame.specs.declared.messages.Message.{Message}
use Rattle.message_frame.specs.declared.messages.Message.TheVariants.{Prepare}
use Rattle.node_model.specs.Machine.{posted}
use Rattle.node_model.specs.Messages.{prepare_message}
use Rattle.node_model.specs.Nodes.{to_orderers}
use Rattle.node_model.specs.OrdererNode.{Change}
use Rattle.node_model.specs.OrdererRow.{on_lead}
use Rattle.paxos_acceptor.specs.Listed.{after_put, list_of}
use Rattle.paxos_model.specs.Leader.{ballot_above}
use Rattle.paxos_model.specs.Votes.{Promise, promised}
use Rattle.orderer_node.specs.Announcing.{AreSmall}
use Rattle.orderer_node.specs.Ordering.{Follows, Ordering}
use Rattle.orderer_node.specs.declared.node.Standing.TheVariants.{Down, Up}
use Rattle.orderer_node.proofs.Following.{done_follows, halt_follows, lead_ballot, lead_row, leading, memory_kept, promised_below, put_fell, put_kept}
use Rattle.orderer_node.proofs.Sending.{small-more}
use Rattle.orderer_node.proofs.node.OrdererNode.lead.Goals as goal

pub least_above-ballot-requires-clause-ballot : goal.least_above-ballot-requires-clause-ballot
least_above-ballot-requires-clause-ballot g c =
    let below = promised_below (list_of (g.J.Journal.state c.self.inside.acceptor.journal)) c.self.invariant.list in
    omega (arith, below, c.promised.ensures)

pub invariant_of-self : goal.invariant_of-self
invariant_of-self g c =
    let journal_old = g.J.Journal.state c.self.inside.acceptor.journal in
    let list = list_of (g.J.Journal.state c.self.inside.acceptor.journal) in
    let config = c.self.inside.memory.config in
    let ballot = c.least_above-ballot.result.0 in
    let same : ballot ≡ ballot_above config.orderers c.self.inside.index (promised list) =
    c.least_above-ballot.ensures.least
    ∙ ap (λ (n : ℕ). ballot_above n c.self.inside.index c.promised.result.0) (c.orderers.ensures ∙ ap (λ (s : Shape). s.orderers) c.config-config.ensures)
    ∙ ap (λ (p : ℕ). ballot_above config.orderers c.self.inside.index p) c.promised.ensures in
    let range = lead_ballot config.orderers c.self.inside.index list ballot c.self.invariant.within same c.if-ballot-ge-BALLOTS.false in
    let turned : is_err c.promise_own.result ≡ true = sym c.is_err.ensures.value ∙ c.if-is_err.true in
    let journal = c.promise_own.ensures.journal ∙ ap (λ b. after_put (g.J.Journal.state c.self.inside.acceptor.journal) (Some (Promise c.least_above-ballot.result.0)) b) turned in
    put_fell c.self.inside.index journal_old _ (Some (Promise ballot)) c.self.inside.standing c.self.inside.memory c.self.inside.letters range.1 journal c.self.invariant

pub returns-then-is_err-clause-row : goal.returns-then-is_err-clause-row
returns-then-is_err-clause-row g c =
    let journal_old = g.J.Journal.state c.self.inside.acceptor.journal in
    let list = list_of (g.J.Journal.state c.self.inside.acceptor.journal) in
    let config = c.self.inside.memory.config in
    let ballot = c.least_above-ballot.result.0 in
    let same : ballot ≡ ballot_above config.orderers c.self.inside.index (promised list) =
    c.least_above-ballot.ensures.least
    ∙ ap (λ (n : ℕ). ballot_above n c.self.inside.index c.promised.result.0) (c.orderers.ensures ∙ ap (λ (s : Shape). s.orderers) c.config-config.ensures)
    ∙ ap (λ (p : ℕ). ballot_above config.orderers c.self.inside.index p) c.promised.ensures in
    let range = lead_ballot config.orderers c.self.inside.index list ballot c.self.invariant.within same c.if-ballot-ge-BALLOTS.false in
    let turned : is_err c.promise_own.result ≡ true = sym c.is_err.ensures.value ∙ c.if-is_err.true in
    let journal = c.promise_own.ensures.journal ∙ ap (λ b. after_put (g.J.Journal.state c.self.inside.acceptor.journal) (Some (Promise c.least_above-ballot.result.0)) b) turned in
    let old : Ordering g.row.J.Denot = record { index = c.self.inside.index; journal = c.self.inside.acceptor.journal; standing = c.self.inside.standing; memory = c.self.inside.memory; letters = c.self.inside.letters; vote_room = vec_capacity c.self.inside.votes } in
    let new : Ordering g.row.J.Denot = record { index = c.self.inside.index; journal = c.promise_own.new.self.journal; standing = Down; memory = c.self.inside.memory; letters = c.self.inside.letters; vote_room = vec_capacity c.self.inside.votes } in
    subst (λ (m : Ordering g.row.J.Denot). Follows g.J.Journal.state (on_lead m.memory.config m.index (list_of (g.J.Journal.state m.journal)) m.memory.orderer) m new Halted c.args.letters.now c.args.out.now c.args.out.now) c.self.view_is
    (subst (λ (change : Change). Follows g.J.Journal.state change old new Halted c.args.letters.now c.args.out.now c.args.out.now)
    (lead_row config c.self.inside.index list c.self.inside.memory.orderer ballot same c.if-ballot-ge-BALLOTS.false)
    (halt_follows g.J.Journal.state old new c.args.letters.now c.args.out.now c.args.out.now (leading config c.self.inside.memory.orderer ballot) (Promise ballot) refl range.1 refl c.requires.sent journal refl refl refl refl))

pub invariant_of-self-2 : goal.invariant_of-self-2
invariant_of-self-2 g c =
    let journal_old = g.J.Journal.state c.self.inside.acceptor.journal in
    let list = list_of (g.J.Journal.state c.self.inside.acceptor.journal) in
    let config = c.self.inside.memory.config in
    let ballot = c.least_above-ballot.result.0 in
    let same : ballot ≡ ballot_above config.orderers c.self.inside.index (promised list) =
    c.least_above-ballot.ensures.least
    ∙ ap (λ (n : ℕ). ballot_above n c.self.inside.index c.promised.result.0) (c.orderers.ensures ∙ ap (λ (s : Shape). s.orderers) c.config-config.ensures)
    ∙ ap (λ (p : ℕ). ballot_above config.orderers c.self.inside.index p) c.promised.ensures in
    let range = lead_ballot config.orderers c.self.inside.index list ballot c.self.invariant.within same c.if-ballot-ge-BALLOTS.false in
    let turned : is_err c.promise_own.result ≡ false = sym c.is_err.ensures.value ∙ c.if-is_err.false in
    let journal = c.promise_own.ensures.journal ∙ ap (λ b. after_put (g.J.Journal.state c.self.inside.acceptor.journal) (Some (Promise c.least_above-ballot.result.0)) b) turned in
    memory_kept c.self.inside.index _ c.self.inside.standing c.self.inside.memory c.lead-from.new.self c.self.inside.letters c.lead-from.ensures.config
    (put_kept c.self.inside.index journal_old _ (Some (Promise ballot)) c.self.inside.standing c.self.inside.memory c.self.inside.letters range.1 journal c.self.invariant)

pub returns-clause-row : goal.returns-clause-row
returns-clause-row g c =
    let journal_old = g.J.Journal.state c.self.inside.acceptor.journal in
    let list = list_of (g.J.Journal.state c.self.inside.acceptor.journal) in
    let config = c.self.inside.memory.config in
    let ballot = c.least_above-ballot.result.0 in
    let same : ballot ≡ ballot_above config.orderers c.self.inside.index (promised list) =
    c.least_above-ballot.ensures.least
    ∙ ap (λ (n : ℕ). ballot_above n c.self.inside.index c.promised.result.0) (c.orderers.ensures ∙ ap (λ (s : Shape). s.orderers) c.config-config.ensures)
    ∙ ap (λ (p : ℕ). ballot_above config.orderers c.self.inside.index p) c.promised.ensures in
    let range = lead_ballot config.orderers c.self.inside.index list ballot c.self.invariant.within same c.if-ballot-ge-BALLOTS.false in
    let turned : is_err c.promise_own.result ≡ false = sym c.is_err.ensures.value ∙ c.if-is_err.false in
    let journal = c.promise_own.ensures.journal ∙ ap (λ b. after_put (g.J.Journal.state c.self.inside.acceptor.journal) (Some (Promise c.least_above-ballot.result.0)) b) turned in
    let old : Ordering g.row.J.Denot = record { index = c.self.inside.index; journal = c.self.inside.acceptor.journal; standing = c.self.inside.standing; memory = c.self.inside.memory; letters = c.self.inside.letters; vote_room = vec_capacity c.self.inside.votes } in
    let new : Ordering g.row.J.Denot = record { index = c.self.inside.index; journal = c.promise_own.new.self.journal; standing = c.self.inside.standing; memory = c.lead-from.new.self; letters = c.self.inside.letters; vote_room = vec_capacity c.self.inside.votes } in
    let message : Message = Prepare c.least_above-ballot.result c.lead-from.result in
    let first : c.announce.new.letters.sent ≡ to_orderers (shape c.config-config.result) message =
    c.announce.ensures.sent ∙ ap (λ (l : List Sent). l ++ to_orderers (shape c.config-config.result) message) c.requires.sent in
    let sent = first ∙ ap (λ (s : Shape). to_orderers s message) c.config-config.ensures ∙ ap (λ (n : ℕ). to_orderers config (prepare_message ballot n)) c.lead-from.ensures.slot in
    let posts = c.announce.ensures.posted ∙ ap (λ (l : List Sent). c.args.out.now.letters ++ map posted l) (sym first) in
    let small = small-more 7 64 c.announce.new.letters.sent (omega arith) (subst (λ (l : List Sent). AreSmall 7 l) (sym first) c.announce.ensures.small) in
    let up : c.self.inside.standing ≡ Up = ap (λ (m : Ordering g.row.J.Denot). m.standing) c.self.view_is ∙ c.requires.running in
    subst (λ (m : Ordering g.row.J.Denot). Follows g.J.Journal.state (on_lead m.memory.config m.index (list_of (g.J.Journal.state m.journal)) m.memory.orderer) m new Done c.announce.new.letters c.args.out.now c.announce.new.out) c.self.view_is
    (subst (λ (change : Change). Follows g.J.Journal.state change old new Done c.announce.new.letters c.args.out.now c.announce.new.out)
    (lead_row config c.self.inside.index list c.self.inside.memory.orderer ballot same c.if-ballot-ge-BALLOTS.false)
    (done_follows g.J.Journal.state old new c.announce.new.letters c.args.out.now c.announce.new.out (leading config c.self.inside.memory.orderer ballot) range.1 (sym c.lead-from.ensures.orderer) refl (sym sent) journal up posts small
    c.lead-from.ensures.config refl))
