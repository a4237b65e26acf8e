use Rattle.std.proofs.Common.{ℕ, arith, refl, sym, ap, subst, ◌∙◌}
use Rattle.counted_node.specs.Counted.{counted_meanings, counted_node, CountedState}
use Rattle.tied_cells.specs.History.{StandsAfter}
use Rattle.tied_cells.specs.Turns.{HasTurn, IsLastFetched}
use Rattle.cluster.proofs.Charging.{charged_at}
use Rattle.cluster.proofs.Holding.{given_under, has_stepped, held_moves, turn_moves}
use Rattle.cluster.proofs.Sizes.{acts_single, acts_small}
use Rattle.cluster.proofs.calling.give_under.Goals as goal

pub returns-in_err-ready_commit-clause-held : goal.returns-in_err-ready_commit-clause-held
returns-in_err-ready_commit-clause-held g c =
    let me = c.args.pass.now.seat.me in let S = counted_node g.J.Journal.state in
    held_moves S me me c.args.node.0 c.args.held.now.cell _ c.requires.held refl c.ready_commit.ensures.same.2 (ap S c.ready_commit.ensures.same.1)

pub returns-in_err-room-clause-held : goal.returns-in_err-room-clause-held
returns-in_err-room-clause-held g c =
    let me = c.args.pass.now.seat.me in let S = counted_node g.J.Journal.state in
    held_moves S me me c.args.node.0 c.args.held.now.cell _ c.requires.held refl c.ready_commit.ensures.same.2 (ap S c.ready_commit.ensures.same.1)

pub act-requires-clause-fits : goal.act-requires-clause-fits
act-requires-clause-fits g c =
    let S = counted_node g.J.Journal.state in let h = c.requires.held in
    let was = ap S (c.machine.ensures.now ∙ c.ready_commit.ensures.same.1) ∙ h.stands.2 in
    subst (λ (n : CountedState). counted_meanings.fits n c.args.input) (sym was) (c.requires.fits h.stands.0 h.stands.1 c.args.held.now.cell.events.items)

pub returns-in_err-stepped-clause-held : goal.returns-in_err-stepped-clause-held
returns-in_err-stepped-clause-held g c =
    let me = c.args.pass.now.seat.me in let S = counted_node g.J.Journal.state in
    held_moves S me me c.args.node.0 c.args.held.now.cell _ c.requires.held refl c.ready_commit.ensures.same.2
    (c.in_err-stepped.ensures.err ∙ ap S (c.machine.ensures.now ∙ c.ready_commit.ensures.same.1))

pub copy_reply-reply-requires-clause-single : goal.copy_reply-reply-requires-clause-single
copy_reply-reply-requires-clause-single g c = acts_single _ _ _ _ _ c.in_ok-stepped.ensures.acts

pub copy_reply-reply-requires-clause-room : goal.copy_reply-reply-requires-clause-room
copy_reply-reply-requires-clause-room g c = let small = acts_small _ _ _ _ _ c.in_ok-stepped.ensures.acts in omega (arith, small, c.in_ok-room.ensures.capacity)

pub commit-place-requires-clause-turn : goal.commit-place-requires-clause-turn
commit-place-requires-clause-turn g c =
    let me = c.args.pass.now.seat.me in
    subst (λ (n : ℕ). HasTurn me n (record c.ready_commit.new.held.cell { machine = c.act.new.node })) (sym (ap (λ n. n.0) (c.ready_commit.ensures.same.0 ∙ c.requires.node.1)))
    (turn_moves me me c.args.node.0 c.args.held.now.cell (record c.ready_commit.new.held.cell { machine = c.act.new.node }) c.requires.held.turn refl c.ready_commit.ensures.same.2)

pub commit-place-requires-clause-stepped : goal.commit-place-requires-clause-stepped
commit-place-requires-clause-stepped g c =
    let me = c.args.pass.now.seat.me in let S = counted_node g.J.Journal.state in let h = c.requires.held in
    has_stepped S me me c.args.node.0 c.args.held.now.cell (record c.ready_commit.new.held.cell { machine = c.act.new.node }) h refl c.ready_commit.ensures.same.2
    c.machine.result.now (ap S (c.machine.ensures.now ∙ c.ready_commit.ensures.same.1)) c.args.input c.in_ok-stepped.stepped.happened c.act.new.out.letters c.in_ok-stepped.ensures.acts
    (c.requires.fits h.stands.0 h.stands.1 c.args.held.now.cell.events.items)
    (subst (λ o. IsLastFetched c.args.node.0 o me.0.fetched) (sym c.requires.quiet) tt)
    c.ready_commit.new.held.node.0 (ap (λ n. n.0) (c.ready_commit.ensures.same.0 ∙ c.requires.node.1))

pub returns-clause-held : goal.returns-clause-held
returns-clause-held g c =
    let here = ap (λ n. n.0) (c.commit-place.ensures.held.0 ∙ (c.ready_commit.ensures.same.0 ∙ c.requires.node.1)) in
    let S = counted_node g.J.Journal.state in let cell = c.commit-place.new.held.cell in let me = c.commit-place.new.pass.seat.me in record {
      turn = subst (λ (n : ℕ). HasTurn me n cell) here c.commit-place.ensures.turn;
      stands = subst (λ (n : ℕ). StandsAfter S counted_meanings me.0.deal.starts n cell.machine cell.events.items) here c.commit-place.ensures.stands;
    }

pub returns-clause-ok : goal.returns-clause-ok
returns-clause-ok g c =
    let me = c.args.pass.now.seat.me in let S = counted_node g.J.Journal.state in let h = c.requires.held in
    given_under S me me c.args.node.0 c.args.held.now.cell (record c.ready_commit.new.held.cell { machine = c.act.new.node }) h refl c.ready_commit.ensures.same.2
    c.machine.result.now (ap S (c.machine.ensures.now ∙ c.ready_commit.ensures.same.1)) c.args.input c.in_ok-stepped.stepped.happened c.act.new.out.letters c.in_ok-stepped.ensures.acts
    c.commit-place.new.pass.seat.me c.commit-place.result _ c.commit-place.ensures.view c.ready_commit.new.held.node.0
    (ap (λ n. n.0) (c.ready_commit.ensures.same.0 ∙ c.requires.node.1)) c.commit-place.ensures.placed c.requires.quiet refl c.copy_reply-reply.result c.copy_reply-reply.ensures

pub returns-clause-charged : goal.returns-clause-charged
returns-clause-charged g c =
    let me = c.args.pass.now.seat.me in let account = c.args.pass.now.account in
    charged_at me me c.commit-place.new.pass.seat.me account account c.commit-place.new.pass.account c.commit-place.result c.in_ok-stepped.stepped.bytes c.in_ok-stepped.stepped.happened _
    refl c.commit-place.ensures.view refl c.in_ok-stepped.ensures.bytes c.commit-place.ensures.account
