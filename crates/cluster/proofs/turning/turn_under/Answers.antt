use Rattle.std.proofs.Common.{ℕ, refl, sym, ap, subst, ◌∙◌}
use Rattle.core_step.specs.Known.{is_down}
use Rattle.core_step.specs.Standing.{state_of}
use Rattle.counted_node.specs.Counted.{counted_meanings, counted_node, CountedState}
use Rattle.tied_cells.specs.declared.mail.Fetched.TheVariants.{Letter as GotLetter}
use Rattle.tied_cells.specs.History.{StandsAfter}
use Rattle.tied_cells.specs.Turns.{HasLeft, HasTurn}
use Rattle.cluster.specs.Events.{IsIdle}
use Rattle.cluster.proofs.Charging.{charged_at}
use Rattle.cluster.proofs.Choosing.{chosen_fits, chosen_last, chosen_only, chosen_spelled, fetches_only, on_err}
use Rattle.cluster.proofs.Holding.{has_stepped, held_moves, turn_moves, turns_under}
use Rattle.cluster.proofs.Making.{fetched_idle, idle_none}
use Rattle.cluster.proofs.turning.turn_under.Goals as goal

pub returns-in_err-ready_commit-clause-held : goal.returns-in_err-ready_commit-clause-held
returns-in_err-ready_commit-clause-held g c =
    let me = c.args.pass.now.seat.me in let S = counted_node g.J.Journal.state in
    held_moves S me me c.args.node.0 c.args.held.now.cell _ c.requires.held refl c.ready_commit.ensures.same.2 (ap S c.ready_commit.ensures.same.1)

pub returns-in_err-ready_commit-clause-err : goal.returns-in_err-ready_commit-clause-err
returns-in_err-ready_commit-clause-err g c = let me = c.args.pass.now.seat.me in on_err (IsIdle me me) c.from_residual.result (idle_none me me refl)

pub returns-in_err-input-clause-held : goal.returns-in_err-input-clause-held
returns-in_err-input-clause-held g c =
    let me = c.args.pass.now.seat.me in let me' = c.choose.new.pass.seat.me in let S = counted_node g.J.Journal.state in
    let lost = c.in_err-input.ensures.lost in
    held_moves S me me' c.args.node.0 c.args.held.now.cell _ c.requires.held (fetches_only c.args.node.0 me me' (GotLetter lost.0) lost.1) c.ready_commit.ensures.same.2
    (ap S (c.machine.ensures.now ∙ c.ready_commit.ensures.same.1))

pub returns-in_err-input-clause-err : goal.returns-in_err-input-clause-err
returns-in_err-input-clause-err g c =
    let me = c.args.pass.now.seat.me in let me' = c.choose.new.pass.seat.me in let lost = c.in_err-input.ensures.lost in
    on_err (IsIdle me me') c.from_residual-in_err-input.result (fetched_idle me me' (fetches_only c.args.node.0 me me' (GotLetter lost.0) lost.1))

pub act-requires-clause-fits : goal.act-requires-clause-fits
act-requires-clause-fits g c =
    let me = c.args.pass.now.seat.me in let S = counted_node g.J.Journal.state in let h = c.requires.held in
    let was = ap S (c.machine-2.ensures.now ∙ (c.machine.ensures.now ∙ c.ready_commit.ensures.same.1)) ∙ h.stands.2 in
    subst (λ (n : CountedState). counted_meanings.fits n c.in_ok-input.input) (sym was)
    (chosen_fits c.is_down-down.result c.args.node.0 me c.choose.new.pass.seat.me c.in_ok-input.input c.in_ok-input.ensures.chosen
    (record { node = c.args.node.0; events = c.args.held.now.cell.events.items }) h.turn.0 refl h.stands.0 h.stands.1)

pub act-requires-clause-spelled : goal.act-requires-clause-spelled
act-requires-clause-spelled g c =
    chosen_spelled c.is_down-down.result c.args.node.0 c.args.pass.now.seat.me c.choose.new.pass.seat.me c.in_ok-input.input c.in_ok-input.ensures.chosen

pub returns-in_err-stepped-clause-held : goal.returns-in_err-stepped-clause-held
returns-in_err-stepped-clause-held g c =
    let me = c.args.pass.now.seat.me in let me' = c.choose.new.pass.seat.me in let S = counted_node g.J.Journal.state in
    held_moves S me me' c.args.node.0 c.args.held.now.cell _ c.requires.held
    (chosen_only c.is_down-down.result c.args.node.0 me me' c.in_ok-input.input c.in_ok-input.ensures.chosen) c.ready_commit.ensures.same.2
    (c.in_err-stepped.ensures.err ∙ ap S (c.machine-2.ensures.now ∙ (c.machine.ensures.now ∙ c.ready_commit.ensures.same.1)))

pub returns-in_err-stepped-clause-err : goal.returns-in_err-stepped-clause-err
returns-in_err-stepped-clause-err g c =
    let me = c.args.pass.now.seat.me in let me' = c.choose.new.pass.seat.me in
    on_err (IsIdle me me') c.from_residual-in_err-stepped.result
    (fetched_idle me me' (chosen_only c.is_down-down.result c.args.node.0 me me' c.in_ok-input.input c.in_ok-input.ensures.chosen))

pub commit-place-requires-clause-turn : goal.commit-place-requires-clause-turn
commit-place-requires-clause-turn g c =
    let me = c.args.pass.now.seat.me in let me' = c.choose.new.pass.seat.me in
    let here = ap (λ n. n.0) (c.ready_commit.ensures.same.0 ∙ c.requires.node.1) in
    subst (λ (n : ℕ). HasTurn me' n (record c.ready_commit.new.held.cell { machine = c.act.new.node })) (sym here)
    (turn_moves me me' c.args.node.0 c.args.held.now.cell (record c.ready_commit.new.held.cell { machine = c.act.new.node }) c.requires.held.turn
    (chosen_only c.is_down-down.result c.args.node.0 me me' c.in_ok-input.input c.in_ok-input.ensures.chosen) c.ready_commit.ensures.same.2)

pub commit-place-requires-clause-stepped : goal.commit-place-requires-clause-stepped
commit-place-requires-clause-stepped g c =
    let me = c.args.pass.now.seat.me in let me' = c.choose.new.pass.seat.me in let S = counted_node g.J.Journal.state in let h = c.requires.held in
    let was = ap S (c.machine-2.ensures.now ∙ (c.machine.ensures.now ∙ c.ready_commit.ensures.same.1)) in
    let down = c.is_down-down.result in let input = c.in_ok-input.input in let chosen = c.in_ok-input.ensures.chosen in
    has_stepped S me me' c.args.node.0 c.args.held.now.cell (record c.ready_commit.new.held.cell { machine = c.act.new.node }) h (chosen_only down c.args.node.0 me me' input chosen) c.ready_commit.ensures.same.2
    c.machine-2.result.now was input c.in_ok-stepped.stepped.happened c.act.new.out.letters c.in_ok-stepped.ensures.acts
    (chosen_fits down c.args.node.0 me me' input chosen (record { node = c.args.node.0; events = c.args.held.now.cell.events.items }) h.turn.0 refl h.stands.0 h.stands.1)
    (chosen_last down c.args.node.0 me me' input chosen) c.ready_commit.new.held.node.0 (ap (λ n. n.0) (c.ready_commit.ensures.same.0 ∙ c.requires.node.1))

pub commit-place-requires-clause-left : goal.commit-place-requires-clause-left
commit-place-requires-clause-left g c = subst HasLeft (sym c.choose.ensures.same.1) c.requires.left

pub returns-clause-held : goal.returns-clause-held
returns-clause-held g c =
    let here = ap (λ n. n.0) (c.commit-place.ensures.held.0 ∙ (c.ready_commit.ensures.same.0 ∙ c.requires.node.1)) in
    let S = counted_node g.J.Journal.state in let cell = c.commit-place.new.held.cell in let me = c.commit-place.new.pass.seat.me in record {
      turn = subst (λ (n : ℕ). HasTurn me n cell) here c.commit-place.ensures.turn;
      stands = subst (λ (n : ℕ). StandsAfter S counted_meanings me.0.deal.starts n cell.machine cell.events.items) here c.commit-place.ensures.stands;
    }

pub returns-clause-ok : goal.returns-clause-ok
returns-clause-ok g c =
    let me = c.args.pass.now.seat.me in let me' = c.choose.new.pass.seat.me in let S = counted_node g.J.Journal.state in let h = c.requires.held in
    let was = ap S (c.machine-2.ensures.now ∙ (c.machine.ensures.now ∙ c.ready_commit.ensures.same.1)) in
    let down = c.is_down-down.result in let input = c.in_ok-input.input in let chosen = c.in_ok-input.ensures.chosen in
    let down_is = c.is_down-down.ensures ∙ ap (λ m. is_down (state_of g.J.Journal.state m.node.part)) (c.machine.ensures.now ∙ c.ready_commit.ensures.same.1) in
    turns_under S me me' c.args.node.0 c.args.held.now.cell (record c.ready_commit.new.held.cell { machine = c.act.new.node }) h (chosen_only down c.args.node.0 me me' input chosen) c.ready_commit.ensures.same.2
    c.machine-2.result.now was input c.in_ok-stepped.stepped.happened c.act.new.out.letters c.in_ok-stepped.ensures.acts
    c.commit-place.new.pass.seat.me c.commit-place.result _ c.commit-place.ensures.view c.ready_commit.new.held.node.0
    (ap (λ n. n.0) (c.ready_commit.ensures.same.0 ∙ c.requires.node.1)) c.commit-place.ensures.placed down down_is chosen

pub returns-clause-charged : goal.returns-clause-charged
returns-clause-charged g c =
    let me = c.args.pass.now.seat.me in let me' = c.choose.new.pass.seat.me in
    charged_at me me' c.commit-place.new.pass.seat.me c.args.pass.now.account c.choose.new.pass.account c.commit-place.new.pass.account c.commit-place.result c.in_ok-stepped.stepped.bytes c.in_ok-stepped.stepped.happened _
    (chosen_only c.is_down-down.result c.args.node.0 me me' c.in_ok-input.input c.in_ok-input.ensures.chosen) c.commit-place.ensures.view c.choose.ensures.same.1 c.in_ok-stepped.ensures.bytes c.commit-place.ensures.account
