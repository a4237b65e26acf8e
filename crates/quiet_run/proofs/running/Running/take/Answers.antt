use Rattle.std.proofs.Common.{map, sym, subst, ℕ, arith}
use Rattle.std.proofs.lemmas.List.{length-map}
use Rattle.core_step.specs.Standing.{cluster_node}
use Rattle.quiet_run.specs.Running.{Keeps, job_of}
use Rattle.counted_node.specs.Causes.{node_media}
use Rattle.quiet_run.specs.Turns.{IsAt, ShowsMark, TakesTurn}
use Rattle.quiet_run.proofs.Going.{can_keep, causes_kept, gone_on, on_err_always, on_ok_more, stopped_after, stopped_before, stopped_with_after, stopped_with_before}
use Rattle.quiet_run.proofs.Next.{turn_fits, turn_within}
use Rattle.quiet_run.proofs.running.Running.take.Goals as goal

pub take_turn-requires-clause-within : goal.take_turn-requires-clause-within
take_turn-requires-clause-within g c =
    let nodes = map (cluster_node {P = g.row.P.Denot} g.J.Journal.state) c.args.nodes.now in
    let within = turn_within (job_of c.args.self.now) c.requires.way.is_job c.args.self.now.events.items nodes c.requires.way.so_far c.args.turn c.requires.due.next in
    let long = length-map c.args.nodes.now (cluster_node {P = g.row.P.Denot} g.J.Journal.state) in
    omega (arith, within, long, c.from.ensures)

pub take_turn-requires-clause-fits : goal.take_turn-requires-clause-fits
take_turn-requires-clause-fits g c =
    let nodes = map (cluster_node {P = g.row.P.Denot} g.J.Journal.state) c.args.nodes.now in
    subst (λ (n : ℕ). IsAt nodes n c.args.turn.input) (sym c.from.ensures)
    (turn_fits (job_of c.args.self.now) c.requires.way.is_job c.args.self.now.events.items nodes c.requires.way.so_far c.args.turn c.requires.due.next)

pub returns-in_err-happened-clause-err : goal.returns-in_err-happened-clause-err
returns-in_err-happened-clause-err g c =
    let nodes = map (cluster_node {P = g.row.P.Denot} g.J.Journal.state) c.args.nodes.now in
    let new = map (cluster_node {P = g.row.P.Denot} g.J.Journal.state) c.take_turn.new.nodes in
    on_err_always c.from_residual.result _ (stopped_before (job_of c.args.self.now) c.args.self.now.events.items nodes new c.requires.way.so_far c.in_err-happened.ensures.err)

pub keep-requires-clause-can : goal.keep-requires-clause-can
keep-requires-clause-can g c =
    let nodes = map (cluster_node {P = g.row.P.Denot} g.J.Journal.state) c.args.nodes.now in
    let new = map (cluster_node {P = g.row.P.Denot} g.J.Journal.state) c.take_turn.new.nodes in
    let taken = subst (λ (n : ℕ). TakesTurn n c.args.turn.input c.in_ok-happened.happened nodes new) c.from.ensures c.in_ok-happened.ensures.turn in
    can_keep c.args.self.now nodes c.requires.way c.args.turn c.requires.due c.in_ok-happened.happened new taken

pub returns-clause-ok : goal.returns-clause-ok
returns-clause-ok g c =
    let nodes = map (cluster_node {P = g.row.P.Denot} g.J.Journal.state) c.args.nodes.now in
    let new = map (cluster_node {P = g.row.P.Denot} g.J.Journal.state) c.take_turn.new.nodes in
    let taken = subst (λ (n : ℕ). TakesTurn n c.args.turn.input c.in_ok-happened.happened nodes new) c.from.ensures c.in_ok-happened.ensures.turn in
    on_ok_more c.keep.result _ _ (λ (keeps : Keeps c.args.turn.node c.in_ok-happened.happened c.args.self.now c.keep.new.self).
    gone_on c.args.self.now nodes c.requires.way c.args.turn c.requires.due c.in_ok-happened.happened new taken c.keep.new.self keeps) c.keep.ensures

pub returns-clause-err : goal.returns-clause-err
returns-clause-err g c =
    let nodes = map (cluster_node {P = g.row.P.Denot} g.J.Journal.state) c.args.nodes.now in
    let new = map (cluster_node {P = g.row.P.Denot} g.J.Journal.state) c.take_turn.new.nodes in
    let taken = subst (λ (n : ℕ). TakesTurn n c.args.turn.input c.in_ok-happened.happened nodes new) c.from.ensures c.in_ok-happened.ensures.turn in
    on_err_always c.keep.result _ (stopped_after c.args.self.now nodes c.requires.way c.args.turn c.requires.due c.in_ok-happened.happened new taken)

pub returns-in_err-happened-clause-err_causes : goal.returns-in_err-happened-clause-err_causes
returns-in_err-happened-clause-err_causes g c =
    let nodes = map (cluster_node {P = g.row.P.Denot} g.J.Journal.state) c.args.nodes.now in
    let new = map (cluster_node {P = g.row.P.Denot} g.J.Journal.state) c.take_turn.new.nodes in
    let media = node_media {P = g.row.P.Denot} g.J.Journal.state g.J.Journal.faults g.J.Journal.keeps_synced g.J.Journal.turns in
    on_err_always c.from_residual.result _
    (stopped_with_before (job_of c.args.self.now) c.args.self.now.events.items nodes new (map media c.args.nodes.now) (map media c.take_turn.new.nodes) c.requires.way.so_far
    c.in_err-happened.ensures.err c.take_turn.ensures.counts)

pub returns-clause-causes : goal.returns-clause-causes
returns-clause-causes g c =
    let nodes = map (cluster_node {P = g.row.P.Denot} g.J.Journal.state) c.args.nodes.now in
    let new = map (cluster_node {P = g.row.P.Denot} g.J.Journal.state) c.take_turn.new.nodes in
    let media = node_media {P = g.row.P.Denot} g.J.Journal.state g.J.Journal.faults g.J.Journal.keeps_synced g.J.Journal.turns in
    let told = map media c.args.nodes.now in
    let told_new = map media c.take_turn.new.nodes in
    let taken = subst (λ (n : ℕ). TakesTurn n c.args.turn.input c.in_ok-happened.happened nodes new) c.from.ensures c.in_ok-happened.ensures.turn in
    let shows = subst (λ (n : ℕ). ShowsMark n c.in_ok-happened.happened.mark nodes told told_new) c.from.ensures c.in_ok-happened.ensures.shows in
    on_ok_more c.keep.result _ _ (λ (keeps : Keeps c.args.turn.node c.in_ok-happened.happened c.args.self.now c.keep.new.self).
    causes_kept c.args.self.now nodes c.requires.way c.args.turn c.requires.due c.in_ok-happened.happened new taken told told_new shows c.keep.new.self keeps) c.keep.ensures

pub returns-clause-err_causes : goal.returns-clause-err_causes
returns-clause-err_causes g c =
    let nodes = map (cluster_node {P = g.row.P.Denot} g.J.Journal.state) c.args.nodes.now in
    let new = map (cluster_node {P = g.row.P.Denot} g.J.Journal.state) c.take_turn.new.nodes in
    let media = node_media {P = g.row.P.Denot} g.J.Journal.state g.J.Journal.faults g.J.Journal.keeps_synced g.J.Journal.turns in
    let told = map media c.args.nodes.now in
    let told_new = map media c.take_turn.new.nodes in
    let taken = subst (λ (n : ℕ). TakesTurn n c.args.turn.input c.in_ok-happened.happened nodes new) c.from.ensures c.in_ok-happened.ensures.turn in
    let shows = subst (λ (n : ℕ). ShowsMark n c.in_ok-happened.happened.mark nodes told told_new) c.from.ensures c.in_ok-happened.ensures.shows in
    on_err_always c.keep.result _
    (stopped_with_after c.args.self.now nodes c.requires.way c.args.turn c.requires.due c.in_ok-happened.happened new taken told told_new shows)

pub returns-clause-others : goal.returns-clause-others
returns-clause-others g c =
    let nodes = map (cluster_node {P = g.row.P.Denot} g.J.Journal.state) c.args.nodes.now in
    let media = node_media {P = g.row.P.Denot} g.J.Journal.state g.J.Journal.faults g.J.Journal.keeps_synced g.J.Journal.turns in
    let told = map media c.args.nodes.now in
    let told_new = map media c.take_turn.new.nodes in
    let shows = subst (λ (n : ℕ). ShowsMark n c.in_ok-happened.happened.mark nodes told told_new) c.from.ensures c.in_ok-happened.ensures.shows in
    on_ok_more c.keep.result _ _ (λ (keeps : Keeps c.args.turn.node c.in_ok-happened.happened c.args.self.now c.keep.new.self). shows.others) c.keep.ensures
