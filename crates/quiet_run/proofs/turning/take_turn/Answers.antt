use Rattle.std.proofs.Common.{refl}
use Rattle.core_step.specs.Standing.{cluster_node}
use Rattle.counted_node.specs.Causes.{node_media}
use Rattle.quiet_run.proofs.Causing.{turn_counts, turn_shows}
use Rattle.quiet_run.proofs.Taken.{fits_here, none_taken, state_at, turn_taken}
use Rattle.quiet_run.proofs.turning.take_turn.Goals as goal

pub take_input-requires : goal.take_input-requires
take_input-requires g c =
    fits_here (cluster_node {P = g.row.P.Denot} g.J.Journal.state) c.args.nodes.now c.args.number c.args.number c.index-nodes-number.result refl c.requires.within c.args.input c.requires.fits

pub returns-clause-turn : goal.returns-clause-turn
returns-clause-turn g c =
    turn_taken (cluster_node {P = g.row.P.Denot} g.J.Journal.state) c.args.nodes.now c.args.number c.args.number c.index-nodes-number.result refl c.requires.within c.args.input
    c.take_input.result c.take_input.new.node c.take_input.ensures.input c.take_input.ensures.row c.take_input.ensures.after c.take_input.ensures.few c.take_input.ensures.size

pub returns-clause-err : goal.returns-clause-err
returns-clause-err g c =
    none_taken (cluster_node {P = g.row.P.Denot} g.J.Journal.state) c.args.nodes.now c.args.number c.args.number c.index-nodes-number.result refl c.requires.within c.args.input
    c.take_input.result c.take_input.new.node c.take_input.ensures.err

pub returns-clause-counts : goal.returns-clause-counts
returns-clause-counts g c =
    turn_counts (node_media {P = g.row.P.Denot} g.J.Journal.state g.J.Journal.faults g.J.Journal.keeps_synced g.J.Journal.turns) c.args.nodes.now c.args.number c.index-nodes-number.result
    c.requires.within c.take_input.new.node c.take_input.ensures.counts

pub returns-clause-shows : goal.returns-clause-shows
returns-clause-shows g c =
    turn_shows (node_media {P = g.row.P.Denot} g.J.Journal.state g.J.Journal.faults g.J.Journal.keeps_synced g.J.Journal.turns) c.args.nodes.now c.args.number c.index-nodes-number.result
    c.requires.within c.take_input.new.node (cluster_node {P = g.row.P.Denot} g.J.Journal.state)
    (state_at (cluster_node {P = g.row.P.Denot} g.J.Journal.state) c.args.nodes.now c.args.number c.index-nodes-number.result c.requires.within)
    c.take_input.result c.take_input.ensures.cause
