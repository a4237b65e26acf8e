use Rattle.std.proofs.Common.{Some, ◌≡◌, subst}
use Rattle.history_frame.specs.Effects.{happened}
use Rattle.log_base.specs.Shape.{shape}
use Rattle.node_model.specs.NodeState.{IsRow}
use Rattle.node_table.specs.Numbering.{role_at}
use Rattle.core_step.specs.Disks.{media_in, segment_put, told_mark}
use Rattle.core_step.specs.Standing.{Standing, state_of}
use Rattle.core_step.proofs.Roles.{is_row, part_told, part_turns}
use Rattle.core_step.proofs.node.Node.act.Goals as goal

pub returns-clause-row : goal.returns-clause-row
returns-clause-row g c =
    let node = c.self.inside in
    let journalled = g.J.Journal.state in
    let after = state_of journalled c.act.new.self in
    let made = happened c.args.input.now c.act.result in
    subst (λ (s : Standing g.row.J.Denot g.row.P.Denot). IsRow s.config s.number (state_of journalled s.part) made) c.self.view_is
    (is_row (shape node.config) node.number.0 (state_of journalled node.part) after made
    (part_turns journalled (shape node.config) node.number.0 node.part made after c.self.invariant.seat c.act.ensures.row))

pub returns-clause-told : goal.returns-clause-told
returns-clause-told g c = λ other mark.
    let node = c.self.inside in
    let journalled = g.J.Journal.state in
    let faults = g.J.Journal.faults in
    let keeps = g.J.Journal.keeps_synced in
    let turns = g.J.Journal.turns in
    subst (λ (s : Standing g.row.J.Denot g.row.P.Denot).
    told_mark (media_in journalled faults keeps turns s.part) (segment_put s.config (role_at s.config s.number) (state_of journalled s.part) c.args.input.now) ≡ Some mark
    → c.act.result.mark ≡ mark)
    c.self.view_is
    (λ tells. c.act.ensures.told other mark
    (part_told (state_of journalled node.part) (shape node.config) node.number.0 node.part (media_in journalled faults keeps turns node.part) c.args.input.now mark c.self.invariant.seat tells))
