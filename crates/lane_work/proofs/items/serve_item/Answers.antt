use Rattle.std.proofs.Common.{◌<◌, sym, ap, ◌∙◌, subst, arith}
use Rattle.client_session.specs.Sessions.{Drawing}
use Rattle.log_base.specs.Shape.{shape}
use Rattle.log_base.specs.declared.cluster_shape.Config.{Config}
use Rattle.lane_work.specs.declared.stages.Stage.{Stage}
use Rattle.lane_work.specs.Keeping.{IsBetween, IsServed, MayGo}
use Rattle.lane_work.specs.Stages.{after_item, begun}
use Rattle.lane_work.proofs.Begun.{begun_may}
use Rattle.lane_work.proofs.ServedItem.{between_after, has_answer}
use Rattle.lane_work.proofs.items.serve_item.Goals as goal

pub serve-requires-clause-stage : goal.serve-requires-clause-stage
serve-requires-clause-stage g c =
    let cluster = c.args.cluster.now in
    let config = shape cluster.config in
    let session = c.args.session.now in
    let number = c.args.pass.now.account.number in
    let own = c.args.pass.now.seat.me.0.own in
    let low : number < 65536 = omega (arith, c.requires.number, c.ranges.lane) in
    let stage = c.in_ok-stage.ensures.stage ∙ ap (λ (x : Config). begun (shape x) session c.args.item.now) c.config.ensures in
    subst (MayGo config cluster.run number own) (sym stage)
    (begun_may config cluster.config.in_range cluster.run number cluster.numbered.1 session own c.requires.between c.requires.room low c.args.item.now c.requires.item)

pub returns-clause-answer : goal.returns-clause-answer
returns-clause-answer g c =
    let config = shape c.args.cluster.now.config in
    let session = c.args.session.now in
    let item = c.args.item.now in
    let own = c.args.pass.now.seat.me.0.own in
    let stage = c.in_ok-stage.ensures.stage ∙ ap (λ (x : Config). begun (shape x) session item) c.config.ensures in
    let served = subst (λ (s : Stage). IsServed config s c.args.pass.now.account c.serve.new.pass.account own c.serve.new.pass.seat.me.0.own c.in_ok-reply.reply) stage c.in_ok-reply.ensures.served in
    has_answer config c.args.lane session item c.args.pass.now.account c.serve.new.pass.account c.lead_after.new.pass.account own c.serve.new.pass.seat.me.0.own c.lead_after.new.pass.seat.me.0.own
    c.in_ok-reply.reply served c.in_ok-lead_after.ensures.led

pub returns-clause-between : goal.returns-clause-between
returns-clause-between g c =
    let cluster = c.args.cluster.now in
    let config = shape cluster.config in
    let session = c.args.session.now in
    let item = c.args.item.now in
    let number = c.args.pass.now.account.number in
    let low : number < 65536 = omega (arith, c.requires.number, c.ranges.lane) in
    let own = c.args.pass.now.seat.me.0.own in
    let old = c.args.pass.now.account in
    let middle = c.serve.new.pass in
    let last = c.lead_after.new.pass in
    let now = c.in_ok-stage.ensures.session ∙ ap (λ (x : Config). after_item (shape x) session item) c.config.ensures in
    let stage = c.in_ok-stage.ensures.stage ∙ ap (λ (x : Config). begun (shape x) session item) c.config.ensures in
    let served = subst (λ (s : Stage). IsServed config s old middle.account own middle.seat.me.0.own c.in_ok-reply.reply) stage c.in_ok-reply.ensures.served in
    let answer = has_answer config c.args.lane session item old middle.account last.account own middle.seat.me.0.own last.seat.me.0.own c.in_ok-reply.reply served c.in_ok-lead_after.ensures.led in
    subst (λ (s : Drawing). IsBetween config cluster.run number s last.seat.me.0.own) (sym now)
    (between_after config cluster.config.in_range cluster.run number cluster.numbered.1 c.args.lane session item old last.account own last.seat.me.0.own c.in_ok-reply.reply
    low c.requires.room c.requires.item c.requires.between answer)
