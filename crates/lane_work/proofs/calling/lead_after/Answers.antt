use Rattle.log_base.specs.Shape.{shape}
use Rattle.lane_work.proofs.Leading.{led_by, not_led}
use Rattle.lane_work.proofs.calling.lead_after.Goals as goal

pub returns-in_ok-lead-in-NoLeader-clause-led : goal.returns-in_ok-lead-in-NoLeader-clause-led
returns-in_ok-lead-in-NoLeader-clause-led g c =
    led_by (shape c.args.cluster.now.config) c.args.lane c.args.pass.now.account c.lead.new.pass.account c.args.pass.now.seat.me.0.own c.lead.new.pass.seat.me.0.own
    c.in_ok-lead-in-NoLeader.field-0 c.args.reply.now c.in-NoLeader.is c.in_ok-lead-in-NoLeader.ensures.went

pub returns-in_default-clause-led : goal.returns-in_default-clause-led
returns-in_default-clause-led g c =
    not_led (shape c.args.cluster.now.config) c.args.lane c.args.pass.now.account c.args.pass.now.seat.me.0.own c.args.reply.now c.in_default.not-NoLeader
