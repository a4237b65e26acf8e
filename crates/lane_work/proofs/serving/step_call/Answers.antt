use Rattle.std.proofs.Common.{ap, ◌∙◌}
use Rattle.log_base.specs.Shape.{shape}
use Rattle.log_base.specs.declared.cluster_shape.Config.{Config}
use Rattle.lane_work.specs.Stages.{after_answer}
use Rattle.lane_work.proofs.ServingItems.{step_answered}
use Rattle.lane_work.proofs.serving.step_call.Goals as goal

pub returns-in_ok-next-in-Answered-clause-step : goal.returns-in_ok-next-in-Answered-clause-step
returns-in_ok-next-in-Answered-clause-step g c =
    step_answered (shape c.args.cluster.now.config) c.args.asking c.args.pass.now.account c.ask.new.pass.account c.args.pass.now.seat.me.0.own c.ask.new.pass.seat.me.0.own
    c.in_ok-reply.field-0 c.in-Answered.reply c.in_ok-next-in-Answered.next c.in-Answered.is c.in_ok-reply.ensures.asked
    (c.in_ok-next-in-Answered.ensures ∙ ap (λ (config : Config). after_answer (shape config) c.args.asking c.in-Answered.reply) c.config.ensures)
