use Rattle.std.proofs.Common.{Bor, List, ℕ, length, map, ap, refl, sym, ◌∙◌}
use Rattle.command_frame.specs.Streams.{unplaced}
use Rattle.command_frame.specs.declared.items.Item.TheVariants.{Fault as FaultItem}
use Rattle.log_base.specs.Shape.{shape}
use Rattle.schedule_model.specs.Courses.{Scene}
use Rattle.schedule_model.specs.Holding.{questions_of}
use Rattle.schedule_model.specs.Scheduling.{Scheduled, begins, plans_after, scene_of}
use Rattle.serial_schedule.specs.Lanes.{draws_of, primaries_of, run_of}
use Rattle.serial_schedule.proofs.Beginning.{begins-made, line-begun, line-kept}
use Rattle.serial_schedule.proofs.schedule.Schedule.begin_line.Goals as goal

pub go_on-requires : goal.go_on-requires
go_on-requires c =
    let s = c.args.self.now in
    record { made = begins-made s.config s.run s.draws s.primaries (scene_of s) (FaultItem c.args.lane c.args.fault.now) c.in_ok-course.course c.in_ok-course.ensures }

pub invariant_of-self-2 : goal.invariant_of-self-2
invariant_of-self-2 c =
    let inside = c.self.inside in
    let item = FaultItem c.args.lane c.args.fault.now in
    let scene : Scene = record {
      questions = questions_of inside.hold;
      waiting = length inside.queue.items;
      records = map (λ (r : Bor (List ℕ)). r.now) inside.records.items;
    } in
    let done = c.in_ok-go_on.ensures in
    record {
      kept = line-kept (shape inside.config) (run_of inside.lanes.items) inside.items.now c.args.items.now c.args.lane c.args.fault.now c.in_ok-course.course
          inside.duties.items c.go_on.new.duties.items inside.awaited inside.hold c.go_on.new.hold c.take_effect.new.hold (length inside.replies.items)
          (draws_of inside.lanes.items) (primaries_of inside.lanes.items) scene inside.config.in_range
          (ap (λ (s : Scheduled). s.items) c.self.view_is ∙ c.requires)
          refl
          (c.in_ok-course.ensures ∙ ap (λ (s : Scheduled). begins s item) (sym c.self.view_is))
          done.duties done.hold (c.take_effect.ensures.hold c.args.lane) c.self.invariant.kept;
      lanes_are = c.self.invariant.lanes_are;
      records_are = c.self.invariant.records_are;
    }

pub returns-clause-ok : goal.returns-clause-ok
returns-clause-ok c =
    let done = c.in_ok-go_on.ensures in
    line-begun _ c.args.self.now c.args.lane c.args.fault.now c.args.items.now c.in_ok-course.course c.go_on.new.duties.items c.take_effect.new.queue.items
    c.go_on.new.subscriber c.go_on.new.hold c.take_effect.new.hold (length c.self.inside.replies.items) c.take_effect.new.plans.items
    (map unplaced c.go_on.new.replies.items) c.self.view_is c.in_ok-course.ensures done.duties done.stream done.hold (c.take_effect.ensures.hold c.args.lane)
    (c.take_effect.ensures.queue c.args.lane)
    (c.take_effect.ensures.plans c.args.lane ∙ ap (plans_after (FaultItem c.args.lane c.args.fault.now)) c.in_ok-reserve.ensures.items)
    done.replies
