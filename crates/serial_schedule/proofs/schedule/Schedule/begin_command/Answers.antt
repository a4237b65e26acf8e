use Rattle.std.proofs.Common.{Bor, ◌≡◌, ◌∷◌, List, ℕ, ap, map, refl, subst, sym, ◌∙◌, []}
use Rattle.std.specs.List.{AllByRecursion}
use Rattle.command_frame.specs.Items.{IsItem}
use Rattle.command_frame.specs.Streams.{unplaced}
use Rattle.log_base.specs.Shape.{shape}
use Rattle.schedule_model.specs.Courses.{Scene}
use Rattle.schedule_model.specs.Holding.{questions_of}
use Rattle.schedule_model.specs.Scheduling.{Scheduled}
use Rattle.serial_schedule.specs.Keeping.{IsKept}
use Rattle.serial_schedule.specs.Lanes.{draws_of, primaries_of, run_of}
use Rattle.serial_schedule.proofs.Beginning.{begun-kept, begun-made, plain-hold, plain-plans, plain-queue, recorded-length}
use Rattle.serial_schedule.proofs.schedule.Schedule.begin_command.Goals as goal

pub keep_record-requires-clause-item : goal.keep_record-requires-clause-item
keep_record-requires-clause-item c =
    let items : c.self.inside.items.now ≡ c.args.item.now ∷ c.args.items.now = ap (λ (s : Scheduled). s.items) c.self.view_is ∙ c.requires.items in
    (shape c.self.inside.config, (subst (AllByRecursion (IsItem (shape c.self.inside.config))) items c.self.invariant.kept.each_item).0)

pub invariant_of-self-2 : goal.invariant_of-self-2
invariant_of-self-2 c =
    let inside = c.self.inside in
    let config = shape inside.config in
    let begins = c.in_ok-begin_item.ensures in
    let lanes = inside.lanes.items in
    let items : inside.items.now ≡ c.args.item.now ∷ c.args.items.now = ap (λ (s : Scheduled). s.items) c.self.view_is ∙ c.requires.items in
    let scene : Scene = record { questions = questions_of inside.hold; waiting = 0; records = [] } in
    record {
      kept = subst (λ (run : ℕ). IsKept config run c.args.items.now c.begin_item.new.duties.items inside.awaited inside.hold (draws_of c.begin_item.new.lanes.items))
          (sym begins.lanes.1)
          (begun-kept config (run_of lanes) inside.items.now c.args.items.now c.args.item.now inside.duties.items c.begin_item.new.duties.items inside.awaited
          inside.hold inside.hold (draws_of lanes) (draws_of c.begin_item.new.lanes.items) (primaries_of lanes) scene inside.config.in_range items refl
          (begins.duties scene) (plain-hold c.args.item.now inside.hold c.requires.no_fault) begins.draws c.self.invariant.kept);
      lanes_are = begins.lanes.0;
      records_are = recorded-length c.args.item.now (map (λ (r : Bor (List ℕ)). r.now) inside.records.items) _ c.keep_record.ensures c.self.invariant.records_are;
    }

pub returns-clause-ok : goal.returns-clause-ok
returns-clause-ok c =
    let begins = c.in_ok-begin_item.ensures in
    let lanes = c.begin_item.new.lanes.items in
    begun-made _ c.args.self.now c.args.item.now c.args.items.now (run_of lanes) (draws_of lanes) (primaries_of lanes) _ c.begin_item.new.duties.items
    c.self.inside.queue.items c.follow_from.new.subscriber c.self.inside.hold c.self.inside.plans.items (map unplaced c.begin_item.new.replies.items)
    c.self.view_is begins.lanes.1 begins.draws begins.primaries c.keep_record.ensures (plain-queue c.args.item.now _ c.requires.no_fault)
    c.follow_from.ensures (plain-hold c.args.item.now _ c.requires.no_fault) (plain-plans c.args.item.now _ c.requires.no_fault) (begins.duties _)
    (λ taken. begins.replies taken _)
