use Rattle.std.proofs.Common.{◌≡◌, ◌+◌, ◌≤◌, ℕ, List, get_or, length, subst, sym, ap, ◌∙◌, arith}
use Rattle.std.specs.List.{AllByRecursion}
use Rattle.log_base.specs.Shape.{shape}
use Rattle.client_session.specs.Sessions.{Drawing}
use Rattle.schedule_model.specs.Duties.{opening}
use Rattle.serial_schedule.specs.Keeping.{IsDuty, IsHold}
use Rattle.serial_schedule.specs.Lanes.{AreLanes, draws_of, fresh_lanes, run_of}
use Rattle.serial_schedule.proofs.Drawing.{fresh-are}
use Rattle.schedule_model.proofs.Kept.{none-drawn}
use Rattle.serial_schedule.proofs.Followed.{opening-kept}
use Rattle.serial_schedule.proofs.schedule.Schedule.new.Goals as goal

pub invariant_of-result : goal.invariant_of-result
invariant_of-result c =
    let opens : c.from_vec-duties.result.items ≡ opening (shape c.args.config) = c.from_vec-duties.ensures.items ∙ c.in_ok-opening.ensures in
    let begin = c.in_ok-lanes.ensures in
    record {
      kept = record {
        run_fits = subst (λ (lanes : List Drawing). run_of lanes ≤ 1000000) (sym begin) c.requires.run;
        each_item = c.requires.items;
        each_duty = subst (AllByRecursion (IsDuty (shape c.args.config))) (sym opens) (opening-kept (shape c.args.config) c.args.config.in_range);
        answer = tt;
        questions = subst (IsHold (shape c.args.config)) (sym c.none.ensures) tt;
        lanes = ap (λ (lanes : List Drawing). length (draws_of lanes)) begin;
        room = λ lane. subst (λ (lanes : List Drawing). get_or (draws_of lanes) lane 0 + length c.args.items.now ≤ 65536) (sym begin)
            (let none : get_or (draws_of (fresh_lanes c.args.run 64)) lane 0 ≡ 0 = none-drawn 64 lane in omega (arith, none, c.requires.few));
      };
      lanes_are = subst AreLanes (sym begin) (fresh-are c.args.run);
      records_are = ap (λ (records : List (List ℕ)). length records) c.in_ok-records.ensures;
    }
