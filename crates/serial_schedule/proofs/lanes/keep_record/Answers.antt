use Rattle.std.proofs.Common.{Bor, ℕ, List, map, ap, sym, ◌∙◌}
use Rattle.std.specs.Prelude.{slice_set}
use Rattle.std.proofs.lemmas.List.{map-set}
use Rattle.command_frame.specs.declared.items.Item.{Item}
use Rattle.schedule_model.specs.Scheduling.{records_after}
use Rattle.serial_schedule.proofs.lanes.keep_record.Goals as goal

pub returns-in-Append : goal.returns-in-Append
returns-in-Append c =
    let kept : List (List ℕ) = map (λ (r : Bor (List ℕ)). r.now) c.args.records.now.items in
    map-set (λ (r : Bor (List ℕ)). r.now) c.args.records.now.items c.from.result c.get.result
    ∙ ap (λ (lane : ℕ). slice_set kept lane c.get.result.now) c.from.ensures
    ∙ ap (slice_set kept c.in-Append.lane) c.get.ensures
    ∙ ap (λ (item : Item). records_after item kept) (sym c.in-Append.is)
