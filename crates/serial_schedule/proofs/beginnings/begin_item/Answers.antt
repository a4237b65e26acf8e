use Rattle.std.proofs.Common.{ℕ, Some, ap, sym, ◌∙◌}
use Rattle.std.specs.Prelude.{slice_set}
use Rattle.std.proofs.lemmas.Result.{on_ok_weaker}
use Rattle.log_base.specs.declared.numbers.NodeId.{NodeId}
use Rattle.log_base.specs.Shape.{shape}
use Rattle.command_frame.specs.declared.items.Item.{Item}
use Rattle.serial_schedule.specs.Lanes.{draws_of, primaries_of}
use Rattle.schedule_model.specs.Scheduling.{drawn, primaries_after}
use Rattle.serial_schedule.proofs.Drawing.{draws_drawn, primaries_drawn}
use Rattle.serial_schedule.proofs.beginnings.begin_item.Goals as goal

-- a node by its number
abbrev node_at : ℕ → NodeId
node_at number = record { 0 = number }

pub returns-in-Append-clause-draws : goal.returns-in-Append-clause-draws
returns-in-Append-clause-draws c =
    let lanes = c.args.lanes.now.items in
    on_ok_weaker c.submit.result
    (λ set. ap draws_of set ∙ draws_drawn lanes c.in-Append.lane c.storage-primary.result.0 ∙ ap (λ (item : Item). drawn item (draws_of lanes)) (sym c.in-Append.is))
    c.submit.ensures.drawn

pub returns-in-Append-clause-primaries : goal.returns-in-Append-clause-primaries
returns-in-Append-clause-primaries c =
    let lanes = c.args.lanes.now.items in
    let primary = ap node_at c.storage-primary.ensures.node in
    on_ok_weaker c.submit.result
    (λ set. ap primaries_of set ∙ primaries_drawn lanes c.in-Append.lane c.storage-primary.result.0
    ∙ ap (λ (node : NodeId). slice_set (primaries_of lanes) c.in-Append.lane (Some node)) primary
    ∙ ap (λ (item : Item). primaries_after (shape c.args.config.now) item (primaries_of lanes)) (sym c.in-Append.is))
    c.submit.ensures.drawn
