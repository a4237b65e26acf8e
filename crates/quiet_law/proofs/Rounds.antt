-- The duties of settling, one after another, are the four rounds of settling.
use Rattle.std.proofs.Common.{[], ◌∷◌, ◌++◌}
use Rattle.log_base.specs.ClusterShape.{Shape}
use Rattle.reply_frame.specs.declared.replies.Reply.{Reply}
use Rattle.history_frame.specs.declared.inputs.Call.{Call}
use Rattle.history_frame.specs.declared.inputs.Input.TheVariants.{Call as ACall}
use Rattle.history_frame.specs.declared.inputs.Mark.TheVariants.{Done}
use Rattle.log_base.specs.declared.numbers.NodeId.{NodeId}
use Rattle.schedule_model.specs.declared.duties.Awaited.{Awaited}
use Rattle.schedule_model.specs.declared.duties.Duty.TheVariants.{MakeCall}
use Rattle.schedule_model.specs.Duties.{settling}
use Rattle.quiet_model.specs.Moments.{IsSettling, Moment, Takes}
use Rattle.quiet_law.specs.Going.{DoneThen}

pub record Settles (config : Shape) (node : NodeId) (call : Call) (awaited : Awaited) (goes_on : Awaited → Reply → Moment → Type 0) (before : Moment) : Type 0 where
  pub settled : Moment
  pub rounds : IsSettling config before settled
  pub reply : Reply
  pub next : Moment
  pub takes : Takes config settled node.0 (ACall call) Done reply next
  pub rest : goes_on awaited reply next

pub settles : (config : Shape) (node : NodeId) (call : Call) (awaited : Awaited) (goes_on : Awaited → Reply → Moment → Type 0) (before : Moment)
    → DoneThen config (settling config ++ MakeCall node call awaited ∷ []) goes_on before → Settles config node call awaited goes_on before
settles config node call awaited goes_on before done =
    let stored = done.2 in
    let gathers = stored.2 in
    let gathered = gathers.2 in
    let orders = gathered.2 in
    let decided = orders.2 in
    let again = decided.2 in
    let last = again.2 in
    record {
      settled = last.0;
      rounds = record {
        stored = stored.0;
        gathered = gathered.0;
        decided = decided.0;
        copies = record { middle = done.0; turns = done.1; deliveries = stored.1 };
        lengths = record { middle = gathers.0; turns = gathers.1; deliveries = gathered.1 };
        decision = record { middle = orders.0; turns = orders.1; deliveries = decided.1 };
        reports = record { middle = again.0; turns = again.1; deliveries = last.1 };
      };
      reply = last.2.0;
      next = last.2.1;
      takes = last.2.2;
      rest = last.2.3;
    }
