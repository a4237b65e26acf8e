-- All four rounds of settling.
use Rattle.log_base.specs.ClusterShape.{InRange, Shape}
use Rattle.record_frame.specs.declared.values.Value.{Value}
use Rattle.quiet_model.specs.Ahead.{IsAhead}
use Rattle.quiet_model.specs.Deciding.{IsNextDecision, decided_on}
use Rattle.quiet_model.specs.Moments.{IsSettling, Moment}
use Rattle.quiet_model.specs.Settled.{Agreed, AreHeard, IsSettled, ListsOf}
use Rattle.quiet_model.proofs.Copying.{copied_round}
use Rattle.quiet_model.proofs.Deciding.{decided_round}
use Rattle.quiet_model.proofs.Gathering.{gathered_round}
use Rattle.quiet_model.proofs.Still.{still_round}

pub settled_by : (config : Shape) (agreed : Agreed) (from to : ListsOf) (value : Value) (before after : Moment) → InRange config
    → IsAhead config agreed from to before → IsNextDecision config agreed to value → IsSettling config before after
    → IsSettled config (decided_on agreed value) to after × AreHeard config to after
settled_by config agreed from to value before after range ahead next settling =
    let copied = copied_round config agreed from to before settling.stored range ahead settling.copies in
    let told = gathered_round config range agreed to ahead.new_sizes settling.stored settling.gathered copied.0 copied.1 settling.lengths in
    let decided = decided_round config agreed to value settling.gathered settling.decided range told.0 told.2 next settling.decision in
    still_round config (decided_on agreed value) to settling.decided after range decided settling.reports
