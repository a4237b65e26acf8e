use Rattle.quiet_law.proofs.Items.{item_answered}
use Rattle.quiet_law.proofs.Keeping.{in_order_after}
use Rattle.quiet_law.proofs.answers.item_is_answered_as_in_the_log.Goals as goal

pub returns : goal.returns
returns c = λ config range run state item is fits no_fault few scene stream calls before later answer matches goes.
    let done = item_answered config range run state item is fits no_fault few scene stream calls before later answer matches goes in
    (done.0, done.1, in_order_after config run state item fits is)
