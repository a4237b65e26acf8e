use Rattle.command_frame.specs.declared.items.Item.TheVariants.{Trim}
use Rattle.plain_log.specs.Log.{after, state_after}
use Rattle.plain_log.proofs.Joining.{read_below_mark, trim_stays}
use Rattle.plain_log.proofs.laws.trim_gives_up.Goals as goal

pub returns : goal.returns
returns c = λ shape run state lane below more reader shard replica position within.
    read_below_mark shape.replicas (state_after shape run (after shape run state (Trim lane below)) more) position
    (trim_stays shape run state lane below more position within)
