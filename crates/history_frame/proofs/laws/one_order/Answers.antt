use Rattle.history_frame.specs.Merging.{events_from}
use Rattle.history_frame.proofs.MergeLaws.{one_order as order}
use Rattle.history_frame.proofs.laws.one_order.Goals as goal

pub returns : goal.returns
returns c = λ lists one other first second. order (events_from 0 lists) one other first.events_are first.places second.events_are second.places
