use Rattle.subscriber.proofs.Order.{delivered_in_order}
use Rattle.subscriber.proofs.laws.delivered_in_order.Goals as goal

pub returns : goal.returns
returns c = delivered_in_order
