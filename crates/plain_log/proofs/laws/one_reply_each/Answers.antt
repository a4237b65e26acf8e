use Rattle.plain_log.specs.Log.{start}
use Rattle.plain_log.proofs.Sequence.{length-replies_from}
use Rattle.plain_log.proofs.laws.one_reply_each.Goals as goal

pub returns : goal.returns
returns c = λ shape run items. length-replies_from shape run (start shape) items
