use Rattle.message_frame.proofs.Sizes.{values_of}
use Rattle.message_frame.proofs.field_writing.put_promised.Goals as goal

pub put_votes-requires-clause-values : goal.put_votes-requires-clause-values
put_votes-requires-clause-values c = values_of c.args.from.0 c.args.votes.now c.requires.votes.each
