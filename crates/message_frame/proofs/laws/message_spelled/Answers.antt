use Rattle.message_frame.proofs.MessageLaws.{message_takes, message_again, messages_apart, all_again, message_of-needs_none}
use Rattle.message_frame.proofs.laws.message_spelled.Goals as goal

pub returns : goal.returns
returns c = record { read = message_takes; again = message_again; apart = messages_apart; whole = all_again; memory = message_of-needs_none }
