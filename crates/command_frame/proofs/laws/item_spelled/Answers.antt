use Rattle.command_frame.proofs.ItemLaws.{item_takes}
use Rattle.command_frame.proofs.ReadingLaws.{one_reading, spelled_is_read}
use Rattle.command_frame.proofs.laws.item_spelled.Goals as goal

pub returns : goal.returns
returns c = record { read = item_takes; spelled = spelled_is_read; one = one_reading }
