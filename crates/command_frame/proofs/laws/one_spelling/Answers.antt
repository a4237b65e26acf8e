use Rattle.command_frame.proofs.FrameLaws.{one_item}
use Rattle.command_frame.proofs.laws.one_spelling.Goals as goal

pub returns : goal.returns
returns c = record { item = one_item }
