use Rattle.command_frame.proofs.FrameLaws.{one_item}
use Rattle.item_input.proofs.OneReading.{plain_one_way}
use Rattle.item_input.proofs.laws.one_plain_reading.Goals as goal

pub returns : goal.returns
returns c shape bytes items others ending other range a b =
    plain_one_way shape (λ item next rest more is are e. one_item shape item next rest more range is are e) bytes items others ending other a b
