use Rattle.log_base.proofs.Wide.{be2-number2, be4-number4, be8-number8}
use Rattle.log_base.proofs.big_endian.number_read.Goals as goal

pub returns : goal.returns
returns c = record { two = be2-number2; four = be4-number4; eight = be8-number8 }
