use Rattle.std.proofs.Common.{refl}
use Rattle.log_base.proofs.Wide.{number2-be2, number4-be4, number8-be8}
use Rattle.log_base.proofs.big_endian.number_written.Goals as goal

pub returns : goal.returns
returns c = record {
  two = λ x front rest fits. number2-be2 x _ front rest refl fits;
  four = λ x front rest fits. number4-be4 x _ front rest refl fits;
  eight = λ x front rest fits. number8-be8 x _ front rest refl fits;
}
