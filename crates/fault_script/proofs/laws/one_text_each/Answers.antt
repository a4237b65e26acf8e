use Rattle.fault_script.proofs.OneText.{one_text}
use Rattle.fault_script.proofs.laws.one_text_each.Goals as goal

pub returns : goal.returns
returns c = one_text
