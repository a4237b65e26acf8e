use Rattle.answer_law.proofs.Spelled.{events_spelled}
use Rattle.answer_law.proofs.laws.events_have_spellings.Goals as goal

pub returns : goal.returns
returns c = events_spelled
