use Rattle.std.proofs.Common.{refl}
use Rattle.agreement_law.proofs.Elements.{got_in}
use Rattle.sequence_law.specs.Answers.{AtQuestion, AtSubmission}
use Rattle.sequence_law.specs.OneRefusal.{one_refusal, record_c}
use Rattle.sequence_law.proofs.OneRefusal.{none_founded, one_refusal_decided, one_refusal_legal, one_refusal_sequence}
use Rattle.sequence_law.proofs.example.one_refusal_is_legal.Goals as goal

pub returns : goal.returns
returns c = record {
  founded = none_founded;
  legal = one_refusal_legal;
  decided = one_refusal_decided;
  sequence = one_refusal_sequence;
  acknowledged = (_, got_in one_refusal 26 _ refl, record { asked = refl; told = refl });
  refused = (_, got_in one_refusal 27 _ refl, AtQuestion 1 refl refl);
  not_stored = (_, got_in one_refusal 28 _ refl, AtSubmission record_c (record { input = refl; pair = (refl, refl) }) refl);
  found = (_, got_in one_refusal 29 _ refl, refl, refl);
}
