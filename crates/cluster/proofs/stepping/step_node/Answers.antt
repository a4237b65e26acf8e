use Rattle.std.proofs.Common.{ℕ, List, ◌++◌, map, sym, ap, subst, ◌∙◌}
use Rattle.counted_node.specs.Counted.{counted_meanings, CountedState}
use Rattle.node_model.specs.Machine.{posted}
use Rattle.cluster.proofs.stepping.step_node.Goals as goal

pub step-requires-clause-fits : goal.step-requires-clause-fits
step-requires-clause-fits g c = subst (λ (n : CountedState). counted_meanings.fits n c.args.input) (sym c.ready.ensures.same) c.requires.fits

pub returns-clause-acts : goal.returns-clause-acts
returns-clause-acts g c = let step = c.step.ensures in let same = c.ready.ensures.same in record {
  input_is = step.input;
  row = subst (λ (n : CountedState). counted_meanings.is_row n c.step.result) same step.row;
  after = step.after ∙ ap (λ (n : CountedState). counted_meanings.after n c.step.result) same;
  letters_are = step.letters ∙ ap (λ (l : List (ℕ × List ℕ)). l ++ map posted c.step.result.outputs) (c.ready.ensures.letters ∙ c.requires.empty);
  few = step.few;
  size = step.size;
}
