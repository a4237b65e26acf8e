use Rattle.std.proofs.Common.{rules, arith, refl}
use Rattle.std.proofs.lemmas.Grind.{common_steps}
use Rattle.tied_cells.proofs.opening.open_cell.Goals as goal

pub returns-clause-ok : goal.returns-clause-ok
returns-clause-ok g c = (
  record { node = c.args.asked.0.0; happened = c.of.result },
  first_of (search rules, grind (arith, common_steps)),
  refl,
  record {
    input_is = first_of (search rules, grind (arith, common_steps));
    row = first_of (search rules, grind (arith, common_steps));
    after = first_of (search rules, grind (arith, common_steps));
    events = first_of (search rules, grind (arith, common_steps));
  },
)
