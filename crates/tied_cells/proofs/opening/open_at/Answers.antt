use Rattle.std.proofs.Common.{◌≡◌, Some, slice_get, sym, ap, ◌∙◌}
use Rattle.std.proofs.lemmas.Option.{get_or_from_slice_get}
use Rattle.tied_cells.specs.declared.board.Stored.TheVariants.{Home}
use Rattle.tied_cells.proofs.Starts.{opened_at, stayed_at}
use Rattle.tied_cells.proofs.opening.open_at.Goals as goal

pub returns-clause-ok : goal.returns-clause-ok
returns-clause-ok g c =
    let there : slice_get c.args.slots.now.items c.args.asked.0.0 ≡ Some (Home c.in-Home.cell) =
    c.requires.home.1 ∙ ap (λ x. Some x) (sym (get_or_from_slice_get c.args.slots.now.items c.args.asked.0.0 (Home c.requires.home.0) c.index_mut.result.now c.requires.home.1) ∙ (sym c.index_mut.ensures.value ∙ (sym c.replace.ensures.value ∙ c.in-Home.is))) in
    opened_at g.M.Machine.state g.M.Machine.meanings c.open_cell-outcome.result c.args.slots.now.items c.args.made.now.items c.open_cell-outcome.new.made.items c.args.asked c.in-Home.cell c.open_cell-outcome.new.cell c.replace.new.dest there c.open_cell-outcome.ensures.ok

pub returns-clause-err : goal.returns-clause-err
returns-clause-err g c =
    let there : slice_get c.args.slots.now.items c.args.asked.0.0 ≡ Some (Home c.in-Home.cell) =
    c.requires.home.1 ∙ ap (λ x. Some x) (sym (get_or_from_slice_get c.args.slots.now.items c.args.asked.0.0 (Home c.requires.home.0) c.index_mut.result.now c.requires.home.1) ∙ (sym c.index_mut.ensures.value ∙ (sym c.replace.ensures.value ∙ c.in-Home.is))) in
    stayed_at g.M.Machine.state g.M.Machine.meanings c.open_cell-outcome.result c.args.slots.now.items c.args.made.now.items c.open_cell-outcome.new.made.items c.args.asked c.in-Home.cell c.open_cell-outcome.new.cell c.replace.new.dest there c.open_cell-outcome.ensures.err
