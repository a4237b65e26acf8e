use Rattle.std.proofs.Common.{◌∷◌, ◌++◌, [], map, sym, ap, ◌∙◌, subst}
use Rattle.tied_cells.specs.Closing.{AreBack}
use Rattle.tied_cells.proofs.Closes.{two_back}
use Rattle.tied_cells.proofs.tests.places.Goals as goal

pub close-requires : goal.close-requires
close-requires c =
    let items = c.push_reserved-2.ensures.items ∙ ap (λ l. l ++ c.args.second ∷ []) (c.push_reserved.ensures.items ∙ ap (λ l. l ++ c.args.first ∷ []) c.in_ok-passes.ensures.items) in
    record {
      back = subst (AreBack c.args.cells.table.shared.table_id c.args.cells.table.shared.key.passes) (sym (ap (map (λ p. (p.seat, p.account))) items))
          (two_back c.args.cells.table.shared.table_id c.args.cells.table.shared.key.passes (c.args.first.seat, c.args.first.account) (c.args.second.seat, c.args.second.account)
          c.requires.count c.requires.tables c.requires.free.0 c.requires.free.1 c.requires.numbers.0 c.requires.numbers.1);
    }
