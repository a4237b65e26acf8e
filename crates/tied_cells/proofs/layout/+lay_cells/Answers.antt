use Rattle.std.proofs.Common.{◌++◌, ◌∷◌, [], sym, refl, ap, ◌∙◌, subst}
use Rattle.std.proofs.lemmas.List.{map-append}
use Rattle.tied_cells.specs.declared.board.Cell.{Cell}
use Rattle.tied_cells.specs.declared.board.Stored.TheVariants.{Home}
use Rattle.tied_cells.specs.Opening.{AreFresh}
use Rattle.tied_cells.proofs.Layouts.{fresh_more}
use Rattle.tied_cells.proofs.layout.+lay_cells.Goals as goal

pub returns-in-Some-clause-cells : goal.returns-in-Some-clause-cells
returns-in-Some-clause-cells g t c =
    let before = c.lay_cells.ensures.cells in
    let cell : Cell g.row.M.Denot g.row.H.Denot = record { machine = c.in-Some.machine; events = c.new.result } in (
      before.0 ++ cell ∷ [],
      c.push_reserved.ensures.items ∙ (ap (λ l. l ++ Home cell ∷ []) before.1 ∙ sym (map-append Home before.0 (cell ∷ []))),
      subst (λ machines. AreFresh machines (before.0 ++ cell ∷ [])) (sym c.in-Some.ensures.items)
          (fresh_more c.pop.new.self.items before.0 c.in-Some.machine cell before.2 refl c.new.ensures.items),
    )
