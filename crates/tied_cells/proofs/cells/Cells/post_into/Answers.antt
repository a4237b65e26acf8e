use Rattle.std.proofs.Common.{rules, arith, ◌≡◌, ◌∷◌, Some, ◌∙◌}
use Rattle.atomic_table.specs.Table.{rest}
use Rattle.tied_cells.specs.Rule.{deal_of, nodes_of, box_node}
use Rattle.tied_cells.specs.Views.{boxing, posting, addressed}
use Rattle.tied_cells.specs.declared.board.Stored.TheVariants.{Mail}
use Rattle.tied_cells.proofs.BoxSteps.{claims, posts}
use Rattle.tied_cells.proofs.cells.Cells.post_into.Goals as goal

pub compare_exchange-found-requires : goal.compare_exchange-found-requires
compare_exchange-found-requires g c = (
  search rules,
  search rules,
  claims g.M.Machine.state g.M.Machine.meanings (deal_of g.M.Machine.state c.args.self.now.table.shared.key) c.args.self.now.table.shared.table_id.slots c.args.self.now.nodes c.args.seat.now.id c.args.slot c.args.mark
      c.args.seat.now.me c.args.self.now.sized.0 c.requires.slot.0 c.requires.slot.1 c.requires.alive c.requires.free c.requires.mark,
)

pub store-requires : goal.store-requires
store-requires g c = let t = c.compare_exchange-found.ensures.2.0 c.if-found-ne0.false in let same : t.0 ≡ c.args.slot = omega (arith, t.1) in
    let old = c.args.seat.now.me in (
      search rules,
      search rules,
      posts g.M.Machine.state g.M.Machine.meanings (deal_of g.M.Machine.state c.args.self.now.table.shared.key) c.args.self.now.table.shared.table_id.slots c.exchange.new.seat.id c.args.slot
          c.exchange.new.seat.me (boxing old.0 t.0) c.args.letter old.1 (c.exchange.ensures.3 ∙ (λ i. ((t.2 i).0, (c.args.slot, Mail c.args.letter) ∷ rest (t.2 i).1)))
          c.requires.alive (λ i. Some (same i)) c.requires.output,
    )

pub returns-clause-outcome : goal.returns-clause-outcome
returns-clause-outcome g c = let t = c.compare_exchange-found.ensures.2.0 c.if-found-ne0.false in
    let old = c.args.seat.now.me in
    let me_is : c.exchange.new.seat.me ≡ (boxing old.0 t.0, (c.args.slot, Mail c.args.letter) ∷ old.1) = c.exchange.ensures.3 ∙ (λ i. ((t.2 i).0, (c.args.slot, Mail c.args.letter) ∷ rest (t.2 i).1)) in
    c.store.ensures.2 c.args.slot c.args.letter old.1 (λ i. (me_is i).1)
    ∙ (λ i. (posting (me_is i).0 (addressed (box_node (nodes_of (me_is i).0.deal) c.args.slot) c.args.letter), old.1))
