use Rattle.std.proofs.Common.{rules, arith, ◌≡◌, ◌+◌, ◌∷◌, ap, ◌∙◌}
use Rattle.tied_cells.specs.Rule.{deal_of}
use Rattle.tied_cells.specs.declared.board.Stored.TheVariants.{Home}
use Rattle.tied_cells.proofs.Standing.{front}
use Rattle.tied_cells.proofs.TurnSteps.{takes_turn}
use Rattle.tied_cells.proofs.cells.Cells.take.Goals as goal

pub compare_exchange-found-requires : goal.compare_exchange-found-requires
compare_exchange-found-requires g c = let mark : c.args.pass.now.account.number + 1 ≡ c.args.pass.now.seat.me.0.number + 1 = omega arith in (
  search rules,
  search rules,
  takes_turn g.M.Machine.state g.M.Machine.meanings (deal_of g.M.Machine.state c.args.self.now.table.shared.key)
      c.args.self.now.table.shared.table_id.slots c.args.self.now.nodes c.args.pass.now.seat.id c.args.node.0 (c.args.pass.now.account.number + 1) c.args.pass.now.seat.me
      c.args.self.now.sized.0 c.requires.node c.args.pass.now.is_alive c.requires.free.0 mark,
)

pub exchange-requires : goal.exchange-requires
exchange-requires g c = let t = c.compare_exchange-found.ensures.2.0 c.if-found-ne0.false in let same : t.0 ≡ c.args.node.0 = omega (arith, t.2) in
    (search rules, (Home t.1, front c.compare_exchange-found.new.seat.me.1 c.args.node.0 (Home t.1) c.args.pass.now.seat.me.1 (ap (λ me. me.1) t.3 ∙ ap (λ n. (n, Home t.1) ∷ c.args.pass.now.seat.me.1) same)))
