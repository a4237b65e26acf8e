use Rattle.std.proofs.Common.{rules, ◌≡◌, List, sym, ◌∙◌, subst}
use Rattle.atomic_table.specs.Table.{rest}
use Rattle.tied_cells.specs.Rule.{deal_of}
use Rattle.tied_cells.specs.declared.board.Stored.TheVariants.{Said}
use Rattle.tied_cells.specs.Views.{IsPlaced}
use Rattle.tied_cells.proofs.Standing.{front, one_stored}
use Rattle.tied_cells.proofs.CommitStep.{commits, placed_view, placed_stored}
use Rattle.tied_cells.proofs.cells.Cells.place_event.Goals as goal

pub fetch_add-place-requires : goal.fetch_add-place-requires
fetch_add-place-requires g c = let s = c.requires.steps in (
  search rules,
  search rules,
  commits g.M.Machine.state g.M.Machine.meanings (deal_of g.M.Machine.state c.args.self.now.table.shared.key) c.args.self.now.table.shared.table_id.slots c.exchange.new.seat.id c.args.node.0
      c.exchange.new.seat.me c.args.seat.now.me.0 s.0 c.args.happened (rest c.args.seat.now.me.1) c.exchange.ensures.3 c.requires.alive s.1 c.requires.roomy s.2,
)

pub exchange-requires-2 : goal.exchange-requires-2
exchange-requires-2 g c =
    let old = rest c.args.seat.now.me.1 in
    let t = c.fetch_add-place.ensures.2.1 c.args.node.0 c.args.happened old (λ i. (c.exchange.ensures.3 i).1) in
    let stored = placed_stored g.M.Machine.meanings c.exchange.new.seat.me c.fetch_add-place.new.seat.me c.args.seat.now.me.0 c.args.node.0 c.fetch_add-place.result c.args.happened old c.exchange.ensures.3 t.0 in
    (search rules, (Said c.args.happened, front c.fetch_add-place.new.seat.me.1 c.args.node.0 (Said c.args.happened) old stored))

pub unreachable-requires : goal.unreachable-requires
unreachable-requires g c =
    let old = rest c.args.seat.now.me.1 in
    let t = c.fetch_add-place.ensures.2.1 c.args.node.0 c.args.happened old (λ i. (c.exchange.ensures.3 i).1) in
    let stored = placed_stored g.M.Machine.meanings c.exchange.new.seat.me c.fetch_add-place.new.seat.me c.args.seat.now.me.0 c.args.node.0 c.fetch_add-place.result c.args.happened old c.exchange.ensures.3 t.0 in
    c.in_default.not-Said c.args.happened (one_stored c.fetch_add-place.new.seat.me.1 c.args.node.0 c.args.node.0 c.exchange-2.result (Said c.args.happened) (rest c.fetch_add-place.new.seat.me.1) old c.exchange-2.ensures.2 stored)

pub returns-clause-happened : goal.returns-clause-happened
returns-clause-happened g c =
    let old = rest c.args.seat.now.me.1 in
    let t = c.fetch_add-place.ensures.2.1 c.args.node.0 c.args.happened old (λ i. (c.exchange.ensures.3 i).1) in
    let stored = placed_stored g.M.Machine.meanings c.exchange.new.seat.me c.fetch_add-place.new.seat.me c.args.seat.now.me.0 c.args.node.0 c.fetch_add-place.result c.args.happened old c.exchange.ensures.3 t.0 in
    let same : Said c.in-Said.happened ≡ Said c.args.happened = sym c.in-Said.is
    ∙ one_stored c.fetch_add-place.new.seat.me.1 c.args.node.0 c.args.node.0 c.exchange-2.result (Said c.args.happened) (rest c.fetch_add-place.new.seat.me.1) old c.exchange-2.ensures.2 stored in
    cc same

pub returns-clause-view : goal.returns-clause-view
returns-clause-view g c =
    let t = c.fetch_add-place.ensures.2.1 c.args.node.0 c.args.happened (rest c.args.seat.now.me.1) (λ i. (c.exchange.ensures.3 i).1) in
    placed_view g.M.Machine.meanings c.exchange.new.seat.me c.fetch_add-place.new.seat.me c.exchange-2.new.seat.me c.args.seat.now.me.0 c.args.node.0 c.fetch_add-place.result c.args.happened
    c.args.seat.now.me.1 c.exchange.ensures.3 t.0 c.exchange-2.ensures.3 c.requires.out

pub returns-clause-placed : goal.returns-clause-placed
returns-clause-placed g c = λ turn has.
    let t = c.fetch_add-place.ensures.2.1 c.args.node.0 c.args.happened (rest c.args.seat.now.me.1) (λ i. (c.exchange.ensures.3 i).1) in
    let before = c.exchange.ensures.3 in
    subst (λ (starts : List _). IsPlaced g.M.Machine.meanings starts turn c.fetch_add-place.result c.args.happened) (λ i. (before i).0.deal.starts)
    (t.1 turn ((λ i. (before i).0.turn) ∙ has))
