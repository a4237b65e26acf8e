use Rattle.std.proofs.Common.{arith, ◌≡◌, ◌≢◌, ℕ, ◌+◌, refl, sym, ap, ◌∙◌, subst}
use Rattle.tied_cells.specs.Rule.{nodes_of}
use Rattle.tied_cells.specs.Boxes.{first_box}
use Rattle.tied_cells.proofs.Tries.{HasTried, has_tried_none, has_tried_more, got_there, fits_there}
use Rattle.tied_cells.proofs.cells.Cells.fetch_somewhere.Goals as goal

pub loop-index-init : goal.loop-index-init
loop-index-init g c = record { table = refl; tried = has_tried_none (λ found. found ≢ 1) (first_box (nodes_of c.args.seat.now.me.0.deal) c.args.node.0) c.args.seat.now.me }

pub fetch_from-requires-clause-table : goal.fetch_from-requires-clause-table
fetch_from-requires-clause-table g c = c.loop-index.invariant.table ∙ c.requires.table

pub fetch_from-requires-clause-alive : goal.fetch_from-requires-clause-alive
fetch_from-requires-clause-alive g c = (λ i. (c.loop-index.invariant.tried.noted_so i).0.alive) ∙ c.requires.alive

pub fetch_from-requires-clause-free : goal.fetch_from-requires-clause-free
fetch_from-requires-clause-free g c = (λ i. (c.loop-index.invariant.tried.noted_so i).0.boxed) ∙ c.requires.free

pub fetch_from-requires-clause-mark : goal.fetch_from-requires-clause-mark
fetch_from-requires-clause-mark g c = c.requires.mark ∙ sym (λ i. (c.loop-index.invariant.tried.noted_so i).0.number + 2)

pub returns-in-Letter-clause-table : goal.returns-in-Letter-clause-table
returns-in-Letter-clause-table g c = c.fetch_from.ensures.table ∙ c.loop-index.invariant.table

pub returns-in-Letter-clause-outcome : goal.returns-in-Letter-clause-outcome
returns-in-Letter-clause-outcome g c = let t = c.loop-index.invariant.tried in let o = c.in-Letter.ensures.outcome in
    let slot_is = ap (λ n. n + c.loop-index.index) c.first_box-first.ensures.first in (
      (
        t.added,
        got_there g.M.Machine.meanings c.args.seat.now.me c.loop-index.seat.me t.added t.noted_so c.args.self.now.nodes c.args.node.0 c.loop-index.index (c.first_box-first.result + c.loop-index.index)
            c.requires.nodes slot_is c.loop-index-test.true c.fetch_from.new.seat.me c.in-Letter.letter o.0,
      ),
      fits_there g.M.Machine.meanings c.args.seat.now.me c.loop-index.seat.me t.added t.noted_so c.args.self.now.nodes c.args.node.0 c.loop-index.index (c.first_box-first.result + c.loop-index.index)
          c.requires.nodes slot_is c.loop-index-test.true c.in-Letter.letter o.1,
    )

pub loop-index-preserved : goal.loop-index-preserved
loop-index-preserved g c = let o = c.in_default.ensures.outcome in record {
  table = c.fetch_from.ensures.table ∙ c.loop-index.invariant.table;
  tried = has_tried_more (λ found. found ≢ 1) (first_box (nodes_of c.args.seat.now.me.0.deal) c.args.node.0) c.loop-index.index (c.first_box-first.result + c.loop-index.index) o.0
      c.args.seat.now.me c.loop-index.seat.me c.fetch_from.new.seat.me
      (ap (λ n. n + c.loop-index.index) (c.first_box-first.ensures.first ∙ ap (λ n. first_box n c.args.node.0) (sym c.requires.nodes))) c.loop-index.invariant.tried o.1 o.2;
}

pub returns-clause-table : goal.returns-clause-table
returns-clause-table g c = c.loop-index.invariant.table

pub returns-clause-outcome : goal.returns-clause-outcome
returns-clause-outcome g c = let first = first_box (nodes_of c.args.seat.now.me.0.deal) c.args.node.0 in let all : c.loop-index.index ≡ 16 = omega arith in
    let t = subst (λ (n : ℕ). HasTried (λ found. found ≢ 1) first n c.args.seat.now.me c.loop-index.seat.me) all c.loop-index.invariant.tried in
    (t.added, t.tried, t.noted_so)
