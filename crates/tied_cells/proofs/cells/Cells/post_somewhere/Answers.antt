use Rattle.std.proofs.Common.{arith, ◌≡◌, ◌≢◌, ℕ, ◌+◌, refl, sym, ap, ◌∙◌, subst}
use Rattle.tied_cells.specs.Rule.{nodes_of}
use Rattle.tied_cells.specs.Boxes.{first_box}
use Rattle.tied_cells.proofs.Tries.{HasTried, has_tried_none, has_tried_more, still_own, posted_there}
use Rattle.tied_cells.proofs.cells.Cells.post_somewhere.Goals as goal

pub loop-index-init : goal.loop-index-init
loop-index-init g c = record { table = refl; letter = refl; tried = has_tried_none (λ found. found ≢ 0) (first_box (nodes_of c.args.seat.now.me.0.deal) c.args.to.0) c.args.seat.now.me }

pub post_into-requires-clause-table : goal.post_into-requires-clause-table
post_into-requires-clause-table g c = c.loop-index.invariant.table ∙ c.requires.table

pub post_into-requires-clause-alive : goal.post_into-requires-clause-alive
post_into-requires-clause-alive g c = (λ i. (c.loop-index.invariant.tried.noted_so i).0.alive) ∙ c.requires.alive

pub post_into-requires-clause-free : goal.post_into-requires-clause-free
post_into-requires-clause-free g c = (λ i. (c.loop-index.invariant.tried.noted_so i).0.boxed) ∙ c.requires.free

pub post_into-requires-clause-mark : goal.post_into-requires-clause-mark
post_into-requires-clause-mark g c = c.requires.mark ∙ sym (λ i. (c.loop-index.invariant.tried.noted_so i).0.number + 2)

pub post_into-requires-clause-output : goal.post_into-requires-clause-output
post_into-requires-clause-output g c = let t = c.loop-index.invariant.tried in
    still_own g.M.Machine.meanings c.args.seat.now.me c.loop-index.seat.me t.added t.noted_so c.args.self.now.nodes c.args.to.0 c.loop-index.index (c.first_box-first.result + c.loop-index.index)
    c.requires.nodes (ap (λ n. n + c.loop-index.index) c.first_box-first.ensures.first) c.loop-index-test.true c.args.letter c.loop-index.letter c.loop-index.invariant.letter c.requires.output

pub returns-in-Posted-clause-table : goal.returns-in-Posted-clause-table
returns-in-Posted-clause-table g c = c.post_into.ensures.table ∙ c.loop-index.invariant.table

pub returns-in-Posted-clause-outcome : goal.returns-in-Posted-clause-outcome
returns-in-Posted-clause-outcome g c = let t = c.loop-index.invariant.tried in (
  t.added,
  posted_there g.M.Machine.meanings c.args.seat.now.me c.loop-index.seat.me t.added t.noted_so c.args.self.now.nodes c.args.to.0 c.loop-index.index (c.first_box-first.result + c.loop-index.index)
      c.requires.nodes (ap (λ n. n + c.loop-index.index) c.first_box-first.ensures.first) c.loop-index-test.true c.post_into.new.seat.me c.args.letter c.loop-index.letter c.loop-index.invariant.letter c.in-Posted.ensures.outcome,
)

pub loop-index-preserved : goal.loop-index-preserved
loop-index-preserved g c = let o = c.in-NoRoom.ensures.outcome in record {
  table = c.post_into.ensures.table ∙ c.loop-index.invariant.table;
  letter = o.0 ∙ c.loop-index.invariant.letter;
  tried = has_tried_more (λ found. found ≢ 0) (first_box (nodes_of c.args.seat.now.me.0.deal) c.args.to.0) c.loop-index.index (c.first_box-first.result + c.loop-index.index) o.1.0
      c.args.seat.now.me c.loop-index.seat.me c.post_into.new.seat.me
      (ap (λ n. n + c.loop-index.index) (c.first_box-first.ensures.first ∙ ap (λ n. first_box n c.args.to.0) (sym c.requires.nodes))) c.loop-index.invariant.tried o.1.1 o.1.2;
}

pub returns-clause-table : goal.returns-clause-table
returns-clause-table g c = c.loop-index.invariant.table

pub returns-clause-outcome : goal.returns-clause-outcome
returns-clause-outcome g c = let first = first_box (nodes_of c.args.seat.now.me.0.deal) c.args.to.0 in let all : c.loop-index.index ≡ 16 = omega arith in
    let t = subst (λ (n : ℕ). HasTried (λ found. found ≢ 0) first n c.args.seat.now.me c.loop-index.seat.me) all c.loop-index.invariant.tried in
    (c.loop-index.invariant.letter, (t.added, t.tried, t.noted_so))
