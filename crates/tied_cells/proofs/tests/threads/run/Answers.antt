use Rattle.std.proofs.Common.{◌<◌, sym, ◌∙◌, subst}
use Rattle.tied_cells.proofs.Returned.{idle_back}
use Rattle.tied_cells.proofs.tests.threads.run.Goals as goal

pub close-requires : goal.close-requires
close-requires g c =
    let table = c.in_ok-cells.cells.table.shared in let passes = c.in_ok-passes.passes in let len = sym passes.ok.0 ∙ c.in_ok-passes.ensures.len in
    record {
      back = idle_back (λ p. (p.seat, p.account)) table.table_id table.key.passes passes.items (len ∙ (c.in_ok-cells.ensures.len ∙ sym c.in_ok-cells.ensures.nodes.1))
          (λ k d below. c.in_ok-passes.ensures.ready k d (subst (λ n. k < n) len below));
    }
