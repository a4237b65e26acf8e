use Rattle.std.proofs.Common.{◌<◌, ◌≤◌, ℕ, List, subst, arith}
use Rattle.std.specs.Prelude.{slice_index}
use Rattle.std.proofs.lemmas.List.{length-map}
use Rattle.core_step.specs.Standing.{cluster_node}
use Rattle.quiet_run.proofs.Ending.{counts_by, mapped_at}
use Rattle.quiet_run.proofs.serving.finish.Goals as goal

pub returns-clause-known : goal.returns-clause-known
returns-clause-known g c =
    let state = cluster_node {P = g.row.P.Denot} g.J.Journal.state in
    let number = c.first_to_know_most.result in
    let counts = counts_by (cluster_node {P = g.row.P.Denot} g.J.Journal.state) c.args.nodes.now in
    let long = length-map c.args.nodes.now (cluster_node {P = g.row.P.Denot} g.J.Journal.state) in
    record {
      number = c.first_to_know_most.result;
      node = cluster_node {P = g.row.P.Denot} g.J.Journal.state c.index-nodes-first_to_know_most.result;
      at = mapped_at (cluster_node {P = g.row.P.Denot} g.J.Journal.state) c.args.nodes.now c.first_to_know_most.result c.index-nodes-first_to_know_most.result
          c.first_to_know_most.ensures.within c.index-nodes-first_to_know_most.is;
      most = λ other low.
          subst (λ (l : List ℕ). slice_index l other ≤ slice_index l c.first_to_know_most.result) counts (c.first_to_know_most.ensures.most other (omega (arith, low, long)));
      first = λ other low.
          subst (λ (l : List ℕ). slice_index l other < slice_index l c.first_to_know_most.result) counts (c.first_to_know_most.ensures.first other low);
      known_is = c.known.ensures;
      end_is = c.end.ensures;
      mark_is = c.trim.ensures;
    }
