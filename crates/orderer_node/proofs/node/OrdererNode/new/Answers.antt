use Rattle.std.proofs.Common.{◌<◌, sym, subst}
use Rattle.log_base.specs.ClusterShape.{Shape}
use Rattle.segment_journal.specs.Journalled.{AllPayloads}
use Rattle.orderer_node.specs.Ordering.{IsFlight}
use Rattle.orderer_node.proofs.Begun.{none_bad}
use Rattle.orderer_node.proofs.node.OrdererNode.new.Goals as goal

pub invariant_of-result : goal.invariant_of-result
invariant_of-result g c =
    let journal = g.J.Journal.state c.in_ok-acceptor.acceptor.journal in
    record {
      within = subst (λ (s : Shape). c.args.index < s.orderers) (sym c.in-Ok.ensures.config) c.requires.index;
      list = none_bad journal.first journal.payloads
          (subst (λ (j : g.row.J.Denot). AllPayloads (g.J.Journal.state j).payloads) (sym c.in_ok-acceptor.ensures.journal) c.len-length.ensures.payloads) c.in_ok-acceptor.ensures.list;
      flight = subst (λ (j : g.row.J.Denot). IsFlight (g.J.Journal.state j).flight) (sym c.in_ok-acceptor.ensures.journal) c.requires.flight;
      runs = tt;
      sent = c.new-3.ensures;
    }
