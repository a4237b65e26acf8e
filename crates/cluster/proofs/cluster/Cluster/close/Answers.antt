use Rattle.std.proofs.Common.{◌≡◌, ◌≤◌, ℕ, List, [], map, None, sym, ap, ◌∙◌, subst, arith}
use Rattle.std.specs.Option.{option_map}
use Rattle.std.proofs.lemmas.Grind.{common_steps}
use Rattle.std.proofs.lemmas.Option.{slice_get-map}
use Rattle.std.proofs.lemmas.Simd.{map-map}
use Rattle.core_step.specs.Standing.{cluster_node}
use Rattle.counted_node.specs.Causes.{HaveCauses, node_media}
use Rattle.counted_node.specs.Counted.{counted_node, first_in}
use Rattle.history_frame.specs.declared.events.Event.{Event}
use Rattle.log_base.specs.Shape.{shape}
use Rattle.node_model.specs.Machine.{ClusterNode}
use Rattle.node_model.specs.Sound.{payloads_on}
use Rattle.tied_cells.specs.Rule.{deal_of}
use Rattle.tied_cells.proofs.Closes.{from_map}
use Rattle.cluster.specs.Clusters.{AllFit}
use Rattle.cluster.specs.Counting.{NoneCounted}
use Rattle.cluster.specs.Submitting.{SubmitsAlone}
use Rattle.cluster.specs.History.{IsClosed, history_from}
use Rattle.cluster.proofs.Causing.{clean_starts, uncounted_in}
use Rattle.cluster.proofs.Closed.{closed_so, legal_so, spelled_so}
use Rattle.cluster.proofs.Fitting.{all_fit}
use Rattle.cluster.proofs.Left.{all_starts, closed_causes}
use Rattle.cluster.proofs.Merged.{events_fit, is_complete, merged_so}
use Rattle.cluster.proofs.Openings.{few_nodes}
use Rattle.cluster.proofs.cluster.Cluster.close.Goals as goal

pub close-requires : goal.close-requires
close-requires g c = record {
  back = record {
    of_these = λ k pass there.
        let p = from_map (λ p. (p.seat, p.account)) c.args.passes.items k pass there in
        ap (λ x. x.0.table_id) (sym p.2) ∙ (c.requires.passes k p.0 p.1).table_is;
    no_turn = λ k pass there.
        let p = from_map (λ p. (p.seat, p.account)) c.args.passes.items k pass there in
        subst (λ x. (x.0.me.0.turn ≡ None) × (x.0.me.1 ≡ [])) p.2 (c.requires.passes k p.0 p.1).free;
    all_there = λ number below.
        let a = c.requires.all number below in (
          a.0,
          (a.1.seat, a.1.account),
          slice_get-map (λ p. (p.seat, p.account)) c.args.passes.items a.0 ∙ ap (option_map (λ p. (p.seat, p.account))) a.2,
          a.3,
        );
  };
}

pub history_of-requires-clause-few : goal.history_of-requires-clause-few
history_of-requires-clause-few g c =
    let few = few_nodes (shape c.args.self.config) c.args.self.config.in_range in
    let starts = (deal_of (counted_node g.J.Journal.state) c.args.self.cells.table.shared.key).starts in
    subst (λ (n : ℕ). n ≤ 43) (sym (c.in-Ok-close.ensures.history.1.lists_are ∙ all_starts (shape c.args.self.config) (payloads_on c.args.self.kept) starts c.requires.begun.first)) few.1

pub history_of-requires-clause-complete : goal.history_of-requires-clause-complete
history_of-requires-clause-complete g c =
    let h = c.in-Ok-close.ensures.history in let state = counted_node g.J.Journal.state in
    is_complete state (deal_of state c.args.self.cells.table.shared.key).starts c.in-Ok-close.closed.machines.items c.in-Ok-close.closed.events h.0 h.1

pub history_of-requires-clause-room : goal.history_of-requires-clause-room
history_of-requires-clause-room g c =
    let h = c.in-Ok-close.ensures.history in let state = counted_node g.J.Journal.state in
    events_fit state (deal_of state c.args.self.cells.table.shared.key).starts c.in-Ok-close.closed.machines.items c.in-Ok-close.closed.events h.0 h.1 _ c.in-Ok.ensures.capacity

pub returns-in-Ok-close-clause-closed : goal.returns-in-Ok-close-clause-closed
returns-in-Ok-close-clause-closed g c =
    let h = c.in-Ok-close.ensures.history in let state = counted_node g.J.Journal.state in
    let starts = (deal_of state c.args.self.cells.table.shared.key).starts in
    let made = c.history_of.result in let head = c.history_of.ensures.head in
    subst (λ (nodes : List ClusterNode). IsClosed (shape c.args.self.config) c.args.self.run c.args.self.kept (map (λ p. (p.seat, p.account)) c.args.passes.items) nodes made)
    (sym (ap (map (cluster_node g.J.Journal.state)) c.take_nodes.ensures.nodes ∙ map-map (cluster_node g.J.Journal.state) (λ c. c.node) c.in-Ok-close.closed.machines.items))
    (closed_so state (shape c.args.self.config) c.args.self.run c.args.self.kept c.args.self.config.in_range starts c.requires.begun
    c.in-Ok-close.closed.machines.items c.in-Ok-close.closed.events h.0 h.1 (map (λ p. (p.seat, p.account)) c.args.passes.items) h.2
    (λ k pass there.
    let p = from_map (λ p. (p.seat, p.account)) c.args.passes.items k pass there in
    subst (λ x. SubmitsAlone c.args.self.run x.1.number x.0.me.0.own) p.2 (c.requires.passes k p.0 p.1).submits)
    made (ap shape head.0) head.1 head.2
    (merged_so state starts c.in-Ok-close.closed.machines.items c.in-Ok-close.closed.events h.0 h.1 made.events c.history_of.ensures.events))

pub returns-in-Ok-close-clause-safe : goal.returns-in-Ok-close-clause-safe
returns-in-Ok-close-clause-safe g c founded =
    let h = c.in-Ok-close.ensures.history in let state = counted_node g.J.Journal.state in
    let starts = (deal_of state c.args.self.cells.table.shared.key).starts in
    let made = c.history_of.result in let head = c.history_of.ensures.head in
    c.founded_histories_are_safe.ensures (shape c.args.self.config) c.args.self.run (payloads_on c.args.self.kept) made.events founded
    (legal_so state (shape c.args.self.config) c.args.self.run c.args.self.kept c.args.self.config.in_range starts c.requires.begun
    c.in-Ok-close.closed.machines.items c.in-Ok-close.closed.events h.0 h.1 (map (λ p. (p.seat, p.account)) c.args.passes.items) h.2
    (λ k pass there.
    let p = from_map (λ p. (p.seat, p.account)) c.args.passes.items k pass there in
    subst (λ x. SubmitsAlone c.args.self.run x.1.number x.0.me.0.own) p.2 (c.requires.passes k p.0 p.1).submits)
    made (ap shape head.0) head.1 head.2
    (merged_so state starts c.in-Ok-close.closed.machines.items c.in-Ok-close.closed.events h.0 h.1 made.events c.history_of.ensures.events))

pub returns-in-Ok-close-clause-spelled : goal.returns-in-Ok-close-clause-spelled
returns-in-Ok-close-clause-spelled g c rise kept =
    let closed = returns-in-Ok-close-clause-closed g c in let made = c.history_of.result in
    spelled_so c.args.self.run c.args.self.kept made c.args.self.numbered closed.run_is closed.kept_is closed.lawful
    (all_fit (map (λ p. (p.seat, p.account)) c.args.passes.items) (λ k pass there.
    let p = from_map (λ p. (p.seat, p.account)) c.args.passes.items k pass there in
    subst (λ x. AllFit x.0.me.0.own) p.2 (c.requires.passes k p.0 p.1).fit) made.events closed.events_are)
    c.history_of.ensures.events.places rise kept

pub take_nodes-requires-clause-room : goal.take_nodes-requires-clause-room
take_nodes-requires-clause-room g c =
    let starts = (deal_of (counted_node g.J.Journal.state) c.args.self.cells.table.shared.key).starts in
    let size = c.in-Ok-close.ensures.history.1.machines_are ∙ all_starts (shape c.args.self.config) (payloads_on c.args.self.kept) starts c.requires.begun.first in
    grind (arith, common_steps, size, c.nodes.ensures, c.in-Ok-with_capacity.ensures.capacity)

pub returns-in-Ok-close-clause-causes : goal.returns-in-Ok-close-clause-causes
returns-in-Ok-close-clause-causes g c =
    let S = g.J.Journal.state in let F = g.J.Journal.faults in let K = g.J.Journal.keeps_synced in let T = g.J.Journal.turns in
    let h = c.in-Ok-close.ensures.history in let made = c.history_of.result in
    let key = c.args.self.cells.table.shared.key in let starts = (deal_of (counted_node S) key).starts in
    let machines = c.in-Ok-close.closed.machines.items in
    let causes = closed_causes S F K T (shape c.args.self.config) (payloads_on c.args.self.kept) starts c.requires.begun.first (uncounted_in S key.starts.value.items c.args.self.none_counted)
    machines c.take_nodes.ensures.told c.in-Ok-close.closed.events h.0 h.1 in
    let merged = merged_so (counted_node S) starts machines c.in-Ok-close.closed.events h.0 h.1 made.events c.history_of.ensures.events in
    subst (λ (es : List Event). HaveCauses (shape c.args.self.config) es (map first_in starts) (map (node_media S F K T) c.take_nodes.new.nodes.items)) (sym merged)
    (subst (λ nodes. HaveCauses (shape c.args.self.config) (history_from 0 h.0) (map first_in starts) (map (node_media S F K T) nodes)) (sym c.take_nodes.ensures.nodes) causes)

pub returns-in-Ok-close-clause-opened : goal.returns-in-Ok-close-clause-opened
returns-in-Ok-close-clause-opened g c begin =
    let S = g.J.Journal.state in let F = g.J.Journal.faults in let K = g.J.Journal.keeps_synced in let T = g.J.Journal.turns in
    let h = c.in-Ok-close.ensures.history in let state = counted_node S in
    let starts = (deal_of state c.args.self.cells.table.shared.key).starts in
    let made = c.history_of.result in let head = c.history_of.ensures.head in
    clean_starts (shape c.args.self.config) c.args.self.run (payloads_on c.args.self.kept) made.events
    (legal_so state (shape c.args.self.config) c.args.self.run c.args.self.kept c.args.self.config.in_range starts c.requires.begun
    c.in-Ok-close.closed.machines.items c.in-Ok-close.closed.events h.0 h.1 (map (λ p. (p.seat, p.account)) c.args.passes.items) h.2
    (λ k pass there.
    let p = from_map (λ p. (p.seat, p.account)) c.args.passes.items k pass there in
    subst (λ x. SubmitsAlone c.args.self.run x.1.number x.0.me.0.own) p.2 (c.requires.passes k p.0 p.1).submits)
    made (ap shape head.0) head.1 head.2
    (merged_so state starts c.in-Ok-close.closed.machines.items c.in-Ok-close.closed.events h.0 h.1 made.events c.history_of.ensures.events))
    (map first_in starts) (map (node_media S F K T) c.take_nodes.new.nodes.items) (returns-in-Ok-close-clause-causes g c) begin

pub invariant_of-cluster-clause-none_counted : goal.invariant_of-cluster-clause-none_counted
invariant_of-cluster-clause-none_counted g c =
    subst (λ cells. NoneCounted cells.table.shared.key.starts.value.items) (sym c.in-Err.ensures.err.0) c.args.self.none_counted
