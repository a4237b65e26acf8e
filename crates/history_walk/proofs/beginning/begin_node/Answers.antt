use Rattle.std.proofs.Common.{◌≡◌, ◌+◌, ◌*◌, ◌≤◌, ℕ, arith, ap, ◌∙◌}
use Rattle.segment_journal.specs.Journalled.{loaded}
use Rattle.history_walk.proofs.Begun.{lists_behind, loaded_of}
use Rattle.history_walk.proofs.beginning.begin_node.Goals as goal

pub begin_replica-requires-clause-lists : goal.begin_replica-requires-clause-lists
begin_replica-requires-clause-lists c = (
  c.requires.lists.0,
  c.requires.lists.1,
  loaded_of c.requires.lists.0 c.args.node.0 c.replicas.result _ c.args.journals.now.items c.in_ok-lists-in-Storage.lists.items c.requires.lists.2
      c.in_ok-lists-in-Storage.ensures.all c.in_ok-lists-in-Storage.ensures.taken,
)

pub returns-in-Storage-clause-begun : goal.returns-in-Storage-clause-begun
returns-in-Storage-clause-begun c kept lists =
    c.in_ok-made-in-Storage.ensures kept
    (loaded_of kept c.args.node.0 c.replicas.result _ c.args.journals.now.items c.in_ok-lists-in-Storage.lists.items lists c.in_ok-lists-in-Storage.ensures.all c.in_ok-lists-in-Storage.ensures.taken)

pub returns-in-Storage-clause-others : goal.returns-in-Storage-clause-others
returns-in-Storage-clause-others c kept lists =
    lists_behind kept c.args.node.0 (c.args.node.0 * 8 + c.replicas.result) _ c.args.journals.now.items c.take_lists.new.journals.items lists c.take_lists.ensures.count
    (let few = c.args.config.now.in_range.replicas in let is = c.replicas.ensures in omega (arith, few, is)) c.take_lists.ensures.rest

pub returns-in-Orderer-clause-begun : goal.returns-in-Orderer-clause-begun
returns-in-Orderer-clause-begun c kept lists =
    let number : c.disk.result ≡ c.args.node.0 * 8 + 0 = c.disk.ensures in
    let low : c.args.node.0 * 8 ≤ c.disk.result = omega (arith, number) in
    c.in_ok-made-in-Orderer.ensures kept
    (lists.each c.disk.result c.take_list-list.result low c.take_list-list.ensures.taken ∙ ap (λ (d : ℕ). loaded (kept d)) number)

pub returns-in-Orderer-clause-others : goal.returns-in-Orderer-clause-others
returns-in-Orderer-clause-others c kept lists =
    let number : c.disk.result ≡ c.args.node.0 * 8 + 0 = c.disk.ensures in
    lists_behind kept c.args.node.0 (c.args.node.0 * 8 + 1) _ c.args.journals.now.items c.take_list-list.new.journals.items lists c.take_list-list.ensures.count
    (omega arith) (λ k low. c.take_list-list.ensures.rest k (λ e. omega (arith, low, e, number)))
