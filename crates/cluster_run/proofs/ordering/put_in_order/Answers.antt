use Rattle.std.proofs.Common.{◌+◌, List, map, subst, sym, arith}
use Rattle.std.proofs.lemmas.List.{length-map}
use Rattle.reply_frame.specs.declared.replies.Reply.{Reply}
use Rattle.cluster_run.specs.Ordering.{AreInOrder}
use Rattle.cluster_run.proofs.Ordered.{SoFar, begins, ends, goes_on, some, within}
use Rattle.cluster_run.proofs.ordering.put_in_order.Goals as goal

pub loop-done-init : goal.loop-done-init
loop-done-init c = record {
  far = subst (λ (l : List Reply). SoFar c.args.lanes.now (map (λ list. list.items) c.args.lists.items) (map (λ list. list.items) c.args.lists.items) l 0) (sym c.requires.empty)
      (begins c.args.lanes.now (map (λ list. list.items) c.args.lists.items) c.requires.answered);
  room = c.requires.room;
}

pub take_last-requires-clause-within : goal.take_last-requires-clause-within
take_last-requires-clause-within c =
    let size = length-map c.loop-done.lists.items (λ list. list.items) in
    let low = within c.args.lanes.now (map (λ list. list.items) c.args.lists.items) c.requires.answered (map (λ list. list.items) c.loop-done.lists.items) c.loop-done.replies.items c.loop-done.done c.loop-done.invariant.far (omega arith) in
    omega (arith, size, low)

pub take_last-requires-clause-some : goal.take_last-requires-clause-some
take_last-requires-clause-some c =
    some c.args.lanes.now (map (λ list. list.items) c.args.lists.items) c.requires.answered (map (λ list. list.items) c.loop-done.lists.items) c.loop-done.replies.items c.loop-done.done c.loop-done.invariant.far (omega arith)

pub loop-done-preserved : goal.loop-done-preserved
loop-done-preserved c = record {
  far = goes_on c.args.lanes.now (map (λ list. list.items) c.args.lists.items) c.requires.answered (map (λ list. list.items) c.loop-done.lists.items) c.loop-done.replies.items c.loop-done.done c.loop-done.invariant.far (omega arith)
      (map (λ list. list.items) c.take_last.new.lists.items) c.take_last.result c.take_last.ensures (c.loop-done.done + 1) (λ i. c.loop-done.done + 1) _ c.push_reserved.ensures.items;
  room = omega (arith, c.loop-done.invariant.room, c.push_reserved.ensures.capacity);
}

pub returns : goal.returns
returns c =
    let far = c.loop-done.invariant.far in
    subst (λ (l : List Reply). AreInOrder c.args.lanes.now (map (λ list. list.items) c.args.lists.items) l) (sym c.reverse.ensures.items)
    (ends c.args.lanes.now (map (λ list. list.items) c.args.lists.items) c.requires.answered (map (λ list. list.items) c.loop-done.lists.items) c.loop-done.replies.items c.loop-done.done far (omega arith))
