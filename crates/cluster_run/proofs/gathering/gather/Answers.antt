use Rattle.std.proofs.Common.{List, Result, map, slice_get, ap, ◌∙◌}
use Rattle.log_base.specs.declared.outside.Memory.{Memory}
use Rattle.cluster_run.proofs.Ordered.{answers_mapped, are_answered}
use Rattle.cluster_run.proofs.gathering.gather.Goals as goal

pub put_in_order-requires-clause-answered : goal.put_in_order-requires-clause-answered
put_in_order-requires-clause-answered c =
    are_answered c.args.lanes.now c.args.answers.lanes.items (map (λ list. list.items) c.in_ok-lists.lists.items)
    (answers_mapped (λ list. list.items) c.in_ok-lists.lists.items c.args.answers.lanes.items c.in_ok-lists.ensures) c.requires.replied

pub returns : goal.returns
returns c = record {
  lists = map (λ list. list.items) c.in_ok-lists.lists.items;
  answers_are = answers_mapped (λ list. list.items) c.in_ok-lists.lists.items c.args.answers.lanes.items c.in_ok-lists.ensures;
  turned_well = λ k answer there. c.if-not-have_turned.ensures k answer (ap (λ (l : List (Result (Unit {0}) Memory)). slice_get l k) c.deref.ensures.value ∙ there);
  in_order = c.put_in_order.ensures;
}
