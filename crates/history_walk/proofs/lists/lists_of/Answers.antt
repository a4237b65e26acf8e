use Rattle.std.proofs.Common.{◌<◌, length, sym, subst, arith, rules}
use Rattle.std.proofs.lemmas.Iterator.Adapters.{YieldsList-from_vec}
use Rattle.std.proofs.lemmas.Iterator.Consumers.{YieldsList-so_far, YieldsList-turn}
use Rattle.storage_node.proofs.Elements.{split-here}
use Rattle.segment_journal.specs.Journalled.{Journalled}
use Rattle.history_walk.proofs.Keeping.{lists_more, short_next}
use Rattle.history_walk.proofs.lists.lists_of.Goals as goal

pub keep-requires-clause-within : goal.keep-requires-clause-within
keep-requires-clause-within c =
    let road = YieldsList-from_vec {s = c.into_iter-one-iterator.result} c.args.kept.items (search rules) (search rules) in
    let so_far = YieldsList-so_far road c.loop-one.yielded c.loop-one.one-iterator c.loop-one.yielded_by in
    let turn = YieldsList-turn road c.loop-one.yielded c.loop-one.one-iterator c.loop-one.yielded_by c.next.result c.next.new.self c.in-Some.one c.in-Some.is c.next.ensures.steps in
    let next = short_next c.args.count c.args.kept.items c.loop-one.yielded _ c.in-Some.one c.requires (split-here c.loop-one.yielded c.args.kept.items c.in-Some.one so_far turn.0 turn.1) in
    let low = next.0 in
    let size = c.loop-one.invariant.all in
    omega arith

pub keep-requires-clause-few : goal.keep-requires-clause-few
keep-requires-clause-few c memory there =
    let road = YieldsList-from_vec {s = c.into_iter-one-iterator.result} c.args.kept.items (search rules) (search rules) in
    let so_far = YieldsList-so_far road c.loop-one.yielded c.loop-one.one-iterator c.loop-one.yielded_by in
    let turn = YieldsList-turn road c.loop-one.yielded c.loop-one.one-iterator c.loop-one.yielded_by c.next.result c.next.new.self c.in-Some.one c.in-Some.is c.next.ensures.steps in
    let next = short_next c.args.count c.args.kept.items c.loop-one.yielded _ c.in-Some.one c.requires (split-here c.loop-one.yielded c.args.kept.items c.in-Some.one so_far turn.0 turn.1) in
    subst (λ (j : Journalled). length j.payloads < 16777216) (sym (c.loop-one.invariant.each c.in-Some.one.disk memory (omega arith) there)) next.2

pub keep-requires-clause-size : goal.keep-requires-clause-size
keep-requires-clause-size c =
    let road = YieldsList-from_vec {s = c.into_iter-one-iterator.result} c.args.kept.items (search rules) (search rules) in
    let so_far = YieldsList-so_far road c.loop-one.yielded c.loop-one.one-iterator c.loop-one.yielded_by in
    let turn = YieldsList-turn road c.loop-one.yielded c.loop-one.one-iterator c.loop-one.yielded_by c.next.result c.next.new.self c.in-Some.one c.in-Some.is c.next.ensures.steps in
    (short_next c.args.count c.args.kept.items c.loop-one.yielded _ c.in-Some.one c.requires (split-here c.loop-one.yielded c.args.kept.items c.in-Some.one so_far turn.0 turn.1)).1

pub loop-one-preserved : goal.loop-one-preserved
loop-one-preserved c =
    let road = YieldsList-from_vec {s = c.into_iter-one-iterator.result} c.args.kept.items (search rules) (search rules) in
    let so_far = YieldsList-so_far road c.loop-one.yielded c.loop-one.one-iterator c.loop-one.yielded_by in
    let turn = YieldsList-turn road c.loop-one.yielded c.loop-one.one-iterator c.loop-one.yielded_by c.next.result c.next.new.self c.in-Some.one c.in-Some.is c.next.ensures.steps in
    let next = short_next c.args.count c.args.kept.items c.loop-one.yielded _ c.in-Some.one c.requires (split-here c.loop-one.yielded c.args.kept.items c.in-Some.one so_far turn.0 turn.1) in
    lists_more c.loop-one.journals.items c.keep.new.journals.items c.loop-one.yielded c.in-Some.one c.args.count c.loop-one.invariant next.0 c.in_ok-keep.ensures.all c.in_ok-keep.ensures.others c.in_ok-keep.ensures.added
