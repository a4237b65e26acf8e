use Rattle.std.proofs.Common.{◌<◌, ◌≤◌, length, refl, ap, arith}
use Rattle.std.proofs.lemmas.Option.{slice_get_read}
use Rattle.history_frame.specs.declared.events.Kept.{Kept}
use Rattle.kept_lists.proofs.Places.{below_next, start_here, start_past}
use Rattle.kept_lists.proofs.lists.start_from.Goals as goal

pub loop-index-preserved : goal.loop-index-preserved
loop-index-preserved c =
    let one = c.index-kept-index.result in
    let there = slice_get_read c.args.kept.now (length c.args.kept.now) c.loop-index.index one refl c.loop-index-test.true c.index-kept-index.is in
    let less : one.disk < c.args.disk = omega (arith, ap (λ (k : Kept). k.disk) c.index-kept-index.is) in
    below_next c.args.kept.now c.args.disk c.loop-index.index one c.loop-index.invariant there less

pub returns-then-kept-index : goal.returns-then-kept-index
returns-then-kept-index c =
    let one = c.index-kept-index.result in
    let there = slice_get_read c.args.kept.now (length c.args.kept.now) c.loop-index.index one refl c.loop-index-test.true c.index-kept-index.is in
    let least : c.args.disk ≤ one.disk = omega (arith, ap (λ (k : Kept). k.disk) c.index-kept-index.is) in
    start_here c.args.kept.now c.args.disk c.loop-index.index one c.requires.rise c.loop-index.invariant there least

pub returns : goal.returns
returns c = start_past c.args.kept.now c.args.disk c.loop-index.index c.loop-index.invariant c.loop-index-test.false
