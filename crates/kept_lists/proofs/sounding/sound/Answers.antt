use Rattle.std.proofs.Common.{below_more, arith}
use Rattle.log_base.specs.Shape.{shape}
use Rattle.kept_lists.proofs.First.{first_told, one_breaks, one_is_sound, sound_told}
use Rattle.kept_lists.proofs.sounding.sound.Goals as goal

pub loop-index-preserved : goal.loop-index-preserved
loop-index-preserved c = below_more _ _ c.loop-index.invariant
    (one_is_sound (shape c.args.config.now) c.args.run c.args.kept.now c.of-lists.result.kept.now c.loop-index.index c.is_sound_one.result c.of-lists.ensures
    c.is_sound_one.ensures c.if-not-is_sound_one.false)

pub returns-then-not-is_sound_one-clause-sound : goal.returns-then-not-is_sound_one-clause-sound
returns-then-not-is_sound_one-clause-sound c =
    (first_told (shape c.args.config.now) c.args.run c.args.kept.now c.loop-index.index c.loop-index-test.true
    (one_breaks (shape c.args.config.now) c.args.run c.args.kept.now c.of-lists.result.kept.now c.loop-index.index c.is_sound_one.result c.of-lists.ensures
    c.is_sound_one.ensures c.if-not-is_sound_one.true)
    c.loop-index.invariant).0

pub returns-then-not-is_sound_one-clause-breaks : goal.returns-then-not-is_sound_one-clause-breaks
returns-then-not-is_sound_one-clause-breaks c =
    (first_told (shape c.args.config.now) c.args.run c.args.kept.now c.loop-index.index c.loop-index-test.true
    (one_breaks (shape c.args.config.now) c.args.run c.args.kept.now c.of-lists.result.kept.now c.loop-index.index c.is_sound_one.result c.of-lists.ensures
    c.is_sound_one.ensures c.if-not-is_sound_one.true)
    c.loop-index.invariant).1

pub returns-clause-sound : goal.returns-clause-sound
returns-clause-sound c = (sound_told (shape c.args.config.now) c.args.run c.args.kept.now (λ index lt. c.loop-index.invariant index (omega (arith, c.loop-index-test.false)))).0

pub returns-clause-breaks : goal.returns-clause-breaks
returns-clause-breaks c = (sound_told (shape c.args.config.now) c.args.run c.args.kept.now (λ index lt. c.loop-index.invariant index (omega (arith, c.loop-index-test.false)))).1
