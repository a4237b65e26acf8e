use Rattle.std.proofs.Common.{arith, ap, length}
use Rattle.std.proofs.lemmas.List.{at_drop_all}
use Rattle.cluster.specs.Sizing.{letters_size}
use Rattle.cluster.proofs.Sizes.{letters_from}
use Rattle.cluster.proofs.sizing.letters_size.Goals as goal

pub overflow_cast-size : goal.overflow_cast-size
overflow_cast-size c =
    let from = letters_from c.args.out.now.letters c.loop-index.index (omega arith) in let inv = c.loop-index.invariant in
    let len = ap length c.bytes.ensures in omega (arith, len)

pub overflow_add-size : goal.overflow_add-size
overflow_add-size c =
    let from = letters_from c.args.out.now.letters c.loop-index.index (omega arith) in let inv = c.loop-index.invariant in
    let len = ap length c.bytes.ensures in omega (arith, len)

pub loop-index-preserved : goal.loop-index-preserved
loop-index-preserved c =
    let from = letters_from c.args.out.now.letters c.loop-index.index (omega arith) in let inv = c.loop-index.invariant in
    let len = ap length c.bytes.ensures in omega (arith, len)

pub returns : goal.returns
returns c =
    let none = at_drop_all letters_size c.args.out.now.letters c.loop-index.index (omega arith) in let inv = c.loop-index.invariant in omega (arith, none)
