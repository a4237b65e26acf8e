use Rattle.std.proofs.Common.{arith, length, sym, ap, subst}
use Rattle.counted_node.specs.Counted.{counted_meanings, counted_node}
use Rattle.history_frame.specs.declared.inputs.Input.{Input}
use Rattle.history_frame.specs.Spelling.{input_spelling}
use Rattle.cluster.specs.Stepping.{Acts}
use Rattle.cluster.proofs.Sizes.{acts_parts, acts_single, acts_small}
use Rattle.cluster.proofs.stepping.act.Goals as goal

pub step_node-requires-clause-fits : goal.step_node-requires-clause-fits
step_node-requires-clause-fits g c =
    subst (λ (x : Input). counted_meanings.fits (counted_node g.J.Journal.state c.args.node.now) x) (sym c.front_of-input.ensures.input) c.requires.fits

pub letters_size-requires : goal.letters_size-requires
letters_size-requires g c = let small = acts_small _ _ _ _ _ c.in_ok-happened.ensures.acts in omega (arith, small)

pub overflow_add-bytes : goal.overflow_add-bytes
overflow_add-bytes g c =
    let small = acts_small _ _ _ _ _ c.in_ok-happened.ensures.acts in
    let same = ap (λ (x : Input). length (input_spelling x)) c.front_of-input.ensures.input in
    omega (arith, small, same, c.front_of-input.ensures.front, c.letters_size.ensures)

pub reply_size-requires-clause-single : goal.reply_size-requires-clause-single
reply_size-requires-clause-single g c = acts_single _ _ _ _ _ c.in_ok-happened.ensures.acts

pub reply_size-requires-clause-fits : goal.reply_size-requires-clause-fits
reply_size-requires-clause-fits g c = let small = acts_small _ _ _ _ _ c.in_ok-happened.ensures.acts in omega (arith, small)

pub overflow_add-bytes-2 : goal.overflow_add-bytes-2
overflow_add-bytes-2 g c =
    let small = acts_small _ _ _ _ _ c.in_ok-happened.ensures.acts in
    let same = ap (λ (x : Input). length (input_spelling x)) c.front_of-input.ensures.input in
    omega (arith, small, same, c.front_of-input.ensures.front, c.letters_size.ensures, c.reply_size.ensures)

pub returns-clause-acts : goal.returns-clause-acts
returns-clause-acts g c =
    subst (λ (x : Input). Acts (counted_node g.J.Journal.state c.args.node.now) (counted_node g.J.Journal.state c.step_node.new.node) x c.in_ok-happened.happened c.step_node.new.out.letters)
    c.front_of-input.ensures.input c.in_ok-happened.ensures.acts

pub returns-clause-bytes : goal.returns-clause-bytes
returns-clause-bytes g c =
    let parts = acts_parts _ _ _ _ _ c.in_ok-happened.ensures.acts in
    let same = ap (λ (x : Input). length (input_spelling x)) c.front_of-input.ensures.input in
    omega (arith, parts, same, c.front_of-input.ensures.front, c.letters_size.ensures, c.reply_size.ensures)
