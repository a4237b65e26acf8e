use Rattle.std.proofs.Common.{◌≡◌, [], ap, sym, subst, ◌∙◌, arith}
use Rattle.history_frame.specs.Spelling.{IsHappened, event_size}
use Rattle.cluster.proofs.Sizes.{alone, alone_is, alone_size, input_short}
use Rattle.cluster.proofs.sizing.front_of.Goals as goal

pub event_length-front-requires : goal.event_length-front-requires
event_length-front-requires c =
    let none : c.of.result ≡ [] = c.of.ensures ∙ c.new.ensures.items in
    subst (λ outputs. IsHappened (record (alone c.args.input) { outputs = outputs })) (sym none) (alone_is c.args.input c.requires)

pub returns-clause-small : goal.returns-clause-small
returns-clause-small c =
    let none : c.of.result ≡ [] = c.of.ensures ∙ c.new.ensures.items in
    let size = c.event_length-front.ensures ∙ ap (λ outputs. event_size (record (alone c.args.input) { outputs = outputs })) none in
    omega (arith, size, alone_size c.args.input, input_short c.args.input c.requires)

pub returns-clause-front : goal.returns-clause-front
returns-clause-front c =
    let none : c.of.result ≡ [] = c.of.ensures ∙ c.new.ensures.items in
    let size = c.event_length-front.ensures ∙ ap (λ outputs. event_size (record (alone c.args.input) { outputs = outputs })) none in
    omega (arith, size, alone_size c.args.input)
