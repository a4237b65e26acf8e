use Rattle.std.proofs.Common.{◌≡◌, ◌++◌, ℕ, ◌+◌, List, vec_capacity, replicate, sym, subst, ap, ◌∙◌, arith}
use Rattle.event_letters.specs.Letters.{EventLetters, HasSpace}
use Rattle.event_letters.proofs.Spaces.{made_room}
use Rattle.event_letters.proofs.letters.EventLetters.ready.Goals as goal

pub returns-clause-space : goal.returns-clause-space
returns-clause-space c = λ sizes h.
    let all : c.loop.counter ≡ c.args.count = omega (arith, c.loop-test.false, c.loop.auto.counter-end) in
    let rooms : c.loop.out.rooms ≡ c.args.out.now.rooms ++ replicate c.args.count c.args.bytes = c.loop.invariant.rooms ∙ ap (λ (k : ℕ). c.args.out.now.rooms ++ replicate k c.args.bytes) all in
    let new : EventLetters = record { sent = c.reserve.new.self.items; room = c.self.inside.room + c.args.count; longest = vec_capacity c.reserve-2.new.self } in
    subst (λ (l : List ℕ). HasSpace new l (sizes ++ replicate c.args.count c.args.bytes)) (sym rooms)
    (made_room c.args.self.now new c.args.out.now.rooms c.args.count c.args.bytes sizes (search arith) (search arith) (search arith) h)
