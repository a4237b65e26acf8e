use Rattle.std.proofs.Common.{◌≡◌, List, [], ◌∷◌, ◌++◌, refl, subst, rules}
use Rattle.history_frame.specs.declared.events.Sent.{Sent}
use Rattle.history_frame.specs.Effects.{happened as made_of}
use Rattle.history_walk.proofs.Takes.{is_next, made_reply, may_step, stands_more}
use Rattle.history_walk.proofs.walker.Walker.take.Goals as goal

pub step_at-requires-clause-stand : goal.step_at-requires-clause-stand
step_at-requires-clause-stand c =
    let input = c.args.happened.now.input in
    (c.args.self.now.run, c.requires.may.0, c.requires.may.1, may_step c.args.self.now c.requires.may.0 c.requires.may.1 c.args.node.0 input c.requires.may.2)

pub is_reply-requires : goal.is_reply-requires
is_reply-requires c =
    let input = c.args.happened.now.input in
    made_reply c.args.self.now c.requires.may.0 c.requires.may.1 c.args.node.0 input c.requires.may.2 c.requires.node c.args.happened.now.mark (made_of input c.in_ok-effect.effect)
    c.step_at.new.out.letters c.step_at.new.nodes.items
    (c.in_ok-effect.ensures c.args.self.now.run c.requires.may.0 c.requires.may.1 (may_step c.args.self.now c.requires.may.0 c.requires.may.1 c.args.node.0 input c.requires.may.2))

pub returns-clause-taken : goal.returns-clause-taken
returns-clause-taken c kept events may =
    let happened = c.args.happened.now in
    let made = made_of happened.input c.in_ok-effect.effect in
    let stepped = c.in_ok-effect.ensures c.args.self.now.run kept events (may_step c.args.self.now kept events c.args.node.0 happened.input may) in
    let mark = c.if-not-is_mark.ensures.0 refl in
    let reply = c.if-not-is_reply.ensures.0 refl in
    let pushed = subst (λ (l : List Sent). c.push.new.self.items ≡ c.args.self.now.sent.items ++ l ∷ []) c.fitted.ensures c.in_ok-push.ensures.items in
    let alike : happened.outputs ≡ made.outputs = search rules in
    let next = is_next c.args.self.now kept events c.args.node.0 happened.input may c.requires.node happened.mark made c.step_at.new.out.letters c.step_at.new.nodes.items stepped
    happened.outputs happened.reply mark reply alike in (
      next,
      stands_more c.args.self.now kept events c.args.node.0 happened.input may c.requires.node happened.mark made c.step_at.new.out.letters c.step_at.new.nodes.items stepped
          happened.outputs happened.reply _ refl refl refl pushed alike c.in_ok-take.ensures mark c.requires.spelled next,
    )
