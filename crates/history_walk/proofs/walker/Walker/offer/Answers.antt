use Rattle.std.proofs.Common.{refl, subst, ◌∙◌}
use Rattle.log_base.specs.Shape.{shape}
use Rattle.history_walk.specs.Filling.{IsFilled, filling}
use Rattle.history_walk.specs.Walking.{MayTake, event_of}
use Rattle.history_walk.specs.declared.walker.Following.{Following}
use Rattle.history_walk.proofs.Answering.{taken_answers}
use Rattle.history_walk.proofs.walker.Walker.offer.Goals as goal

pub take-requires-clause-may : goal.take-requires-clause-may
take-requires-clause-may c =
    let events = c.requires.stands.1 in
    let stands = c.requires.stands.2 in
    let input = c.fill.new.input in
    let found = subst (λ (f : Following). IsFilled (shape c.args.self.now.config) c.args.event.now.node.0 events c.args.event.now.happened.input (filling f input)) c.in-Follows.is
    (c.in_ok-fill.ensures events (c.deref.ensures.value ∙ stands.letters)) in (
      c.requires.stands.0,
      events,
      record {
        stands = stands;
        offered = found.1;
        submits = λ mark outputs reply. (c.if-not-may_take.ensures events (event_of events c.args.event.now.node.0 input mark outputs reply) stands.noted refl refl).0 refl;
      },
    )

pub returns-clause-answer : goal.returns-clause-answer
returns-clause-answer c kept events stands at =
    let event = c.args.event.now in
    let input = c.fill.new.input in
    let found = subst (λ (f : Following). IsFilled (shape c.args.self.now.config) event.node.0 events event.happened.input (filling f input)) c.in-Follows.is
    (c.in_ok-fill.ensures events (c.deref.ensures.value ∙ stands.letters)) in
    let may : MayTake c.args.self.now kept events event.node.0 input = record {
      stands = stands;
      offered = found.1;
      submits = λ mark outputs reply. (c.if-not-may_take.ensures events (event_of events event.node.0 input mark outputs reply) stands.noted refl refl).0 refl;
    } in
    taken_answers c.args.self.now kept events event c.take.new.self input c.in_ok-following.following at found.0 (c.in_ok-following.ensures.taken kept events may)
