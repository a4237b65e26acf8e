use Rattle.std.proofs.Common.{◌≡◌, IsTrue, false, true, refl}
use Rattle.record_frame.specs.Entries.{entry_of}
use Rattle.history_walk.proofs.Noting.{like_may, may_like, may_nothing, not_a_submit, not_of_run, submits_is}
use Rattle.node_model.specs.Legal.{submitted}
use Rattle.std.proofs.Common.{ap, ◌∙◌}
use Rattle.history_walk.proofs.submissions.Submissions.may_be_called.Goals as goal

false-true : IsTrue false → ⊥
false-true t = let e : false ≡ true = t in cc

pub returns-then-not-is_of_run : goal.returns-then-not-is_of_run
returns-then-not-is_of_run c = λ before event noted node input.
    let submits = submits_is event c.args.call.now c.in-Submit.client c.in-Submit.number c.in-Submit.bytes input c.in-Submit.is in
    (λ t. absurd (false-true t), λ may. absurd (not_of_run c.args.run before event _ submits (λ is. false-true (c.if-not-is_of_run.ensures.1 is)) may))

pub returns-in-Submit : goal.returns-in-Submit
returns-in-Submit c = λ before event noted node input.
    let one = entry_of c.in-Submit.client c.in-Submit.number c.in-Submit.bytes in
    let submits = submits_is event c.args.call.now c.in-Submit.client c.in-Submit.number c.in-Submit.bytes input c.in-Submit.is in (
      λ t. like_may c.args.run before event one _ c.args.node.0 submits node (noted one.client.0 one.number.0) (c.if-not-is_of_run.ensures.0 refl) (c.is_like.ensures.0 t),
      λ may. c.is_like.ensures.1 (may_like c.args.run before event one _ c.args.node.0 submits node (noted one.client.0 one.number.0) may),
    )

pub returns-in_default : goal.returns-in_default
returns-in_default c = λ before event noted node input.
    (λ t. may_nothing c.args.run before event (ap submitted input ∙ not_a_submit c.args.call.now c.in_default.not-Submit), λ may. refl)
