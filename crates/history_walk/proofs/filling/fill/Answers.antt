use Rattle.std.proofs.Common.{◌≡◌, sym, subst, rules}
use Rattle.std.specs.Prelude.{is_some, if◌then◌else◌}
use Rattle.history_frame.specs.declared.inputs.Input.{Input}
use Rattle.history_frame.specs.declared.inputs.Input.TheVariants.{Deliver}
use Rattle.log_base.specs.Shape.{shape}
use Rattle.history_walk.specs.Filling.{IsFilled, filling}
use Rattle.history_walk.specs.declared.walker.Following.TheVariants.{Follows, Breaks}
use Rattle.history_walk.proofs.Filled.{letter_told}
use Rattle.history_walk.proofs.filling.fill.Goals as goal

pub returns-in-Deliver : goal.returns-in-Deliver
returns-in-Deliver c events e =
    let told = c.letter_to.new.message in
    let following = c.following_of.result in
    let is : following ≡ (if is_some told then Follows else Breaks) = search rules in
    subst (λ (i : Input). IsFilled (shape c.args.config.now) c.args.node.0 events i (filling following (Deliver c.in-Deliver.place c.in-Deliver.index told))) (sym c.in-Deliver.is)
    (letter_told events c.args.node.0 c.in-Deliver.place c.in-Deliver.index (shape c.args.config.now) c.args.sent.now c.in-Deliver.message told following e
    c.in_ok-letter_to-in-Deliver.ensures is)
