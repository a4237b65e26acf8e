use Rattle.std.proofs.Common.{◌≡◌, ◌∙◌, ap, rules}
use Rattle.std.proofs.lemmas.Fn.{filter_same}
use Rattle.paxos_model.specs.Learner.{Wish, is_left, left_wishes}
use Rattle.finaliser.specs.Wishing.{Wishing}
use Rattle.finaliser.proofs.Left.{left_is}
use Rattle.finaliser.proofs.wishes.Wishes.seen.Goals as goal

pub returns-clause-wishes : goal.returns-clause-wishes
returns-clause-wishes c =
    filter_same _ (is_left c.args.slot.0 c.args.value.now) _ (λ x b f' k. search rules) _ _ c.retain.ensures.filtered
    ∙ left_is _ c.args.slot.0 c.args.value.now
    ∙ ap (λ (w : Wishing). left_wishes w.wishes c.args.slot.0 c.args.value.now) c.self.view_is
