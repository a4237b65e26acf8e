use Rattle.std.proofs.Common.{◌≡◌, ◌+◌, ◌∷◌, [], ℕ, length, length-append, sym, ap, ◌∙◌, subst}
use Rattle.cluster.specs.Tested.{AreEmpty}
use Rattle.cluster.proofs.Empty.{empty_push}
use Rattle.lane_work.proofs.tests.journals.Goals as goal

pub loop-segment-preserved : goal.loop-segment-preserved
loop-segment-preserved c =
    let items = c.loop-segment.journals.items in
    let one = c.in_ok-journal.journal in
    subst (λ l. AreEmpty (λ j. j.journal) l × (length l ≡ c.loop-segment.segment + 1)) (sym c.in_ok-push.ensures.items) (
      empty_push (λ j. j.journal) items one c.loop-segment.invariant.0 c.in_ok-journal.ensures,
      length-append items (one ∷ []) ∙ ap (λ (n : ℕ). n + 1) c.loop-segment.invariant.1,
    )
