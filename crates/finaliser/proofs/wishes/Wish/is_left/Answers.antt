use Rattle.std.proofs.Common.{◌≡◌, ◌∙◌, ap, sym, ◌&&◌, nat_le, Bool}
use Rattle.paxos_model.specs.Learner.{Wish, is_left}
use Rattle.finaliser.proofs.Left.{left_of}
use Rattle.finaliser.proofs.wishes.Wish.is_left.Goals as goal
use Rattle.finaliser.proofs.wishes.Wish.is_left.Goals.{then-is_same, else-is_same}

pub returns : goal.returns
returns c =
    let told = ap (is_left c.args.slot.0 c.args.value.now) c.self.view_is in
    let both : (b : Bool) → b ≡ c.is_same.result → (b && nat_le c.self.inside.from c.args.slot.0) ≡ (c.is_same.result && nat_le c.self.inside.from c.args.slot.0) =
    λ b e. ap (λ (s : Bool). s && nat_le c.self.inside.from c.args.slot.0) e in
    elim c.if-is_same.branch [
      | then-is_same w ↦ left_of _ _ _ _ _ c.is_same.ensures (w.result-is ∙ both _ (sym w.if-is_same.true)) ∙ told
      | else-is_same w ↦ left_of _ _ _ _ _ c.is_same.ensures (w.result-is ∙ w.if-is_same.false ∙ both _ (sym w.if-is_same.false)) ∙ told
    ]
