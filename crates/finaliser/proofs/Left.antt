-- Which wishes a decision leaves.
use Rattle.std.proofs.Common.{◌≡◌, ℕ, Bool, true, false, not, ◌&&◌, ◌↔◌, nat_le, IsTrue, List, refl, ap, ap₂, sym, ◌∙◌}
use Rattle.std.specs.List.{filter}
use Rattle.record_frame.specs.declared.values.Value.{Value}
use Rattle.paxos_model.specs.Learner.{Wish, is_left, left_wishes}
use Rattle.paxos_model.proofs.Same.{same_value-tested}

pub left_is : (wishes : List Wish) (slot : ℕ) (value : Value) → filter (is_left slot value) wishes ≡ left_wishes wishes slot value
unfolding left_wishes
left_is wishes slot value = refl

-- A wish is left unless it is of the value, and open from the slot on or from an earlier one.
pub left_of : (wish : Wish) (slot : ℕ) (value : Value) (same both : Bool) → IsTrue same ↔ (wish.value ≡ value)
    → both ≡ (same && nat_le wish.from slot) → not both ≡ is_left slot value wish
left_of wish slot value same both says e =
    ap not (e ∙ ap (λ (b : Bool). b && nat_le wish.from slot) (same_value-tested same wish.value value says))
