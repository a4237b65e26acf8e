-- Letters to a role, and letters of several.
use Rattle.std.proofs.Common.{List, [], ◌∷◌, ◌++◌, sym, subst, inl, inr, ⊎_elim}
use Rattle.history_frame.specs.declared.events.Sent.{Sent}
use Rattle.log_base.specs.ClusterShape.{Shape}
use Rattle.message_frame.specs.declared.messages.Message.{Message}
use Rattle.node_table.specs.declared.role.Role.{Role}
use Rattle.node_table.specs.Numbering.{IsRole, node_of}
use Rattle.node_table.proofs.Roles.{node_of-lt, role_at-node_of}
use Rattle.node_model.specs.Nodes.{letter}
use Rattle.agreement_law.proofs.Elements.{in_append}
use Rattle.safety_law.specs.Letters.{AreGoodLetters, IsGoodLetter, IsGoodMessage}
use Rattle.safety_law.specs.Lists.{Lists}

module _ (config : Shape) (lists : Lists) where
  pub letter_to : (role : Role) (m : Message) → IsRole config role → IsGoodMessage config lists role m → IsGoodLetter config lists (letter (node_of config role) m)
  letter_to role m is h = record {
    within = node_of-lt config role is;
    good = subst (λ (x : Role). IsGoodMessage config lists x m) (sym (role_at-node_of config role is)) h;
  }

  pub none_sent : AreGoodLetters config lists []
  none_sent s a = absurd a

  pub one_sent : (t : Sent) → IsGoodLetter config lists t → AreGoodLetters config lists (t ∷ [])
  one_sent t h s (inl e) = subst (IsGoodLetter config lists) (sym e) h
  one_sent t h s (inr a) = absurd a

  pub first_sent : (t : Sent) (ts : List Sent) → IsGoodLetter config lists t → AreGoodLetters config lists ts → AreGoodLetters config lists (t ∷ ts)
  first_sent t ts h g s (inl e) = subst (IsGoodLetter config lists) (sym e) h
  first_sent t ts h g s (inr a) = g s a

  pub both_sent : (xs ys : List Sent) → AreGoodLetters config lists xs → AreGoodLetters config lists ys → AreGoodLetters config lists (xs ++ ys)
  both_sent xs ys f g s a = ⊎_elim (λ b. f s b) (λ b. g s b) (in_append s xs ys a)
