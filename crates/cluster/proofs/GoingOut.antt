-- Posting letters one after another.
use Rattle.std.proofs.Common.{◌≡◌, ℕ, suc, ◌+◌, List, [], ◌∷◌, ◌++◌, length, refl, ap, subst, ◌∙◌, arith}
use Rattle.atomic_table.specs.Table.{Me}
use Rattle.tied_cells.specs.declared.board.Stored.{Stored}
use Rattle.tied_cells.specs.declared.board.View.{View}
use Rattle.cluster.specs.declared.posting.Sending.{Sending}
use Rattle.cluster.specs.Posting.{output_letter, lost_by, but_mail, IsMail, GoesOut, AllGoOut}

module _ {A S H : Type 0} where
  -- nothing was posted, and one thing after another
  pub mail_none : (me : Me (Stored A H) (View S H)) → IsMail me me
  mail_none me = refl

  pub mail_more : (old between new : Me (Stored A H) (View S H)) → IsMail old between → IsMail between new → IsMail old new
  mail_more old between new first second = second ∙ ap (λ (x : Me (Stored A H) (View S H)). but_mail x new) first

  -- one output more
  pub one_more_out : (nodes place index : ℕ) (outputs : List (ℕ × List ℕ)) (output : ℕ × List ℕ) (old between new : Me (Stored A H) (View S H)) (lost : ℕ) (sending : Sending)
      → AllGoOut nodes place index outputs old between lost → GoesOut nodes output.0 (output_letter place (index + length outputs) output) between new sending
      → AllGoOut nodes place index (outputs ++ output ∷ []) old new (lost + lost_by sending)
  one_more_out nodes place index [] output old between new lost sending all one =
      let here : index + 0 ≡ index = omega arith in
      let none : lost + lost_by sending ≡ lost_by sending + 0 = let l = all.1 in omega arith in
      let sent = subst (λ (me : Me (Stored A H) (View S H)). GoesOut nodes output.0 (output_letter place index output) me new sending) all.0
      (subst (λ (j : ℕ). GoesOut nodes output.0 (output_letter place j output) between new sending) here one) in
      (new, sending, 0, sent, (refl, refl), none)
  one_more_out nodes place index (first ∷ outputs) output old between new lost sending all one =
      let here : index + suc (length outputs) ≡ suc index + length outputs = omega arith in
      let rest = one_more_out nodes place (suc index) outputs output all.0 between new all.2 sending all.4
      (subst (λ (j : ℕ). GoesOut nodes output.0 (output_letter place j output) between new sending) here one) in
      let count : lost + lost_by sending ≡ lost_by all.1 + (all.2 + lost_by sending) = let l = all.5 in omega arith in
      (all.0, all.1, all.2 + lost_by sending, all.3, rest, count)
