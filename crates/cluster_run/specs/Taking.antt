-- Taking the last reply of a lane out of its list.
use Rattle.std.specs.Prelude.{◌≡◌, ℕ, List, [], ◌∷◌, ◌++◌, slice_index_or, slice_set}
use Rattle.reply_frame.specs.declared.replies.Reply.{Reply}

-- The reply was the last in the list of this lane, which has those before it left. The other lists are as they were.
pub record IsTaken (lane : ℕ) (old new : List (List Reply)) (reply : Reply) : Type 0 where
  pub left : List Reply
  pub was : slice_index_or old lane [] ≡ left ++ reply ∷ []
  pub new_is : new ≡ slice_set old lane left
