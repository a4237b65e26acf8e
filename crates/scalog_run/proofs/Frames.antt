-- The frames of replies, one after another.
use Rattle.std.proofs.Common.{◌≡◌, ℕ, zero, suc, ◌<◌, List, [], ◌∷◌, ◌++◌, length, map, take, refl, sym, ap, ◌∙◌, append_assoc, append-nil, arith}
use Rattle.std.specs.Prelude.{slice_index, slice_index_or}
use Rattle.command_frame.specs.declared.items.Item.{Item}
use Rattle.command_frame.specs.Streams.{unplaced}
use Rattle.lane_work.specs.Items.{lane_of}
use Rattle.reply_frame.specs.declared.replies.Reply.{Reply, Stream'}
use Rattle.reply_frame.specs.Replies.{reply_spelling}
use Rattle.scalog_run.specs.Output.{lane_frames, reply_frames}

-- the frame of one reply more
pub frames_more : (lanes : List ℕ) (replies : List Reply) (n lane : ℕ) (reply : Reply) → n < length lanes → n < length replies
    → lane ≡ slice_index lanes n → reply ≡ slice_index_or replies n reply
    → lane_frames (take (suc n) lanes) (take (suc n) replies) ≡ lane_frames (take n lanes) (take n replies) ++ reply_spelling lane reply
frames_more [] replies n lane reply a b here there = absurd (omega arith)
frames_more (first ∷ lanes) [] n lane reply a b here there = absurd (omega arith)
frames_more (first ∷ lanes) (one ∷ replies) zero lane reply a b here there =
    append-nil (reply_spelling first one)
    ∙ ap (λ (l : ℕ). reply_spelling l one) (sym here) ∙ ap (λ (r : Reply). reply_spelling lane r) (sym there)
frames_more (first ∷ lanes) (one ∷ replies) (suc n) lane reply a b here there =
    ap (λ (l : List ℕ). reply_spelling first one ++ l) (frames_more lanes replies n lane reply (omega arith) (omega arith) here there)
    ∙ sym (append_assoc (reply_spelling first one) (lane_frames (take n lanes) (take n replies)) (reply_spelling lane reply))

-- where the last answers of streams stand in memory changes no frame
spelled_placed : (lane : ℕ) (reply : Reply) → reply_spelling lane (unplaced reply) ≡ reply_spelling lane reply
spelled_placed lane (Stream' from entries at last) = refl
spelled_placed lane reply = refl

pub frames_placed : (items : List Item) (replies : List Reply) → reply_frames items (map unplaced replies) ≡ reply_frames items replies
frames_placed [] replies = refl
frames_placed (item ∷ items) [] = refl
frames_placed (item ∷ items) (reply ∷ replies) =
    ap (λ (l : List ℕ). l ++ reply_frames items (map unplaced replies)) (spelled_placed (lane_of item) reply)
    ∙ ap (λ (l : List ℕ). reply_spelling (lane_of item) reply ++ l) (frames_placed items replies)
