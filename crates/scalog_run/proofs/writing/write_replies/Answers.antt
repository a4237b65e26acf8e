use Rattle.std.proofs.Common.{ℕ, List, ◌<◌, ◌++◌, length, take, sym, ap, ◌∙◌, append_assoc, add-one, arith, refl}
use Rattle.std.specs.Prelude.{slice_index}
use Rattle.reply_frame.specs.Replies.{reply_spelling}
use Rattle.scalog_run.specs.Output.{lane_frames}
use Rattle.scalog_run.proofs.Frames.{frames_more}
use Rattle.scalog_run.proofs.writing.write_replies.Goals as goal

-- the frame of one reply more is written
pub loop-at-preserved : goal.loop-at-preserved
loop-at-preserved c =
    let lanes = c.args.lanes.now in
    let replies = c.args.replies.now in
    let at = c.loop-at.at in
    let lane = slice_index lanes at in
    let reply = c.index-replies-at.result in
    let below : at < length lanes = omega arith in
    let within : at < length replies = omega arith in
    let more = frames_more lanes replies at lane reply below within refl c.index-replies-at.is in
    rw add-one
    (c.in_ok-write_reply.ensures.ok
    ∙ ap (λ (l : List ℕ). l ++ reply_spelling lane reply) c.loop-at.invariant
    ∙ append_assoc c.args.out.now.items (lane_frames (take at lanes) (take at replies)) (reply_spelling lane reply)
    ∙ ap (λ (l : List ℕ). c.args.out.now.items ++ l) (sym more))
