use Rattle.std.proofs.Common.{ℕ, List, ◌++◌, ap, ◌∙◌}
use Rattle.history_frame.specs.Spelling.{history_spelling}
use Rattle.reply_frame.specs.declared.replies.Reply.{Reply}
use Rattle.scalog_run.specs.Output.{lane_frames}
use Rattle.scalog_run.proofs.serving.serve_items.Goals as goal

-- the output is written
pub returns-in-Ok-clause-output : goal.returns-in-Ok-clause-output
returns-in-Ok-clause-output g c =
    let answered = c.in_ok-history.field-0 in
    record {
      history = answered.history;
      replies = answered.replies;
      served = c.in_ok-history.ensures.served;
      output_is = c.in-Ok.ensures
          ∙ ap (λ (replies : List Reply). lane_frames c.args.lanes.now replies ++ history_spelling answered.history) c.get.ensures
          ∙ ap (λ (lanes : List ℕ). lane_frames lanes answered.replies ++ history_spelling answered.history) c.requires.lanes;
    }
