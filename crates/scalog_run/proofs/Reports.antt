-- The report of a driven run is that of its history.
use Rattle.std.proofs.Common.{◌≡◌, ℕ, List, ◌++◌, map, refl, sym, ap, ◌∙◌}
use Rattle.command_frame.specs.declared.items.Item.{Item}
use Rattle.command_frame.specs.Streams.{unplaced}
use Rattle.history_frame.specs.Spelling.{history_spelling}
use Rattle.log_base.specs.ClusterShape.{Shape}
use Rattle.log_base.specs.Shape.{shape}
use Rattle.quiet_run.specs.declared.outcomes.Driven.{Driven}
use Rattle.quiet_run.specs.Runs.{IsKnownAtMost}
use Rattle.quiet_run.specs.Standing.{job}
use Rattle.reply_frame.specs.declared.replies.Reply.{Reply}
use Rattle.schedule_model.specs.Driven.{replies_of}
use Rattle.scalog_run.specs.declared.report.Report.{Report}
use Rattle.scalog_run.specs.declared.report.Report.TheVariants.{Full, Brief}
use Rattle.scalog_run.specs.Output.{reply_frames}
use Rattle.scalog_run.specs.Report.{Reports, report_bytes, summary_of}
use Rattle.scalog_run.proofs.Frames.{frames_placed}

pub report_is : (report : Report) (config : Shape) (run : ℕ) (items : List Item) (driven : Driven) (bytes : List ℕ)
    → shape driven.history.config ≡ config → driven.history.run ≡ run
    → map unplaced driven.replies ≡ replies_of config run items driven.history.events
    → IsKnownAtMost (job config run items driven.history.kept) driven.history.events driven.known driven.end.0 driven.trim.0
    → bytes ≡ report_bytes report items driven → Reports report config run items driven.history bytes
report_is Full config run items driven bytes config_is run_is replies known is =
    let history = driven.history in
    is
    ∙ ap (λ (l : List ℕ). l ++ history_spelling history) (sym (frames_placed items driven.replies))
    ∙ ap (λ (rs : List Reply). reply_frames items rs ++ history_spelling history)
    (replies
    ∙ ap (λ (s : Shape). replies_of s run items history.events) (sym config_is)
    ∙ ap (λ (n : ℕ). replies_of (shape history.config) n items history.events) (sym run_is))
report_is Brief config run items driven bytes config_is run_is replies known is =
    (summary_of items driven, record { items_are = refl; events_are = refl; known = known }, is)
