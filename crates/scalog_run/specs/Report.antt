-- What is told of a run that came to its end: its replies and its history, or one line.
use Rattle.std.specs.Prelude.{◌≡◌, ℕ, List, ◌++◌, Bool, true, false, codes, length}
use Rattle.std.specs.Fmt.{decimal}
use Rattle.command_frame.specs.declared.items.Item.{Item}
use Rattle.history_frame.specs.declared.events.History.{History}
use Rattle.history_frame.specs.Spelling.{history_spelling}
use Rattle.log_base.specs.ClusterShape.{Shape}
use Rattle.log_base.specs.Shape.{shape}
use Rattle.quiet_run.specs.declared.outcomes.Driven.{Driven}
use Rattle.quiet_run.specs.Runs.{IsKnownAtMost}
use Rattle.quiet_run.specs.Standing.{job}
use Rattle.schedule_model.specs.Driven.{replies_of}
use Rattle.scalog_run.specs.declared.report.Report.{Report}
use Rattle.scalog_run.specs.declared.report.Report.TheVariants.{Full, Brief}
use Rattle.scalog_run.specs.declared.report.Summary.{Summary}
use Rattle.scalog_run.specs.Output.{reply_frames}

-- the report that is asked for, by whether it is to be brief
abbrev pub report_for : Bool → Report
report_for false = Full
report_for true = Brief

-- ---- the reports of a history

-- the full report: the frames of the replies to the items that drive the history, and then itself
abbrev pub output_of : List Item → History → List ℕ
output_of items history =
    reply_frames items (replies_of (shape history.config) history.run items history.events) ++ history_spelling history

-- the line of a run in brief: each number in decimal behind its name, and a line feed
abbrev pub summary_line : Summary → List ℕ
summary_line summary =
    codes "items " ++ decimal summary.items
    ++ codes " events " ++ decimal summary.events
    ++ codes " slots " ++ decimal summary.slots
    ++ codes " end " ++ decimal summary.end.0
    ++ codes " trim " ++ decimal summary.trim.0 ++ codes "\n"

-- The numbers of a run: its items, its events, and what the lowest of the nodes that know the most values knows after them.
pub record Summarises (config : Shape) (run : ℕ) (items : List Item) (history : History) (summary : Summary) : Type 0 where
  pub items_are : summary.items ≡ length items
  pub events_are : summary.events ≡ length history.events
  pub known : IsKnownAtMost (job config run items history.kept) history.events summary.slots summary.end.0 summary.trim.0

abbrev pub Reports : Report → Shape → ℕ → List Item → History → List ℕ → Type 0
Reports Full config run items history bytes = bytes ≡ output_of items history
Reports Brief config run items history bytes = (summary : Summary) × Summarises config run items history summary × (bytes ≡ summary_line summary)

-- ---- the report of a driven run

abbrev pub summary_of : List Item → Driven → Summary
summary_of items driven = record {
  items = length items;
  events = length driven.history.events;
  slots = driven.known;
  end = driven.end;
  trim = driven.trim;
}

abbrev pub report_bytes : Report → List Item → Driven → List ℕ
report_bytes Full items driven = reply_frames items driven.replies ++ history_spelling driven.history
report_bytes Brief items driven = summary_line (summary_of items driven)
