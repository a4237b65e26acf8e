use Rattle.std.proofs.Common.{List, length, ap, sym, ◌∙◌}
use Rattle.std.proofs.lemmas.List.{length-map}
use Rattle.command_frame.specs.Streams.{unplaced}
use Rattle.reply_frame.specs.declared.replies.Reply.{Reply}
use Rattle.log_base.specs.Shape.{shape}
use Rattle.scalog_run.specs.declared.report.Report.{Report}
use Rattle.scalog_run.specs.Report.{report_bytes, report_for}
use Rattle.scalog_run.proofs.Reports.{report_is}
use Rattle.scalog_run.proofs.answering.answer_items.Goals as goal

-- each item has a reply
pub bytes-requires-clause-each : goal.bytes-requires-clause-each
bytes-requires-clause-each g c =
    let replies = c.in_ok-driven.driven.replies in
    sym (length-map replies unplaced) ∙ ap (λ (l : List Reply). length l) c.in_ok-driven.ensures.replies ∙ c.in_ok-driven.ensures.whole.each

-- the output is the report of the history
pub returns-clause-output : goal.returns-clause-output
returns-clause-output g c =
    let whole = c.in_ok-driven.ensures.whole in
    let driven = c.in_ok-driven.driven in
    let options = c.args.options.now in
    record {
      history = driven.history;
      whole = whole;
      reports = report_is (report_for options.brief) (shape options.config) options.run c.args.items.now driven _ whole.config_is whole.run_is
          c.in_ok-driven.ensures.replies c.in_ok-driven.ensures.known
          (c.in_ok-bytes.ensures ∙ ap (λ (report : Report). report_bytes report c.args.items.now driven) c.of.ensures);
    }
