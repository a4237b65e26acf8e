use Rattle.std.proofs.Common.{◌≡◌, ℕ, List, ◌++◌, Ok, sym, ap, ◌∙◌, arith}
use Rattle.log_base.specs.ClusterShape.{Shape}
use Rattle.log_base.specs.Shape.{shape}
use Rattle.log_base.specs.declared.numbers.NodeId.{NodeId}
use Rattle.record_frame.proofs.FieldLaws.{ok_is}
use Rattle.reply_frame.specs.Frames.{frame}
use Rattle.reply_frame.proofs.FrameLaws.{one_frame}
use Rattle.history_frame.specs.declared.events.Event.{Event}
use Rattle.history_frame.specs.Frames.{IsEventBody}
use Rattle.history_frame.specs.Reading.{ToldHappened, happened_told, head_of, kept_of, event_of}
use Rattle.history_frame.proofs.HappenedLaws.{IsRight, event_again, kept_again, head_again}
use Rattle.history_frame.proofs.laws.one_history.Goals as goal

pub returns-clause-frame : goal.returns-clause-frame
returns-clause-frame c = λ stage events piece other text more rest left one two e.
    let whole : frame one.kind one.body ++ rest ≡ frame two.kind two.body ++ left =
    ap (λ (l : List ℕ). l ++ rest) (sym one.text_is) ∙ e ∙ ap (λ (l : List ℕ). l ++ left) two.text_is in
    let same = one_frame one.kind two.kind one.body two.body rest left (omega (arith, one.size)) (omega (arith, two.size)) whole in
    (one.text_is ∙ ap (λ (k : ℕ). frame k one.body) same.kind ∙ ap (frame two.kind) same.body ∙ sym two.text_is, same.rest)

read_event : (place : ℕ) (body : List ℕ) (event : Event) → IsEventBody place body event → event_of body ≡ Ok (event.node, happened_told event.happened)
read_event place body event is =
    let right : IsRight event.happened = record { input = is.is.input; few = is.is.few; outputs = is.is.outputs; reply = is.is.reply } in
    ap event_of is.text ∙ event_again event.node event.happened is.fits.node right is.fits.happened is.untold

pub returns-clause-event : goal.returns-clause-event
returns-clause-event c = λ place body event other one two.
    let same = ok_is (event.node, happened_told event.happened) (other.node, happened_told other.happened) (sym (read_event place body event one) ∙ read_event place body other two) in
    (one.at_place ∙ sym two.at_place, ap (λ (x : NodeId × ToldHappened). x.0) same, ap (λ (x : NodeId × ToldHappened). x.1) same)

pub returns-clause-kept : goal.returns-clause-kept
returns-clause-kept c = λ least body kept other one two.
    ok_is kept other (sym (ap kept_of one.text ∙ kept_again kept one.fits) ∙ ap kept_of two.text ∙ kept_again other two.fits)

pub returns-clause-head : goal.returns-clause-head
returns-clause-head c = λ body config other run more one two.
    let same = ok_is (shape config, run) (shape other, more)
    (sym (ap head_of one.text ∙ head_again (shape config) run config.in_range one.some_run one.run_fits) ∙ ap head_of two.text ∙ head_again (shape other) more other.in_range two.some_run two.run_fits) in
    (ap (λ (x : Shape × ℕ). x.0) same, ap (λ (x : Shape × ℕ). x.1) same)
