use Rattle.std.proofs.Common.{Bor, ◌≡◌, ◌∷◌, ◌∙◌, ◌<◌, List, ℕ, None, length, map, ap, rules, subst}
use Rattle.std.specs.List.{AllByRecursion}
use Rattle.std.specs.Prelude.{slice_index_or, []}
use Rattle.std.proofs.lemmas.Result.{IfOk-weaker}
use Rattle.command_frame.specs.Items.{IsItem}
use Rattle.command_frame.specs.declared.items.Item.TheVariants.{Fault as FaultItem}
use Rattle.item_course.specs.Pairs.{sent_again}
use Rattle.log_base.specs.Shape.{shape}
use Rattle.schedule_model.specs.declared.duties.PutOff.{PutOff}
use Rattle.schedule_model.specs.Courses.{Scene, client_of, last_number, line_course, resubmitted}
use Rattle.schedule_model.specs.Holding.{questions_of}
use Rattle.schedule_model.specs.Scheduling.{Scheduled, begins}
use Rattle.serial_schedule.specs.Lanes.{draws_of, primaries_of, run_of}
use Rattle.serial_schedule.proofs.Drawing.{lent_at, line_is}
use Rattle.serial_schedule.proofs.schedule.Schedule.line.Goals as goal

pub returns : goal.returns
returns c =
    let inside = c.self.inside in
    let config = shape inside.config in
    let lanes = inside.lanes.items in
    let lane = c.args.lane in
    let line = c.args.fault.now in
    let records = map (λ (r : Bor (List ℕ)). r.now) inside.records.items in
    let items : inside.items.now ≡ FaultItem lane line ∷ c.requires.0 = ap (λ (s : Scheduled). s.items) c.self.view_is ∙ c.requires.1 in
    let low : lane < 64 = (subst (AllByRecursion (IsItem config)) items c.self.invariant.kept.each_item).0.0 in
    let bytes = lent_at inside.records.items lane c.from.result c.index.result.now c.index.ensures c.from.ensures c.self.invariant.records_are low in
    let scene : List PutOff → ℕ → Scene = λ (questions : List PutOff) (waiting : ℕ). record { questions = questions; waiting = waiting; records = records } in
    let again = resubmitted (client_of lane) (last_number (run_of lanes) (draws_of lanes) lane) (slice_index_or records lane []) (slice_index_or (primaries_of lanes) lane None) in
    let count : c.len.result ≡ length inside.queue.items = search rules in
    let sent = line_is config (scene c.questions.result.now c.len.result) lanes lane c.last_pair.result c.index.result.now.now line c.self.invariant.lanes_are low
    c.last_pair.ensures.last c.last_pair.ensures.pair bytes in
    let seen = ap (λ (questions : List PutOff). line_course config (scene questions c.len.result) again line) c.questions.ensures
    ∙ ap (λ (waiting : ℕ). line_course config (scene (questions_of inside.hold) waiting) again line) count in
    IfOk-weaker c.line_course.result
    (λ course. course ≡ line_course config (scene c.questions.result.now c.len.result) (sent_again c.last_pair.result c.index.result.now.now) line)
    _
    (λ course e. e ∙ sent ∙ seen ∙ ap (λ (s : Scheduled). begins s (FaultItem lane line)) c.self.view_is)
    (c.line_course.ensures records)
