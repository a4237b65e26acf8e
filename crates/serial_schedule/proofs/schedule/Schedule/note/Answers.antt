use Rattle.std.proofs.Common.{ℕ, ◌++◌, List, length, map, ap, subst, sym, ◌∙◌}
use Rattle.std.proofs.lemmas.List.{length-map}
use Rattle.schedule_model.specs.Noting.{course_or_none, hold_with}
use Rattle.std.specs.List.{AllByRecursion}
use Rattle.history_frame.specs.declared.events.Sent.{Sent}
use Rattle.log_base.specs.Shape.{shape}
use Rattle.serial_schedule.specs.Keeping.{IsDuty, IsHold}
use Rattle.schedule_model.specs.Scheduling.{Waiting, letters_from}
use Rattle.command_frame.specs.Streams.{unplaced}
use Rattle.serial_schedule.proofs.Followed.{followed-hold, followed-is, noted-made}
use Rattle.serial_schedule.proofs.schedule.Schedule.note.Goals as goal

pub invariant_of-self-2 : goal.invariant_of-self-2
invariant_of-self-2 c =
    let kept = c.self.invariant.kept in
    record {
      kept = record {
        run_fits = kept.run_fits;
        each_item = kept.each_item;
        each_duty = subst (AllByRecursion (IsDuty (shape c.self.inside.config))) (sym c.in_ok-follow.ensures.duties)
            (followed-is (shape c.self.inside.config) c.self.inside.hold c.self.inside.awaited c.args.happened.now.reply c.self.inside.duties.items kept.answer kept.each_duty);
        answer = tt;
        questions = subst (IsHold (shape c.self.inside.config)) (sym c.in_ok-follow.ensures.hold)
            (followed-hold (shape c.self.inside.config) c.self.inside.awaited c.args.happened.now.reply (length c.self.inside.replies.items) c.self.inside.hold kept.answer kept.questions);
        lanes = kept.lanes;
        room = kept.room;
      };
      lanes_are = c.self.invariant.lanes_are;
      records_are = c.self.invariant.records_are;
    }

pub returns-clause-ok : goal.returns-clause-ok
returns-clause-ok c =
    let before : List Waiting → List Waiting = λ (queue : List Waiting). queue ++ letters_from c.self.inside.place 0 c.args.happened.now.outputs in
    noted-made _ c.args.self.now c.args.happened.now.outputs c.args.happened.now.reply c.post.new.queue.items c.follow.new.duties.items c.follow.new.subscriber
    c.follow.new.hold (map unplaced c.follow.new.replies.items)
    c.self.view_is
    (c.post.ensures.queue
    ∙ ap (λ (outputs : List Sent). c.reserve.new.self.items ++ letters_from c.self.inside.place 0 outputs) c.get-outputs.ensures
    ∙ ap before c.in_ok-reserve.ensures.items)
    c.in_ok-follow.ensures.duties
    c.in_ok-follow.ensures.stream
    (c.in_ok-follow.ensures.hold ∙ ap (λ (n : ℕ). hold_with (course_or_none (shape c.self.inside.config) c.self.inside.hold c.self.inside.awaited c.args.happened.now.reply) n c.self.inside.hold)
    (sym (length-map c.self.inside.replies.items unplaced)))
    c.in_ok-follow.ensures.replies
