use Rattle.std.proofs.Common.{ℕ, List, ◌++◌, ap, ◌∙◌}
use Rattle.std.specs.List.{flat_map}
use Rattle.reply_frame.specs.Replies.{reply_bytes}
use Rattle.history_frame.specs.declared.events.Sent.{Sent}
use Rattle.history_frame.specs.Spelling.{front_spelling, sent_spelling}
use Rattle.history_frame.proofs.Puts.{three_puts, event_whole}
use Rattle.history_frame.proofs.writing.put_event.Goals as goal

pub returns-clause-ok : goal.returns-clause-ok
returns-clause-ok c =
    let event = c.args.event.now in
    let old = c.args.out.now.items in
    let reply = reply_bytes event.happened.reply in
    three_puts old (front_spelling event) (flat_map sent_spelling c.get.result.now) reply _ _ _
    c.in_ok-put_front.ensures.ok c.in_ok-put_outputs.ensures.ok (c.put_reply.ensures ∙ ap (λ l. l ++ reply) c.reserve.ensures.items)
    ∙ ap (λ (l : List Sent). old ++ (front_spelling event ++ (flat_map sent_spelling l ++ reply))) c.get.ensures
    ∙ ap (λ (l : List ℕ). old ++ l) (event_whole event)
