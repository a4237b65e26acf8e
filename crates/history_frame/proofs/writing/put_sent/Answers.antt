use Rattle.std.proofs.Common.{◌≡◌, ℕ, ◌++◌, sym, ap, ◌∙◌, arith}
use Rattle.log_base.specs.Wide.{be2, be4}
use Rattle.message_frame.specs.Spelling.{message_spelling}
use Rattle.message_frame.proofs.Sizes.{length-message_spelling}
use Rattle.history_frame.specs.Spelling.{sent_spelling}
use Rattle.history_frame.proofs.Puts.{three_puts, on_ok}
use Rattle.history_frame.proofs.Sizes.{message_short}
use Rattle.history_frame.proofs.writing.put_sent.Goals as goal

pub overflow_cast-message_length : goal.overflow_cast-message_length
overflow_cast-message_length c = omega (arith, message_short c.args.sent.now.message c.requires.sent, c.message_length.ensures)

pub returns-clause-ok : goal.returns-clause-ok
returns-clause-ok c =
    let sent = c.args.sent.now in
    let text = message_spelling sent.message in
    let size = c.message_length.ensures ∙ sym (length-message_spelling sent.message c.requires.sent) in
    on_ok c.encode.result (c.encode.new.out.items ≡ c.put_u32.new.out.items ++ text) (c.encode.new.out.items ≡ c.args.out.now.items ++ sent_spelling sent)
    (λ last. three_puts c.args.out.now.items (be2 sent.to.0) (be4 c.message_length.result) text _ _ _
    (c.put_u16.ensures.items ∙ ap (λ l. l ++ be2 sent.to.0) c.reserve.ensures.items) c.put_u32.ensures.items last
    ∙ ap (λ (n : ℕ). c.args.out.now.items ++ (be2 sent.to.0 ++ (be4 n ++ text))) size)
    c.encode.ensures.ok
