use Rattle.std.proofs.Common.{ℕ, [], ◌∷◌, ap, rules, subst, sym, ◌∙◌}
use Rattle.event_letters.proofs.Spaces.{no_letters}
use Rattle.event_letters.specs.Letters.{HasSpace, message_length}
use Rattle.message_frame.specs.declared.messages.Message.{Message}
use Rattle.message_frame.specs.declared.messages.Message.TheVariants.{Prepare}
use Rattle.message_frame.proofs.Sizes.{length-message_spelling}
use Rattle.serial_schedule.proofs.tests.put_out.Goals as goal

-- the letter has as many bytes as there is room for
pub send-requires-clause-space : goal.send-requires-clause-space
send-requires-clause-space c =
    let sent : Message = Prepare (record { 0 = 7 }) (record { 0 = 0 }) in
    subst (λ (size : ℕ). HasSpace c.ready.new.self c.ready.new.out.rooms (size ∷ []))
    (sym (ap message_length c.prepare.ensures ∙ length-message_spelling sent (search rules)))
    (c.in_ok-ready.ensures.space [] (no_letters _ _))
