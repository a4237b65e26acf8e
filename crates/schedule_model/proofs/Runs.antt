-- Worked runs, by computation.
use Rattle.std.proofs.Common.{◌≡◌, ◌++◌, [], ◌∷◌, refl}
use Rattle.reply_frame.specs.declared.replies.Reply.{Settled}
use Rattle.schedule_model.specs.Driven.{IsDriven, IsFollowed, replies_of}
use Rattle.schedule_model.specs.Worked.{addition, confirmed, decided, opened, opening_turns, silent, smallest, two_by_two}

pub opening_followed : IsFollowed two_by_two 1 [] (silent opening_turns)
opening_followed = (refl, (refl, (refl, (refl, (refl, (refl, (refl, (refl, (refl, tt)))))))))

pub addition_replies : replies_of smallest 1 addition (opened ++ decided ++ confirmed) ≡ Settled (record { 0 = 0 }) ∷ []
addition_replies = refl

pub addition_driven : IsDriven smallest 1 addition (opened ++ decided ++ confirmed)
addition_driven = record {
  followed = (refl, (refl, (refl, (refl, (refl, (refl, (refl, (refl, (refl, (refl, (refl, (refl, (refl, (refl, (refl, (refl, (refl, (refl, (refl, (refl, tt))))))))))))))))))));
  over = refl;
}
