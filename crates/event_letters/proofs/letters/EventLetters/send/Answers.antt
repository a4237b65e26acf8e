use Rattle.std.proofs.Common.{◌≡◌, ℕ, ◌-◌, List, vec_capacity, arith, rules, sym, subst, length}
use Rattle.message_frame.specs.Spelling.{message_spelling}
use Rattle.log_base.specs.Outgoing.{HasRoom, rooms_after}
use Rattle.event_letters.specs.Letters.{EventLetters, HasSpace, message_length}
use Rattle.event_letters.proofs.Spaces.{first_room, after_letter}
use Rattle.event_letters.proofs.letters.EventLetters.send.Goals as goal

pub push-requires : goal.push-requires
push-requires c =
    let bytes : c.deref.result.now ≡ message_spelling c.args.message = search rules in
    subst (λ (l : List ℕ). HasRoom (length l) c.args.out.now.rooms) (sym bytes) (first_room c.args.self.now c.args.out.now.rooms _ c.requires.space)

pub returns-clause-space : goal.returns-clause-space
returns-clause-space c = λ size sizes less h.
    let bytes : c.deref.result.now ≡ message_spelling c.args.message = search rules in
    let after : c.push.new.self.rooms ≡ rooms_after (message_length c.args.message) c.args.out.now.rooms = search (rules, bytes) in
    let new : EventLetters = record { sent = c.push-2.new.self.items; room = c.self.inside.room - 1; longest = vec_capacity c.encode.new.out } in
    subst (λ (rooms : List ℕ). HasSpace new rooms sizes) (sym after)
    (after_letter c.args.self.now new c.args.out.now.rooms _ size sizes less (search arith) (search arith) h)
