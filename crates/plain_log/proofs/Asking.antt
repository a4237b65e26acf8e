-- What a primary answers when it is asked for a pair, by where the pair stands in its list.
use Rattle.std.proofs.Common.{◌≡◌, ℕ, ◌<◌, ◌≤◌, ◌&&◌, Bool, true, false, ltb, List, Option, None, Some, refl, ap, ◌∙◌, arith}
use Rattle.std.proofs.lemmas.Bool.{cond-true, cond-false, lt-ltb, le-ltb, le-leb, lt-leb}
use Rattle.record_frame.specs.declared.entries.Entry.{Entry}
use Rattle.log_model.specs.Asking.{Asked, At, Stale, Missing, ask, ask_held, ask_stored, ask_last}
use Rattle.log_model.specs.Pairs.{held, last_of, offset_of, is_below, is_trimmed, untrimmed}
use Rattle.log_model.specs.Storage.{Member, Knowledge, covered_length_of, position_of}
use Rattle.plain_log.proofs.Pairs.{Below}

both-true : (a b : Bool) → a ≡ true → b ≡ true → (a && b) ≡ true
both-true a b first second = rw (first, second) refl

and_right : (a b : Bool) → b ≡ false → (a && b) ≡ false
and_right true b none = none
and_right false b none = refl

-- A pair that is stored from the mark on is told its position.
pub ask_at : (member : Member) (own : List Entry) (known : Knowledge) (client number offset position : ℕ)
    → offset_of own client number ≡ Some offset → position_of member known offset ≡ Some position → known.chain.mark ≤ position
    → ask member own known client number ≡ At position
unfolding ask held
ask_at member own known client number offset position stands place from =
    let low : is_below known.chain.mark (position_of member known offset) ≡ false =
    ap (is_below known.chain.mark) place ∙ le-ltb position known.chain.mark from in
    let kept : is_trimmed member known offset ≡ false = and_right (ltb offset (covered_length_of member known)) (is_below known.chain.mark (position_of member known offset)) low in
    let is_held : held member own known client number ≡ Some offset =
    ap (untrimmed member known) stands ∙ cond-false {A = Option ℕ} (is_trimmed member known offset) None (Some offset) kept in
    ap (ask_held member own known client number) is_held ∙ ap (ask_stored member known) place

-- One that is given up is told the greatest number of its client, which is no less.
pub ask_stale : (member : Member) (own : List Entry) (known : Knowledge) (client number offset position : ℕ)
    → offset_of own client number ≡ Some offset → position_of member known offset ≡ Some position → position < known.chain.mark
    → offset < covered_length_of member known → last_of own client ≡ Some number
    → ask member own known client number ≡ Stale number
unfolding ask held
ask_stale member own known client number offset position stands place below covered last =
    let low : is_below known.chain.mark (position_of member known offset) ≡ true =
    ap (is_below known.chain.mark) place ∙ lt-ltb position known.chain.mark below in
    let given_up : is_trimmed member known offset ≡ true =
    both-true (ltb offset (covered_length_of member known)) (is_below known.chain.mark (position_of member known offset)) (lt-ltb offset (covered_length_of member known) covered) low in
    let not_held : held member own known client number ≡ None =
    ap (untrimmed member known) stands ∙ cond-true {A = Option ℕ} (is_trimmed member known offset) None (Some offset) given_up in
    ap (ask_held member own known client number) not_held ∙ ap (ask_last number) last
    ∙ cond-true {A = Asked} _ (Stale number) Missing (le-leb number number (omega arith))

missing-last : (number : ℕ) (o : Option ℕ) → Below number o → ask_last number o ≡ Missing
missing-last number None below = refl
missing-last number (Some last) below = cond-false {A = Asked} _ (Stale last) Missing (lt-leb number last below)

-- One that is not stored is missing, where its client has no number from it on.
pub ask_missing : (member : Member) (own : List Entry) (known : Knowledge) (client number : ℕ)
    → offset_of own client number ≡ None → Below number (last_of own client)
    → ask member own known client number ≡ Missing
unfolding ask held
ask_missing member own known client number nowhere below =
    ap (λ (o : Option ℕ). ask_held member own known client number (untrimmed member known o)) nowhere
    ∙ missing-last number (last_of own client) below
