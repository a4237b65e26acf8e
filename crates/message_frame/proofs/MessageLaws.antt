-- A message that is read is spelled so, and what is spelled is read.
use Rattle.std.proofs.Common.{◌≡◌, ℕ, ◌+◌, ◌-◌, ◌<◌, ◌≤◌, Bool, true, false, cond, eqb, ltb, List, [], ◌∷◌, ◌++◌, length, get_or, drop, Result, Ok, Err, refl, sym, ap, subst, ◌∙◌, arith}
use Rattle.std.proofs.lemmas.Bool.{eqb-true, ltb-false, le-ltb}
use Rattle.std.proofs.lemmas.List.{append-nil, append_cancel_left, length-drop}
use Rattle.std.specs.Prelude.{IfOk}
use Rattle.log_base.specs.Wide.{IsBytes, be2, be4, be8}
use Rattle.record_frame.specs.declared.refusals.Refusal.{Refusal}
use Rattle.record_frame.specs.declared.refusals.Refusal.TheVariants.{BadKind, Long}
use Rattle.record_frame.specs.Entries.{entry_spelling}
use Rattle.record_frame.specs.Fields.{StandsAt, Gives, end_at, u8_at}
use Rattle.record_frame.specs.Values.{lengths_spelling, value_spelling}
use Rattle.record_frame.proofs.FieldLaws.{bind_ok, passes, given, ok_is, StandsAt-then, StandsAt-front, StandsAt-back, front_stands, u8_takes, u8_again}
use Rattle.record_frame.proofs.Reasons.{NeedsNone, u8_at-needs_none}
use Rattle.message_frame.specs.declared.messages.Message.{Message}
use Rattle.message_frame.specs.declared.messages.Message.TheVariants.{Copy, CopyAck, Report, Least, Prepare, Promised, Lower, Accept, Accepted, Decide, Want}
use Rattle.message_frame.specs.Spelling.{IsMessage, votes_spelling, message_spelling}
use Rattle.message_frame.specs.Reading.{copy_at, copy_ack_at, report_at, least_at, prepare_at, promised_at, lower_at, accept_at, accepted_at, decide_at, want_at, plain_fields_at, message_fields_at, message_at, message_of}
use Rattle.message_frame.proofs.KindLaws.{FieldsTaken, copy_kind, copy_ack_kind, report_kind, least_kind, prepare_kind, promised_kind, lower_kind, accept_kind, accepted_kind, decide_kind, want_kind, copy_again, copy_ack_again, report_again, least_again, prepare_again, promised_again, lower_again, accept_again, accepted_again, decide_again, want_again}
use Rattle.message_frame.proofs.Parts.{bind, choice, gives}

-- ---- what is read is spelled so

-- the fields by their kind, or by one of the kinds that are left
by_kind : (kind n : ℕ) (first rest : Result (Message × ℕ) Refusal) (bytes : List ℕ) (at : ℕ) (x : Message × ℕ) → cond (eqb kind n) first rest ≡ Ok x
    → (first ≡ Ok x → FieldsTaken n bytes at x) → (rest ≡ Ok x → FieldsTaken kind bytes at x) → FieldsTaken kind bytes at x
by_kind kind n first rest bytes at x e this others = by_test (eqb kind n) refl e
  where
    by_test : (b : Bool) → eqb kind n ≡ b → cond b first rest ≡ Ok x → FieldsTaken kind bytes at x
    by_test true is h = subst (λ (k : ℕ). FieldsTaken k bytes at x) (sym (eqb-true kind n is)) (this h)
    by_test false is h = others h

no_kind : (kind : ℕ) (bytes : List ℕ) (at : ℕ) (x : Message × ℕ) → Err (BadKind kind) ≡ given x → FieldsTaken kind bytes at x
no_kind kind bytes at x e = absurd cc

plain_fields_take : (kind : ℕ) (bytes : List ℕ) (at : ℕ) (x : Message × ℕ) → IsBytes bytes → at ≤ length bytes → plain_fields_at kind bytes at ≡ Ok x → FieldsTaken kind bytes at x
unfolding plain_fields_at
plain_fields_take kind bytes at x fits within e =
    by_kind kind 2 (copy_ack_at bytes at) _ bytes at x e (copy_ack_kind.takes bytes at x fits within)
    (λ e3. by_kind kind 3 (report_at bytes at) _ bytes at x e3 (report_kind.takes bytes at x fits within)
    (λ e4. by_kind kind 4 (least_at bytes at) _ bytes at x e4 (least_kind.takes bytes at x fits within)
    (λ e5. by_kind kind 5 (prepare_at bytes at) _ bytes at x e5 (prepare_kind.takes bytes at x fits within)
    (λ e7. by_kind kind 7 (lower_at bytes at) _ bytes at x e7 (lower_kind.takes bytes at x fits within)
    (λ e8. by_kind kind 8 (accept_at bytes at) _ bytes at x e8 (accept_kind.takes bytes at x fits within)
    (λ e9. by_kind kind 9 (accepted_at bytes at) _ bytes at x e9 (accepted_kind.takes bytes at x fits within)
    (λ e10. by_kind kind 10 (decide_at bytes at) _ bytes at x e10 (decide_kind.takes bytes at x fits within)
    (λ e11. by_kind kind 11 (want_at bytes at) (Err (BadKind kind)) bytes at x e11 (want_kind.takes bytes at x fits within) (no_kind kind bytes at x)))))))))

message_fields_take : (kind : ℕ) (bytes : List ℕ) (at : ℕ) (x : Message × ℕ) → IsBytes bytes → at ≤ length bytes → message_fields_at kind bytes at ≡ Ok x → FieldsTaken kind bytes at x
unfolding message_fields_at
message_fields_take kind bytes at x fits within e =
    by_kind kind 1 (copy_at bytes at) _ bytes at x e (copy_kind.takes bytes at x fits within)
    (λ e6. by_kind kind 6 (promised_at bytes at) (plain_fields_at kind bytes at) bytes at x e6 (promised_kind.takes bytes at x fits within) (plain_fields_take kind bytes at x fits within))

pub message_takes : (bytes : List ℕ) (at next : ℕ) (message : Message) → IsBytes bytes → message_at bytes at ≡ Ok (message, next) → IsMessage message × StandsAt bytes at (message_spelling message) next
unfolding message_at
message_takes bytes at next message fits e =
    let a = bind_ok (u8_at bytes at) (λ kind. message_fields_at kind.0 bytes kind.1) (message, next) e in
    let first = u8_takes bytes at a.0 fits a.1 in
    let t = message_fields_take a.0.0 bytes a.0.1 (message, next) fits first.0.within a.2 in
    (t.message, subst (λ (l : List ℕ). StandsAt bytes at l next) (sym t.spelling) (StandsAt-then bytes at a.0.1 next (a.0.0 ∷ []) t.fields first.0 t.stands))

-- ---- what is spelled is read

-- a message is read where its kind and its fields are
from_fields : (kind : ℕ) (fields bytes : List ℕ) (at next : ℕ) (message : Message) → kind < 256 → StandsAt bytes at (kind ∷ fields) next
    → (StandsAt bytes (at + 1) fields next → message_fields_at kind bytes (at + 1) ≡ Ok (message, next)) → message_at bytes at ≡ Ok (message, next)
unfolding message_at
from_fields kind fields bytes at next message small stands read =
    rw (u8_again bytes at kind (at + 1) small (StandsAt-front bytes at next (kind ∷ []) fields stands)) (read (StandsAt-back bytes at next (kind ∷ []) fields stands))

pub message_again : (bytes : List ℕ) (at next : ℕ) (message : Message) → IsMessage message → StandsAt bytes at (message_spelling message) next → message_at bytes at ≡ Ok (message, next)
unfolding message_fields_at plain_fields_at
message_again bytes at next (Copy segment offset entry) is stands =
    from_fields 1 (segment.0 ∷ (be4 offset ++ entry_spelling entry)) bytes at next (Copy segment offset entry) (omega arith) stands (copy_again bytes (at + 1) next segment offset entry is)
message_again bytes at next (CopyAck peer size) is stands =
    from_fields 2 (peer.0 ∷ be4 size) bytes at next (CopyAck peer size) (omega arith) stands (copy_ack_again bytes (at + 1) next peer size is)
message_again bytes at next (Report shard replica lengths) is stands =
    from_fields 3 (be2 shard.0 ++ (replica.0 ∷ lengths_spelling lengths)) bytes at next (Report shard replica lengths) (omega arith) stands (report_again bytes (at + 1) next shard replica lengths is)
message_again bytes at next (Least shard lengths) is stands =
    from_fields 4 (be2 shard.0 ++ lengths_spelling lengths) bytes at next (Least shard lengths) (omega arith) stands (least_again bytes (at + 1) next shard lengths is)
message_again bytes at next (Prepare ballot start) is stands =
    from_fields 5 (be8 ballot.0 ++ be4 start.0) bytes at next (Prepare ballot start) (omega arith) stands (prepare_again bytes (at + 1) next ballot start is)
message_again bytes at next (Promised ballot start who votes) is stands =
    from_fields 6 (be8 ballot.0 ++ (be4 start.0 ++ (who ∷ votes_spelling votes))) bytes at next (Promised ballot start who votes) (omega arith) stands (promised_again bytes (at + 1) next ballot start who votes is)
message_again bytes at next (Lower ballot promised) is stands =
    from_fields 7 (be8 ballot.0 ++ be8 promised.0) bytes at next (Lower ballot promised) (omega arith) stands (lower_again bytes (at + 1) next ballot promised is)
message_again bytes at next (Accept ballot slot value) is stands =
    from_fields 8 (be8 ballot.0 ++ (be4 slot.0 ++ value_spelling value)) bytes at next (Accept ballot slot value) (omega arith) stands (accept_again bytes (at + 1) next ballot slot value is)
message_again bytes at next (Accepted ballot slot who) is stands =
    from_fields 9 (be8 ballot.0 ++ (be4 slot.0 ++ (who ∷ []))) bytes at next (Accepted ballot slot who) (omega arith) stands (accepted_again bytes (at + 1) next ballot slot who is)
message_again bytes at next (Decide slot value) is stands =
    from_fields 10 (be4 slot.0 ++ value_spelling value) bytes at next (Decide slot value) (omega arith) stands (decide_again bytes (at + 1) next slot value is)
message_again bytes at next (Want start node) is stands =
    from_fields 11 (be4 start.0 ++ be2 node.0) bytes at next (Want start node) (omega arith) stands (want_again bytes (at + 1) next start node is)

pub messages_apart : (one other : Message) (x y : List ℕ) → IsMessage one → IsMessage other → message_spelling one ++ x ≡ message_spelling other ++ y → (one ≡ other) × (x ≡ y)
messages_apart one other x y is_one is_other e =
    let first = message_again (message_spelling one ++ x) 0 _ one is_one (front_stands _ (message_spelling one) x refl) in
    let second = message_again (message_spelling one ++ x) 0 _ other is_other (front_stands _ (message_spelling other) y e) in
    let both = ok_is (one, length (message_spelling one)) (other, length (message_spelling other)) (sym first ∙ second) in
    let same : one ≡ other = ap (λ (p : Message × ℕ). p.0) both in
    (same, append_cancel_left (message_spelling one) x y (e ∙ ap (λ (z : Message). message_spelling z ++ y) (sym same)))

-- ---- all of the bytes

pub all_take : (bytes : List ℕ) (message : Message) → IsBytes bytes → message_of bytes ≡ Ok message → IsMessage message × (bytes ≡ message_spelling message)
unfolding message_of
all_take bytes message fits e =
    let a = bind_ok (message_at bytes 0) (λ found. cond (ltb found.1 (length bytes)) (Err (Long (length bytes - found.1))) (Ok found.0)) message e in
    let p = passes (ltb a.0.1 (length bytes)) (Long (length bytes - a.0.1)) (Ok a.0.0) message a.2 in
    let t = message_takes bytes 0 a.0.1 a.0.0 fits a.1 in
    let none_left : drop a.0.1 bytes ≡ [] = nothing (drop a.0.1 bytes) (omega (arith, length-drop a.0.1 bytes, ltb-false _ _ p.0)) in
    let whole : bytes ≡ message_spelling a.0.0 = t.1.parts ∙ ap (λ (l : List ℕ). message_spelling a.0.0 ++ l) none_left ∙ append-nil (message_spelling a.0.0) in
    subst (λ (m : Message). IsMessage m × (bytes ≡ message_spelling m)) (ok_is a.0.0 message p.1) (t.0, whole)
  where
    nothing : (l : List ℕ) → length l ≡ 0 → l ≡ []
    nothing [] e = refl
    nothing (x ∷ l) e = absurd (omega arith)

pub all_again : (message : Message) → IsMessage message → message_of (message_spelling message) ≡ Ok message
unfolding message_of
all_again message is =
    let stands = front_stands (message_spelling message) (message_spelling message) [] (sym (append-nil (message_spelling message))) in
    let all = le-ltb (length (message_spelling message)) (length (message_spelling message)) (omega arith) in
    rw (message_again (message_spelling message) 0 (length (message_spelling message)) message is stands, all) refl

-- ---- memory

pub plain_fields_at-needs_none : (kind : ℕ) (bytes : List ℕ) (at : ℕ) → NeedsNone (plain_fields_at kind bytes at)
unfolding plain_fields_at
plain_fields_at-needs_none kind bytes at =
    choice (eqb kind 2) _ _ (copy_ack_kind.needs_none bytes at)
    (choice (eqb kind 3) _ _ (report_kind.needs_none bytes at)
    (choice (eqb kind 4) _ _ (least_kind.needs_none bytes at)
    (choice (eqb kind 5) _ _ (prepare_kind.needs_none bytes at)
    (choice (eqb kind 7) _ _ (lower_kind.needs_none bytes at)
    (choice (eqb kind 8) _ _ (accept_kind.needs_none bytes at)
    (choice (eqb kind 9) _ _ (accepted_kind.needs_none bytes at)
    (choice (eqb kind 10) _ _ (decide_kind.needs_none bytes at)
    (choice (eqb kind 11) _ _ (want_kind.needs_none bytes at) (bad_kind kind)))))))))
  where
    bad_kind : (n : ℕ) → NeedsNone {A = Message × ℕ} (Err (BadKind n))
    bad_kind n = λ e. cc

pub message_at-needs_none : (bytes : List ℕ) (at : ℕ) → NeedsNone (message_at bytes at)
unfolding message_at message_fields_at
message_at-needs_none bytes at =
    bind _ _ (u8_at-needs_none bytes at)
    (λ kind. choice (eqb kind.0 1) _ _ (copy_kind.needs_none bytes kind.1) (choice (eqb kind.0 6) _ _ (promised_kind.needs_none bytes kind.1) (plain_fields_at-needs_none kind.0 bytes kind.1)))

pub message_of-needs_none : (bytes : List ℕ) → NeedsNone (message_of bytes)
unfolding message_of
message_of-needs_none bytes = bind _ _ (message_at-needs_none bytes 0) (λ found. choice _ _ _ (long _) (gives _))
  where
    long : (n : ℕ) → NeedsNone {A = Message} (Err (Long n))
    long n = λ e. cc

-- ---- what decoding gives

pub all_is_found : (bytes : List ℕ) (r : Result Message Refusal) → IsBytes bytes → Gives (λ x. x) r (message_of bytes) → IfOk r (λ message. IsMessage message × (bytes ≡ message_spelling message))
all_is_found bytes (Ok message) fits given_so = all_take bytes message fits given_so
all_is_found bytes (Err refusal) fits given_so = tt

pub all_is_only : (bytes : List ℕ) (message : Message) (r : Result Message Refusal) → IsMessage message → bytes ≡ message_spelling message → Gives (λ x. x) r (message_of bytes) → Gives (λ x. x) r (Ok message)
all_is_only bytes message r is e given_so =
    subst (λ (read : Result Message Refusal). Gives (λ x. x) r read) (ap message_of e ∙ all_again message is) given_so

-- ---- where memory may run out

-- a first byte that is not there is no want of memory
pub kind_needs_none : (bytes : List ℕ) (refusal told : Refusal) (r : Result (Message × ℕ) Refusal) → r ≡ Err told → told ≡ refusal → Err refusal ≡ u8_at bytes 0 → NeedsNone r
kind_needs_none bytes refusal told r is same read memory = u8_at-needs_none bytes 0 (sym read ∙ cc)

-- the kind is the first byte
pub kind_is_first : (bytes : List ℕ) (x : ℕ × ℕ) → given x ≡ u8_at bytes 0 → x.0 ≡ get_or bytes 0 0
unfolding u8_at
kind_is_first bytes x read =
    let a = bind_ok (end_at 1 bytes 0) (λ next. Ok (get_or bytes 0 0, next)) x (sym read) in
    ap (λ (y : ℕ × ℕ). y.0) (sym (ok_is (get_or bytes 0 0, a.0) x a.2))
