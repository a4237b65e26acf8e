-- The fields of each kind of message: what is read stands there, and what stands there is read.
use Rattle.std.proofs.Common.{◌≡◌, ℕ, ◌+◌, ◌≤◌, List, [], ◌∷◌, ◌++◌, length, Ok, refl, arith}
use Rattle.log_base.specs.Wide.{IsBytes, be2, be4, be8}
use Rattle.log_base.specs.declared.numbers.Ballot.{Ballot}
use Rattle.log_base.specs.declared.numbers.NodeId.{NodeId}
use Rattle.log_base.specs.declared.numbers.Replica.{Replica}
use Rattle.log_base.specs.declared.numbers.Shard.{Shard}
use Rattle.log_base.specs.declared.numbers.Slot.{Slot}
use Rattle.record_frame.specs.declared.entries.Entry.{Entry}
use Rattle.record_frame.specs.declared.values.Lengths.{Lengths}
use Rattle.record_frame.specs.declared.values.Value.{Value}
use Rattle.record_frame.specs.Entries.{entry_spelling}
use Rattle.record_frame.specs.Fields.{◌>>=◌, StandsAt}
use Rattle.record_frame.specs.Values.{lengths_spelling, value_spelling}
use Rattle.record_frame.proofs.FieldLaws.{bind_ok, StandsAt-then, StandsAt-front, StandsAt-back}
use Rattle.record_frame.proofs.Reasons.{NeedsNone}
use Rattle.message_frame.specs.declared.messages.Message.{Message}
use Rattle.message_frame.specs.declared.messages.Message.TheVariants.{Copy, CopyAck, Report, Least, Prepare, Promised, Lower, Accept, Accepted, Decide, Want}
use Rattle.message_frame.specs.declared.messages.Vote.{Vote}
use Rattle.message_frame.specs.Spelling.{IsMessage, votes_spelling, message_spelling}
use Rattle.message_frame.specs.Reading.{slot_at, u8_up_to, u32_up_to, ballot_at, reported_at, copy_at, copy_ack_at, report_at, least_at, prepare_at, promised_at, lower_at, accept_at, accepted_at, decide_at, want_at}
use Rattle.message_frame.proofs.Groups.{Reads, two_at, three_at, two_take, two_again, two_need_none, three_take, three_again, three_need_none}
use Rattle.message_frame.proofs.Parts.{IsPart, bind, u8_up_to_part, u32_up_to_part, replica_part, node_part, slot_up_to_part, ballot_part, shard_part, lengths_part, value_part, entry_part}
use Rattle.message_frame.proofs.VoteLaws.{reported_part}

-- a message whose kind and fields these are
pub record FieldsTaken (kind : ℕ) (bytes : List ℕ) (at : ℕ) (found : Message × ℕ) : Type 0 where
  pub message : IsMessage found.0
  pub fields : List ℕ
  pub spelling : message_spelling found.0 ≡ kind ∷ fields
  pub stands : StandsAt bytes at fields found.1

-- how the fields of a kind are read
pub record IsKind (kind : ℕ) (read : Reads Message) : Type 0 where
  pub takes : (bytes : List ℕ) (at : ℕ) (x : Message × ℕ) → IsBytes bytes → at ≤ length bytes → read bytes at ≡ Ok x → FieldsTaken kind bytes at x
  pub needs_none : (bytes : List ℕ) (at : ℕ) → NeedsNone (read bytes at)

two_kind : {A B : Type 0} {p : Reads A} {IsA : A → Type 0} {a_text : A → List ℕ} {q : Reads B} {IsB : B → Type 0} {b_text : B → List ℕ}
    → (kind : ℕ) → IsPart p IsA a_text → IsPart q IsB b_text → (make : A → B → Message) → ((a : A) (b : B) → IsA a → IsB b → IsMessage (make a b))
    → ((a : A) (b : B) → message_spelling (make a b) ≡ kind ∷ (a_text a ++ b_text b)) → IsKind kind (two_at p q make)
two_kind {a_text} {b_text} kind one two make is spelled = record {
  takes = λ bytes at x fits within e.
      two_take one two make bytes at x fits within e (FieldsTaken kind bytes at)
      (λ a b next is_a is_b stands. record { message = is a b is_a is_b; fields = a_text a ++ b_text b; spelling = spelled a b; stands = stands });
  needs_none = λ bytes at. two_need_none one two make bytes at;
}

three_kind : {A B C : Type 0} {p : Reads A} {IsA : A → Type 0} {a_text : A → List ℕ} {q : Reads B} {IsB : B → Type 0} {b_text : B → List ℕ} {r : Reads C} {IsC : C → Type 0} {c_text : C → List ℕ}
    → (kind : ℕ) → IsPart p IsA a_text → IsPart q IsB b_text → IsPart r IsC c_text → (make : A → B → C → Message) → ((a : A) (b : B) (c : C) → IsA a → IsB b → IsC c → IsMessage (make a b c))
    → ((a : A) (b : B) (c : C) → message_spelling (make a b c) ≡ kind ∷ (a_text a ++ (b_text b ++ c_text c))) → IsKind kind (three_at p q r make)
three_kind {a_text} {b_text} {c_text} kind one two three make is spelled = record {
  takes = λ bytes at x fits within e.
      three_take one two three make bytes at x fits within e (FieldsTaken kind bytes at)
      (λ a b c next is_a is_b is_c stands. record { message = is a b c is_a is_b is_c; fields = a_text a ++ (b_text b ++ c_text c); spelling = spelled a b c; stands = stands });
  needs_none = λ bytes at. three_need_none one two three make bytes at;
}

offset_part : IsPart (u32_up_to 16383) (λ n. n ≤ 16383) be4
offset_part = u32_up_to_part 16383 (omega arith)

size_part : IsPart (u32_up_to 16384) (λ n. n ≤ 16384) be4
size_part = u32_up_to_part 16384 (omega arith)

first_part : IsPart (slot_at 0 16384) (λ slot. slot.0 ≤ 16384) (λ slot. be4 slot.0)
first_part = slot_up_to_part 16384 (omega arith)

slot_part : IsPart (slot_at 0 16383) (λ slot. slot.0 ≤ 16383) (λ slot. be4 slot.0)
slot_part = slot_up_to_part 16383 (omega arith)

who_part : IsPart (u8_up_to 6) (λ n. n ≤ 6) (λ n. n ∷ [])
who_part = u8_up_to_part 6 (omega arith)

-- ---- what is read stands there

pub copy_kind : IsKind 1 copy_at
unfolding copy_at
copy_kind = three_kind 1 replica_part offset_part entry_part (λ segment offset entry. Copy segment offset entry) (λ segment offset entry a b c. (a, b, c)) (λ segment offset entry. refl)

pub copy_ack_kind : IsKind 2 copy_ack_at
unfolding copy_ack_at
copy_ack_kind = two_kind 2 replica_part size_part (λ peer size. CopyAck peer size) (λ peer size a b. (a, b)) (λ peer size. refl)

pub report_kind : IsKind 3 report_at
unfolding report_at
report_kind = three_kind 3 shard_part replica_part lengths_part (λ shard replica lengths. Report shard replica lengths) (λ shard replica lengths a b c. (a, b, c)) (λ shard replica lengths. refl)

pub least_kind : IsKind 4 least_at
unfolding least_at
least_kind = two_kind 4 shard_part lengths_part (λ shard lengths. Least shard lengths) (λ shard lengths a b. (a, b)) (λ shard lengths. refl)

pub prepare_kind : IsKind 5 prepare_at
unfolding prepare_at
prepare_kind = two_kind 5 ballot_part first_part (λ ballot start. Prepare ballot start) (λ ballot start a b. (a, b)) (λ ballot start. refl)

pub promised_kind : IsKind 6 promised_at
unfolding promised_at
promised_kind = record {
  takes = λ bytes at x fits within e.
      let a = bind_ok (ballot_at bytes at) (λ ballot. slot_at 0 16384 bytes ballot.1 >>= λ start. u8_up_to 6 bytes start.1 >>= λ who. reported_at start.0.0 bytes who.1 >>= λ votes. Ok (Promised ballot.0 start.0 who.0 votes.0, votes.1)) x e in
      let b = bind_ok (slot_at 0 16384 bytes a.0.1) (λ start. two_at (u8_up_to 6) (reported_at start.0.0) (λ who votes. Promised a.0.0 start.0 who votes) bytes start.1) x a.2 in
      let first = ballot_part.takes bytes at a.0 fits within a.1 in
      let second = first_part.takes bytes a.0.1 b.0 fits first.1.within b.1 in
      let ballot_text = be8 a.0.0.0 in
      let start_text = be4 b.0.0.0 in
      two_take who_part (reported_part b.0.0.0) (λ who votes. Promised a.0.0 b.0.0 who votes) bytes b.0.1 x fits second.1.within b.2 (FieldsTaken 6 bytes at)
      (λ who votes next is_who are stands. record {
        message = (first.0, second.0, is_who, are);
        fields = ballot_text ++ (start_text ++ (who ∷ votes_spelling votes));
        spelling = refl;
        stands = StandsAt-then bytes at a.0.1 next ballot_text _ first.1 (StandsAt-then bytes a.0.1 b.0.1 next start_text (who ∷ votes_spelling votes) second.1 stands);
      });
  needs_none = λ bytes at.
      bind _ _ (ballot_part.needs_none bytes at) (λ ballot. bind _ _ (first_part.needs_none bytes ballot.1)
      (λ start. two_need_none who_part (reported_part start.0.0) (λ who votes. Promised ballot.0 start.0 who votes) bytes start.1));
}

pub lower_kind : IsKind 7 lower_at
unfolding lower_at
lower_kind = two_kind 7 ballot_part ballot_part (λ ballot promised. Lower ballot promised) (λ ballot promised a b. (a, b)) (λ ballot promised. refl)

pub accept_kind : IsKind 8 accept_at
unfolding accept_at
accept_kind = three_kind 8 ballot_part slot_part value_part (λ ballot slot value. Accept ballot slot value) (λ ballot slot value a b c. (a, b, c)) (λ ballot slot value. refl)

pub accepted_kind : IsKind 9 accepted_at
unfolding accepted_at
accepted_kind = three_kind 9 ballot_part slot_part who_part (λ ballot slot who. Accepted ballot slot who) (λ ballot slot who a b c. (a, b, c)) (λ ballot slot who. refl)

pub decide_kind : IsKind 10 decide_at
unfolding decide_at
decide_kind = two_kind 10 slot_part value_part (λ slot value. Decide slot value) (λ slot value a b. (a, b)) (λ slot value. refl)

pub want_kind : IsKind 11 want_at
unfolding want_at
want_kind = two_kind 11 first_part node_part (λ start node. Want start node) (λ start node a b. (a, b)) (λ start node. refl)

-- ---- what stands there is read

pub copy_again : (bytes : List ℕ) (at next : ℕ) (segment : Replica) (offset : ℕ) (entry : Entry) → IsMessage (Copy segment offset entry) → StandsAt bytes at (segment.0 ∷ (be4 offset ++ entry_spelling entry)) next
    → copy_at bytes at ≡ Ok (Copy segment offset entry, next)
unfolding copy_at
copy_again bytes at next segment offset entry is stands =
    three_again replica_part offset_part entry_part (λ segment offset entry. Copy segment offset entry) bytes at next segment offset entry is.0 is.1 is.2 stands

pub copy_ack_again : (bytes : List ℕ) (at next : ℕ) (peer : Replica) (size : ℕ) → IsMessage (CopyAck peer size) → StandsAt bytes at (peer.0 ∷ be4 size) next → copy_ack_at bytes at ≡ Ok (CopyAck peer size, next)
unfolding copy_ack_at
copy_ack_again bytes at next peer size is stands = two_again replica_part size_part (λ peer size. CopyAck peer size) bytes at next peer size is.0 is.1 stands

pub report_again : (bytes : List ℕ) (at next : ℕ) (shard : Shard) (replica : Replica) (lengths : Lengths) → IsMessage (Report shard replica lengths)
    → StandsAt bytes at (be2 shard.0 ++ (replica.0 ∷ lengths_spelling lengths)) next → report_at bytes at ≡ Ok (Report shard replica lengths, next)
unfolding report_at
report_again bytes at next shard replica lengths is stands =
    three_again shard_part replica_part lengths_part (λ shard replica lengths. Report shard replica lengths) bytes at next shard replica lengths is.0 is.1 is.2 stands

pub least_again : (bytes : List ℕ) (at next : ℕ) (shard : Shard) (lengths : Lengths) → IsMessage (Least shard lengths) → StandsAt bytes at (be2 shard.0 ++ lengths_spelling lengths) next → least_at bytes at ≡ Ok (Least shard lengths, next)
unfolding least_at
least_again bytes at next shard lengths is stands = two_again shard_part lengths_part (λ shard lengths. Least shard lengths) bytes at next shard lengths is.0 is.1 stands

pub prepare_again : (bytes : List ℕ) (at next : ℕ) (ballot : Ballot) (start : Slot) → IsMessage (Prepare ballot start) → StandsAt bytes at (be8 ballot.0 ++ be4 start.0) next → prepare_at bytes at ≡ Ok (Prepare ballot start, next)
unfolding prepare_at
prepare_again bytes at next ballot start is stands = two_again ballot_part first_part (λ ballot start. Prepare ballot start) bytes at next ballot start is.0 is.1 stands

pub promised_again : (bytes : List ℕ) (at next : ℕ) (ballot : Ballot) (start : Slot) (who : ℕ) (votes : List Vote) → IsMessage (Promised ballot start who votes)
    → StandsAt bytes at (be8 ballot.0 ++ (be4 start.0 ++ (who ∷ votes_spelling votes))) next → promised_at bytes at ≡ Ok (Promised ballot start who votes, next)
unfolding promised_at
promised_again bytes at next ballot start who votes is stands =
    let ballot_text = be8 ballot.0 in
    let start_text = be4 start.0 in
    let rest = who ∷ votes_spelling votes in
    let behind = StandsAt-back bytes at next ballot_text (start_text ++ rest) stands in
    let first = ballot_part.again bytes at (at + length ballot_text) ballot is.0 (StandsAt-front bytes at next ballot_text (start_text ++ rest) stands) in
    let second = first_part.again bytes (at + length ballot_text) (at + length ballot_text + length start_text) start is.1 (StandsAt-front bytes (at + length ballot_text) next start_text rest behind) in
    rw (first, second)
    (two_again who_part (reported_part start.0) (λ who votes. Promised ballot start who votes) bytes (at + length ballot_text + length start_text) next who votes is.2 is.3
    (StandsAt-back bytes (at + length ballot_text) next start_text rest behind))

pub lower_again : (bytes : List ℕ) (at next : ℕ) (ballot promised : Ballot) → IsMessage (Lower ballot promised) → StandsAt bytes at (be8 ballot.0 ++ be8 promised.0) next → lower_at bytes at ≡ Ok (Lower ballot promised, next)
unfolding lower_at
lower_again bytes at next ballot promised is stands = two_again ballot_part ballot_part (λ ballot promised. Lower ballot promised) bytes at next ballot promised is.0 is.1 stands

pub accept_again : (bytes : List ℕ) (at next : ℕ) (ballot : Ballot) (slot : Slot) (value : Value) → IsMessage (Accept ballot slot value)
    → StandsAt bytes at (be8 ballot.0 ++ (be4 slot.0 ++ value_spelling value)) next → accept_at bytes at ≡ Ok (Accept ballot slot value, next)
unfolding accept_at
accept_again bytes at next ballot slot value is stands =
    three_again ballot_part slot_part value_part (λ ballot slot value. Accept ballot slot value) bytes at next ballot slot value is.0 is.1 is.2 stands

pub accepted_again : (bytes : List ℕ) (at next : ℕ) (ballot : Ballot) (slot : Slot) (who : ℕ) → IsMessage (Accepted ballot slot who)
    → StandsAt bytes at (be8 ballot.0 ++ (be4 slot.0 ++ (who ∷ []))) next → accepted_at bytes at ≡ Ok (Accepted ballot slot who, next)
unfolding accepted_at
accepted_again bytes at next ballot slot who is stands =
    three_again ballot_part slot_part who_part (λ ballot slot who. Accepted ballot slot who) bytes at next ballot slot who is.0 is.1 is.2 stands

pub decide_again : (bytes : List ℕ) (at next : ℕ) (slot : Slot) (value : Value) → IsMessage (Decide slot value) → StandsAt bytes at (be4 slot.0 ++ value_spelling value) next → decide_at bytes at ≡ Ok (Decide slot value, next)
unfolding decide_at
decide_again bytes at next slot value is stands = two_again slot_part value_part (λ slot value. Decide slot value) bytes at next slot value is.0 is.1 stands

pub want_again : (bytes : List ℕ) (at next : ℕ) (start : Slot) (node : NodeId) → IsMessage (Want start node) → StandsAt bytes at (be4 start.0 ++ be2 node.0) next → want_at bytes at ≡ Ok (Want start node, next)
unfolding want_at
want_again bytes at next start node is stands = two_again first_part node_part (λ start node. Want start node) bytes at next start node is.0 is.1 stands
