-- How many bytes spell a message.
use Rattle.std.proofs.Common.{◌≡◌, ℕ, ◌+◌, ◌*◌, ◌≤◌, List, [], ◌∷◌, length, Result, Ok, Err, refl, arith}
use Rattle.std.specs.Prelude.{IsOk, OnOk}
use Rattle.std.specs.List.{flat_map, AllByRecursion}
use Rattle.std.proofs.lemmas.List.{length-append}
use Rattle.std.proofs.lemmas.List.Concat.{flat_map-cons}
use Rattle.log_base.specs.Wide.{be2, be4, be8}
use Rattle.record_frame.specs.declared.values.Lengths.{Lengths}
use Rattle.record_frame.specs.declared.values.Value.{Value}
use Rattle.record_frame.specs.declared.values.Value.TheVariants.{Noop, Cut, Add, Finalise, Trim}
use Rattle.record_frame.specs.Values.{IsLengths, IsValue, value_spelling, lengths_spelling}
use Rattle.record_frame.proofs.EntryLaws.{length-entry_spelling}
use Rattle.record_frame.proofs.LengthLaws.{length-lengths_spelling}
use Rattle.message_frame.specs.declared.messages.Message.{Message}
use Rattle.message_frame.specs.declared.messages.Message.TheVariants.{Copy, CopyAck, Report, Least, Prepare, Promised, Lower, Accept, Accepted, Decide, Want}
use Rattle.message_frame.specs.declared.messages.Vote.{Vote}
use Rattle.message_frame.specs.Sizes.{message_size}
use Rattle.message_frame.specs.Spelling.{IsVote, HasValue, IsMessage, vote_spelling, message_spelling}

lengths_size : (limit : ℕ) (lengths : Lengths) → limit ≤ 32 → IsLengths limit lengths → length (lengths_spelling lengths) ≡ 1 + 4 * lengths.count
lengths_size limit lengths le is = length-lengths_spelling lengths (omega (arith, is.count, is.cells))

pub length-message_spelling : (message : Message) → IsMessage message → length (message_spelling message) ≡ message_size message
unfolding be2 be4 be8
length-message_spelling (Copy segment offset entry) is = omega (arith, length-entry_spelling entry)
length-message_spelling (CopyAck peer size) is = refl
length-message_spelling (Report shard replica lengths) is = omega (arith, lengths_size 5 lengths (omega arith) is.2)
length-message_spelling (Least shard lengths) is = omega (arith, lengths_size 5 lengths (omega arith) is.1)
length-message_spelling (Prepare ballot start) is = refl
length-message_spelling (Promised ballot start who votes) is = omega arith
length-message_spelling (Lower ballot promised) is = refl
length-message_spelling (Accept ballot slot value) is = omega arith
length-message_spelling (Accepted ballot slot who) is = refl
length-message_spelling (Decide slot value) is = omega arith
length-message_spelling (Want start node) is = refl

-- ---- how long values and votes can be

pub value_short : (value : Value) → IsValue value → length (value_spelling value) ≤ 130
unfolding be2 be8
value_short Noop is = omega arith
value_short (Cut lengths) is = omega (arith, lengths_size 32 lengths (omega arith) is, is.count)
value_short (Add shard) is = omega arith
value_short (Finalise shard) is = omega arith
value_short (Trim position) is = omega arith

vote_short : (vote : Vote) → HasValue vote → length (vote_spelling vote) ≤ 142
unfolding be4 be8
vote_short vote is = omega (arith, value_short vote.value is)

pub votes_short : (votes : List Vote) → AllByRecursion HasValue votes → length (flat_map vote_spelling votes) ≤ 142 * length votes
votes_short [] values = omega arith
votes_short (vote ∷ votes) values =
    rw flat_map-cons (omega (arith, length-append (vote_spelling vote) (flat_map vote_spelling votes), vote_short vote values.0, votes_short votes values.1))

pub values_of : (first : ℕ) (votes : List Vote) → AllByRecursion (IsVote first) votes → AllByRecursion HasValue votes
values_of first [] each = tt
values_of first (vote ∷ votes) each = (each.0.value, values_of first votes each.1)

-- ---- what a call that had room wrote

-- what an answer of Ok says, where the answer is Ok
pub at_ok : {T E : Type 0} (r : Result T E) (P : Type 0) → OnOk r P → IsOk r → P
at_ok (Ok x) P holds ok = holds
at_ok (Err e) P holds ok = absurd cc
