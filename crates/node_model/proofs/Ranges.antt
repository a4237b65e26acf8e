-- The test of a message is passed exactly by those that have a spelling.
use Rattle.std.proofs.Common.{◌≡◌, ℕ, zero, suc, ◌+◌, ◌^◌, ◌<◌, ◌≤◌, List, [], ◌∷◌, length, Bool, true, false, ◌&&◌, slice_index, refl, arith, ltb-true, leb-true, lt-ltb, le-leb, eqb-true, eq-eqb}
use Rattle.std.proofs.lemmas.Bool.{and_parts}
use Rattle.std.specs.List.{AllByRecursion}
use Rattle.log_base.specs.Wide.{IsBytes}
use Rattle.message_frame.specs.declared.messages.Message.{Message}
use Rattle.message_frame.specs.declared.messages.Message.TheVariants.{Copy, CopyAck, Report, Least, Prepare, Promised, Lower, Accept, Accepted, Decide, Want}
use Rattle.message_frame.specs.declared.messages.Vote.{Vote}
use Rattle.message_frame.specs.Spelling.{IsBallot, IsMessage, IsVote, Rise}
use Rattle.record_frame.specs.declared.entries.Entry.{Entry}
use Rattle.record_frame.specs.declared.values.Lengths.{Lengths}
use Rattle.record_frame.specs.declared.values.Value.{Value}
use Rattle.record_frame.specs.declared.values.Value.TheVariants.{Noop, Cut, Add, Finalise, Trim}
use Rattle.record_frame.specs.Entries.{IsEntry}
use Rattle.record_frame.specs.Values.{IsLengths, IsValue}
use Rattle.node_model.specs.Ranges.{are_bytes, are_cells, are_lengths, are_votes, is_ballot, is_entry, is_message, is_value, is_vote}

-- both tests are passed
joined : (a b : Bool) → a ≡ true → b ≡ true → (a && b) ≡ true
joined true b p q = q
joined false b p q = p

pub both : {a b : Bool} → a ≡ true → b ≡ true → (a && b) ≡ true
both p q = joined _ _ p q

bytes_are : (bytes : List ℕ) → are_bytes bytes ≡ true → IsBytes bytes
bytes_are [] t i = omega arith
bytes_are (byte ∷ bytes) t zero = ltb-true byte 256 (and_parts _ _ t).0
bytes_are (byte ∷ bytes) t (suc i) = bytes_are bytes (and_parts _ _ t).1 i

bytes_pass : (bytes : List ℕ) → IsBytes bytes → are_bytes bytes ≡ true
bytes_pass [] h = refl
bytes_pass (byte ∷ bytes) h = both (lt-ltb byte 256 (h zero)) (bytes_pass bytes (λ i. h (suc i)))

pub entry_is : (entry : Entry) → is_entry entry ≡ true → IsEntry entry
entry_is entry t =
    let client = and_parts _ _ t in
    let number = and_parts _ _ client.1 in
    let size = and_parts _ _ number.1 in
    record {
      client = ltb-true entry.client.0 (2 ^ 16) client.0;
      number = ltb-true entry.number.0 (2 ^ 64) number.0;
      size = leb-true (length entry.bytes) 65535 size.0;
      bytes = bytes_are entry.bytes size.1;
    }

pub entry_passes : (entry : Entry) → IsEntry entry → is_entry entry ≡ true
entry_passes entry h =
    both (lt-ltb entry.client.0 (2 ^ 16) h.client)
    (both (lt-ltb entry.number.0 (2 ^ 64) h.number) (both (le-leb (length entry.bytes) 65535 h.size) (bytes_pass entry.bytes h.bytes)))

cells_small : (count : ℕ) (cells : List ℕ) → are_cells count cells ≡ true → (k : ℕ) → k < count → slice_index cells k ≤ 16384
cells_small count [] t k below = omega arith
cells_small zero (cell ∷ cells) t k below = absurd (omega arith)
cells_small (suc count) (cell ∷ cells) t zero below = leb-true cell 16384 (and_parts _ _ t).0
cells_small (suc count) (cell ∷ cells) t (suc k) below = cells_small count cells (and_parts _ _ t).1 k (omega arith)

cells_rest : (count : ℕ) (cells : List ℕ) → are_cells count cells ≡ true → (k : ℕ) → count ≤ k → slice_index cells k ≡ 0
cells_rest count [] t k past = refl
cells_rest zero (cell ∷ cells) t zero past = eqb-true cell 0 (and_parts _ _ t).0
cells_rest zero (cell ∷ cells) t (suc k) past = cells_rest zero cells (and_parts _ _ t).1 k (omega arith)
cells_rest (suc count) (cell ∷ cells) t zero past = absurd (omega arith)
cells_rest (suc count) (cell ∷ cells) t (suc k) past = cells_rest count cells (and_parts _ _ t).1 k (omega arith)

cells_pass : (count : ℕ) (cells : List ℕ) → ((k : ℕ) → k < count → slice_index cells k ≤ 16384) → ((k : ℕ) → count ≤ k → slice_index cells k ≡ 0) → are_cells count cells ≡ true
cells_pass count [] small rest = refl
cells_pass zero (cell ∷ cells) small rest =
    both (eq-eqb cell 0 (rest zero (omega arith))) (cells_pass zero cells (λ k below. absurd (omega arith)) (λ k past. rest (suc k) (omega arith)))
cells_pass (suc count) (cell ∷ cells) small rest =
    both (le-leb cell 16384 (small zero (omega arith))) (cells_pass count cells (λ k below. small (suc k) (omega arith)) (λ k past. rest (suc k) (omega arith)))

lengths_are : (limit : ℕ) (lengths : Lengths) → are_lengths limit lengths ≡ true → IsLengths limit lengths
lengths_are limit lengths t =
    let some = and_parts _ _ t in
    let few = and_parts _ _ some.1 in
    let cells = and_parts _ _ few.1 in
    record {
      some = leb-true 1 lengths.count some.0;
      count = leb-true lengths.count limit few.0;
      cells = eqb-true (length lengths.length) 32 cells.0;
      small = cells_small lengths.count lengths.length cells.1;
      rest = cells_rest lengths.count lengths.length cells.1;
    }

lengths_pass : (limit : ℕ) (lengths : Lengths) → IsLengths limit lengths → are_lengths limit lengths ≡ true
lengths_pass limit lengths h =
    both (le-leb 1 lengths.count h.some)
    (both (le-leb lengths.count limit h.count) (both (eq-eqb (length lengths.length) 32 h.cells) (cells_pass lengths.count lengths.length h.small h.rest)))

pub value_is : (value : Value) → is_value value ≡ true → IsValue value
value_is Noop t = tt
value_is (Cut lengths) t = lengths_are 32 lengths t
value_is (Add shard) t = leb-true shard.0 7 t
value_is (Finalise shard) t = leb-true shard.0 7 t
value_is (Trim position) t = ltb-true position.0 (2 ^ 64) t

pub value_passes : (value : Value) → IsValue value → is_value value ≡ true
value_passes Noop h = refl
value_passes (Cut lengths) h = lengths_pass 32 lengths h
value_passes (Add shard) h = le-leb shard.0 7 h
value_passes (Finalise shard) h = le-leb shard.0 7 h
value_passes (Trim position) h = lt-ltb position.0 (2 ^ 64) h

pub ballot_is : (ballot : ℕ) → is_ballot ballot ≡ true → IsBallot ballot
ballot_is ballot t = let parts = and_parts _ _ t in (leb-true 1 ballot parts.0, ltb-true ballot (2 ^ 56) parts.1)

pub ballot_passes : (ballot : ℕ) → IsBallot ballot → is_ballot ballot ≡ true
ballot_passes ballot h = both (le-leb 1 ballot h.0) (lt-ltb ballot (2 ^ 56) h.1)

-- a vote of the window, not below a least slot
IsVoteFrom : ℕ → ℕ → Vote → Type 0
IsVoteFrom first least vote = IsVote first vote × (least ≤ vote.slot.0)

vote_is : (first least : ℕ) (vote : Vote) → is_vote first least vote ≡ true → IsVoteFrom first least vote
unfolding IsVoteFrom
vote_is first least vote t =
    let start = and_parts _ _ t in
    let window = and_parts _ _ start.1 in
    let slot = and_parts _ _ window.1 in
    let ballot = and_parts _ _ slot.1 in
    let value = and_parts _ _ ballot.1 in (
      record {
        start = leb-true first vote.slot.0 start.0;
        window = leb-true vote.slot.0 (first + 63) window.0;
        slot = leb-true vote.slot.0 16383 slot.0;
        ballot = ballot_is vote.ballot.0 ballot.0;
        value = value_is vote.value value.0;
      },
      leb-true least vote.slot.0 value.1,
    )

vote_passes : (first least : ℕ) (vote : Vote) → IsVote first vote → least ≤ vote.slot.0 → is_vote first least vote ≡ true
vote_passes first least vote h low =
    both (le-leb first vote.slot.0 h.start)
    (both (le-leb vote.slot.0 (first + 63) h.window)
    (both (le-leb vote.slot.0 16383 h.slot)
    (both (ballot_passes vote.ballot.0 h.ballot)
    (both (value_passes vote.value h.value) (le-leb least vote.slot.0 low)))))

votes_each : (first least : ℕ) (votes : List Vote) → are_votes first least votes ≡ true → AllByRecursion (IsVote first) votes
unfolding IsVoteFrom
votes_each first least [] t = tt
votes_each first least (vote ∷ votes) t =
    let parts = and_parts _ _ t in
    ((vote_is first least vote parts.0).0, votes_each first (vote.slot.0 + 1) votes parts.1)

votes_rise : (first least : ℕ) (votes : List Vote) → are_votes first least votes ≡ true → Rise least votes
unfolding IsVoteFrom
votes_rise first least [] t = tt
votes_rise first least (vote ∷ votes) t =
    let parts = and_parts _ _ t in
    ((vote_is first least vote parts.0).1, votes_rise first (vote.slot.0 + 1) votes parts.1)

votes_pass : (first least : ℕ) (votes : List Vote) → AllByRecursion (IsVote first) votes → Rise least votes → are_votes first least votes ≡ true
votes_pass first least [] each rise = refl
votes_pass first least (vote ∷ votes) each rise =
    both (vote_passes first least vote each.0 rise.0) (votes_pass first (vote.slot.0 + 1) votes each.1 rise.1)

-- a message that passes has a spelling
pub message_is : (message : Message) → is_message message ≡ true → IsMessage message
message_is (Copy segment offset entry) t =
    let parts = and_parts _ _ t in
    let rest = and_parts _ _ parts.1 in
    (leb-true segment.0 4 parts.0, leb-true offset 16383 rest.0, entry_is entry rest.1)
message_is (CopyAck peer held) t = let parts = and_parts _ _ t in (leb-true peer.0 4 parts.0, leb-true held 16384 parts.1)
message_is (Report shard replica lengths) t =
    let parts = and_parts _ _ t in
    let rest = and_parts _ _ parts.1 in
    (leb-true shard.0 7 parts.0, leb-true replica.0 4 rest.0, lengths_are 5 lengths rest.1)
message_is (Least shard lengths) t = let parts = and_parts _ _ t in (leb-true shard.0 7 parts.0, lengths_are 5 lengths parts.1)
message_is (Prepare ballot slot) t = let parts = and_parts _ _ t in (ballot_is ballot.0 parts.0, leb-true slot.0 16384 parts.1)
message_is (Promised ballot slot who votes) t =
    let parts = and_parts _ _ t in
    let from = and_parts _ _ parts.1 in
    let name = and_parts _ _ from.1 in
    let few = and_parts _ _ name.1 in (
      ballot_is ballot.0 parts.0,
      leb-true slot.0 16384 from.0,
      leb-true who 6 name.0,
      record { few = leb-true (length votes) 64 few.0; each = votes_each slot.0 slot.0 votes few.1; rise = votes_rise slot.0 slot.0 votes few.1 },
    )
message_is (Lower ballot promise) t = let parts = and_parts _ _ t in (ballot_is ballot.0 parts.0, ballot_is promise.0 parts.1)
message_is (Accept ballot slot value) t =
    let parts = and_parts _ _ t in
    let rest = and_parts _ _ parts.1 in
    (ballot_is ballot.0 parts.0, leb-true slot.0 16383 rest.0, value_is value rest.1)
message_is (Accepted ballot slot who) t =
    let parts = and_parts _ _ t in
    let rest = and_parts _ _ parts.1 in
    (ballot_is ballot.0 parts.0, leb-true slot.0 16383 rest.0, leb-true who 6 rest.1)
message_is (Decide slot value) t = let parts = and_parts _ _ t in (leb-true slot.0 16383 parts.0, value_is value parts.1)
message_is (Want slot node) t = let parts = and_parts _ _ t in (leb-true slot.0 16384 parts.0, leb-true node.0 42 parts.1)

-- and each that has one passes
pub message_passes : (message : Message) → IsMessage message → is_message message ≡ true
message_passes (Copy segment offset entry) h = both (le-leb segment.0 4 h.0) (both (le-leb offset 16383 h.1) (entry_passes entry h.2))
message_passes (CopyAck peer held) h = both (le-leb peer.0 4 h.0) (le-leb held 16384 h.1)
message_passes (Report shard replica lengths) h = both (le-leb shard.0 7 h.0) (both (le-leb replica.0 4 h.1) (lengths_pass 5 lengths h.2))
message_passes (Least shard lengths) h = both (le-leb shard.0 7 h.0) (lengths_pass 5 lengths h.1)
message_passes (Prepare ballot slot) h = both (ballot_passes ballot.0 h.0) (le-leb slot.0 16384 h.1)
message_passes (Promised ballot slot who votes) h =
    both (ballot_passes ballot.0 h.0)
    (both (le-leb slot.0 16384 h.1) (both (le-leb who 6 h.2) (both (le-leb (length votes) 64 h.3.few) (votes_pass slot.0 slot.0 votes h.3.each h.3.rise))))
message_passes (Lower ballot promise) h = both (ballot_passes ballot.0 h.0) (ballot_passes promise.0 h.1)
message_passes (Accept ballot slot value) h = both (ballot_passes ballot.0 h.0) (both (le-leb slot.0 16383 h.1) (value_passes value h.2))
message_passes (Accepted ballot slot who) h = both (ballot_passes ballot.0 h.0) (both (le-leb slot.0 16383 h.1) (le-leb who 6 h.2))
message_passes (Decide slot value) h = both (le-leb slot.0 16383 h.0) (value_passes value h.1)
message_passes (Want slot node) h = both (le-leb slot.0 16384 h.0) (le-leb node.0 42 h.1)
