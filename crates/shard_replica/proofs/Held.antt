-- A known place of a replica's shard is held, and its entry is found there.
use Rattle.std.proofs.Common.{◌≡◌, ℕ, ◌+◌, ◌-◌, ◌<◌, ◌≤◌, eqb, List, [], ◌∷◌, ◌++◌, map, length, take, drop, Option, Some, sym, ap, ◌∙◌, subst, ⊎_elim, arith, length-append, append_assoc}
use Rattle.std.specs.Prelude.{slice_get, slice_index, nat_lt}
use Rattle.std.specs.List.{All, Contains}
use Rattle.std.proofs.lemmas.Bool.{cond-true, cond-false, cases_Bool, cases_lt, eq-eqb, le-ltb}
use Rattle.std.proofs.lemmas.List.{get_or_past, get_or-map, length-map, take_all}
use Rattle.std.proofs.lemmas.List.Elements.{All-head, All-tail, Contains-from_at}
use Rattle.std.proofs.lemmas.Option.{slice_get-get_or, slice_get_within, get_or_from_slice_get}
use Rattle.std.proofs.Math.Seq.{drop-append_seam}
use Rattle.log_base.specs.Wide.{be2, be4, be8}
use Rattle.log_base.proofs.Wide.{length-be2, length-be4, length-be8}
use Rattle.log_base.specs.declared.numbers.Place.{Place}
use Rattle.record_frame.specs.declared.entries.Entry.{Entry}
use Rattle.record_frame.specs.declared.entries.Head.{Head}
use Rattle.record_frame.specs.declared.values.Value.{Value}
use Rattle.record_frame.specs.Entries.{entry_spelling, entry_of, head_of}
use Rattle.record_frame.proofs.EntryLaws.{length-entry_spelling}
use Rattle.log_model.specs.Chain.{ShardState, chain_of, covered_of, covered_length, state_in, is_of}
use Rattle.log_model.specs.Spelling.{spell}
use Rattle.log_model.specs.Storage.{Member, Knowledge, list_in, list_found, IsSpelled, entry_in}
use Rattle.log_model.specs.Reading.{Found, Trimmed, Elsewhere, read, read_place, read_entry}
use Rattle.log_model.proofs.Spelled.{spelled_where_covered}
use Rattle.log_model.proofs.Growth.{chain_of-IsChain}
use Rattle.shard_replica.specs.Lists.{Segment, segment_at, no_segment}

-- what stands at an index is contained
contained-at : {X : Type 0} (xs : List X) (k : ℕ) (x : X) → slice_get xs k ≡ Some x → Contains xs x
contained-at xs k x there = Contains-from_at xs x (k, slice_get_within xs k x there, λ d. get_or_from_slice_get xs k x d there)

-- a covered length above an offset is one of a replica
covered-within : (replicas : ℕ) (states : List ShardState) (shard segment offset : ℕ) → All (λ (s : ShardState). length s.covered ≡ replicas) states
    → offset < covered_length (state_in states shard) segment → segment < replicas
covered-within replicas [] shard segment offset all below = absurd (omega arith)
covered-within replicas (state ∷ states) shard segment offset all below =
    ⊎_elim
    (λ own.
    let here : offset < slice_index state.covered segment =
    subst (λ (o : Option ShardState). offset < covered_length o segment) (cond-true (is_of shard state) (Some state) (state_in states shard) own) below in
    let size : length state.covered ≡ replicas = All-head (λ (s : ShardState). length s.covered ≡ replicas) state states all in
    ⊎_elim
    (λ within. omega (arith, within, size))
    (λ past. let none : slice_index state.covered segment ≡ 0 = get_or_past state.covered segment 0 past in absurd (omega (arith, here, none)))
    (cases_lt segment (length state.covered)))
    (λ other.
    covered-within replicas states shard segment offset (All-tail (λ (s : ShardState). length s.covered ≡ replicas) state states all)
    (subst (λ (o : Option ShardState). offset < covered_length o segment) (cond-false (is_of shard state) (Some state) (state_in states shard) other) below))
    (cases_Bool (is_of shard state))

-- a known place is of a replica of its shard, and covered
pub place-covered : (replicas : ℕ) (values : List Value) (position : ℕ) (place : Place) → slice_get (spell replicas values) position ≡ Some place
    → (place.segment.0 < replicas) × (place.offset < covered_of (chain_of replicas values) place.shard.0 place.segment.0)
place-covered replicas values position place there =
    let below = (spelled_where_covered replicas values place.shard.0 place.segment.0 place.offset).0 (contained-at (spell replicas values) position place there) in
    (covered-within replicas (chain_of replicas values).shards place.shard.0 place.segment.0 place.offset (chain_of-IsChain replicas values).segments below, below)

-- the list of a segment is the entries of its list
pub list-of : (segments : List Segment) (k : ℕ) → k < length segments
    → list_in (map (λ (s : Segment). s.entries) segments) k ≡ (segment_at segments k).entries
list-of segments k within =
    let size = length-map segments (λ (s : Segment). s.entries) in
    ap list_found (slice_get-get_or (map (λ (s : Segment). s.entries) segments) k [] (omega (arith, size, within)))
    ∙ get_or-map (λ (s : Segment). s.entries) segments k no_segment [] within

-- a position at or above the mark, of a place of the own shard that is held
pub read-found : (member : Member) (lists : List (List Entry)) (known : Knowledge) (position : ℕ) (place : Place) (entry : Entry)
    → known.chain.mark ≤ position → slice_get known.places position ≡ Some place → place.shard.0 ≡ member.shard
    → slice_get (list_in lists place.segment.0) place.offset ≡ Some entry
    → read member lists known position ≡ Found entry
unfolding read
read-found member lists known position place entry above there shard found =
    cond-false (nat_lt position known.chain.mark) (Trimmed known.chain.mark) (read_place member lists known.chain.end (slice_get known.places position)) (le-ltb position known.chain.mark above)
    ∙ ap (read_place member lists known.chain.end) there
    ∙ cond-true (eqb place.shard.0 member.shard) (read_entry known.chain.end (slice_get (list_in lists place.segment.0) place.offset)) (Elsewhere place.shard.0) (eq-eqb place.shard.0 member.shard shard)
    ∙ ap (read_entry known.chain.end) found

-- what follows the first 15 bytes of an entry is its record
pub record-bytes : (entry : Entry) → drop 15 (entry_spelling entry) ≡ entry.bytes
record-bytes entry =
    let two = be2 entry.client.0 in
    let eight = be8 entry.number.0 in
    let four = be4 (length entry.bytes) in
    let front : List ℕ = (1 ∷ two) ++ (eight ++ four) in
    let size : length front ≡ 15 = omega (arith, length-append (1 ∷ two) (eight ++ four), length-append eight four, length-be2 entry.client.0, length-be8 entry.number.0, length-be4 (length entry.bytes)) in
    let whole : entry_spelling entry ≡ front ++ entry.bytes =
    ap (λ (bytes : List ℕ). 1 ∷ bytes) (ap (λ (bytes : List ℕ). two ++ bytes) (sym (append_assoc eight four entry.bytes)) ∙ sym (append_assoc two (eight ++ four) entry.bytes)) in
    ap (λ (bytes : List ℕ). drop 15 bytes) whole
    ∙ subst (λ (n : ℕ). drop n (front ++ entry.bytes) ≡ entry.bytes) size (drop-append_seam front entry.bytes)

-- the record of a payload, taken as the rest behind its head
pub record-of : (payload : List ℕ) → IsSpelled payload → take (length payload - 15) (drop 15 payload) ≡ (entry_in payload).bytes
record-of payload spelled =
    let all : drop 15 payload ≡ (entry_in payload).bytes = ap (λ (bytes : List ℕ). drop 15 bytes) spelled.spelling ∙ record-bytes (entry_in payload) in
    let size : length payload ≡ 15 + length (entry_in payload).bytes = ap (λ (bytes : List ℕ). length bytes) spelled.spelling ∙ length-entry_spelling (entry_in payload) in
    ap (take (length payload - 15)) all ∙ take_all (length payload - 15) (entry_in payload).bytes (omega (arith, size))

-- what is found, told by the head and the bytes
pub found-told : (head : Head) (payload rest : List ℕ) → rest ≡ (entry_in payload).bytes → head ≡ head_of (entry_in payload)
    → (Found (entry_in payload) ≡ Found (entry_of head.client head.number rest)) × (head.length ≡ length rest)
found-told head payload rest is told = (
  sym (ap (λ (h : Head). Found (entry_of h.client h.number rest)) told ∙ ap (λ (bytes : List ℕ). Found (entry_of (entry_in payload).client (entry_in payload).number bytes)) is),
  ap (λ (h : Head). h.length) told ∙ ap (λ (bytes : List ℕ). length bytes) (sym is),
)
