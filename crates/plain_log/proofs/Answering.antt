-- What the answers say in a coherent state: each position below the end has its entry, and an append has its position.
use Rattle.std.proofs.Common.{◌≡◌, ℕ, ◌+◌, ◌<◌, ◌≤◌, true, false, ltb, List, [], ◌∷◌, ◌++◌, length, length-append, Option, None, Some, refl, sym, ap, ◌∙◌, subst, ⊎_elim, arith}
use Rattle.std.specs.Prelude.{slice_get, slice_index, slice_index_or, option_and_then}
use Rattle.std.specs.List.{Contains}
use Rattle.std.proofs.lemmas.Bool.{cases_Bool, cases_eq, cases_lt, lt-ltb, le-ltb}
use Rattle.std.proofs.lemmas.List.{get_or-set_same, get_or-set_other}
use Rattle.std.proofs.lemmas.List.Elements.{Contains-get_or}
use Rattle.std.proofs.lemmas.Nat.{mul-add-lt, same_from_place}
use Rattle.std.proofs.lemmas.Option.{slice_get-get_or, slice_get_within, get_or_from_slice_get}
use Rattle.std.proofs.Math.Seq.{get_or-append_seam}
use Rattle.log_base.specs.ClusterShape.{Shape}
use Rattle.log_base.specs.declared.numbers.Place.{Place}
use Rattle.log_base.specs.declared.numbers.Position.{Position}
use Rattle.log_base.specs.declared.numbers.Replica.{Replica}
use Rattle.log_base.specs.declared.numbers.Shard.{Shard}
use Rattle.record_frame.specs.declared.entries.Entry.{Entry}
use Rattle.record_frame.specs.declared.values.Value.TheVariants.{Cut}
use Rattle.log_model.specs.Chain.{ChainState, ShardState, Live, chain_of, is_added, covered_of, covered_length}
use Rattle.log_model.specs.Lookup.{segment_index, entry_at_place, entry_at_position, position_of_place}
use Rattle.log_model.specs.Places.{place_at}
use Rattle.log_model.specs.Spelling.{spell}
use Rattle.log_model.proofs.Appending.{chain_of-append, end-chain_of}
use Rattle.log_model.proofs.Growth.{chain_of-IsChain}
use Rattle.log_model.proofs.Spelled.{spelled_where_covered, position_is_index, position_stays, one_position}
use Rattle.log_model.proofs.States.{state_of_added, state_of_not_added}
use Rattle.command_frame.specs.declared.items.Item.TheVariants.{Append}
use Rattle.reply_frame.specs.declared.replies.Reply.{Found, At, NotAdded, PendingRead}
use Rattle.command_frame.specs.Items.{IsItem}
use Rattle.plain_log.specs.Log.{LogState, after, drawn, entries_of, knows, found_standing, standing_of, cut_of, next_entry, read_in, reply_to, stored}
use Rattle.plain_log.proofs.Lists.{found_state, list_within, within_where_some}
use Rattle.plain_log.specs.Coherent.{IsCoherent, IsCoherentState, IsOfShape}
use Rattle.plain_log.proofs.Coherent.{coherent_stored}

-- A segment of which something is covered is one of the config.
pub covered_in_range : (shape : Shape) (chain : ChainState) (segments : List (List Entry)) (s j : ℕ) → IsCoherent shape chain segments
    → 0 < covered_of chain s j → (s < shape.shards) × (j < shape.replicas)
covered_in_range shape chain segments s j is some =
    ⊎_elim
    (λ added.
    let there = state_of_added chain.shards s added in
    let facts = found_state (IsOfShape shape) chain.shards s there.0 is.shards there.1 in
    let covered : covered_of chain s j ≡ slice_index there.0.covered j = ap (λ (found : Option ShardState). covered_length found j) there.1 in
    let within = within_where_some there.0.covered j (omega (arith, some, covered)) in
    (subst (λ (n : ℕ). n < shape.shards) facts.1 facts.0.0, omega (arith, within, facts.0.1)))
    (λ absent.
    let none = ap (λ (found : Option ShardState). covered_length found j) (state_of_not_added chain.shards s absent) in
    absurd (omega (arith, some, none)))
    (cases_Bool (is_added chain s))

-- an entry for where there is none
abbrev pub no_entry : Entry
no_entry = record { client = record { 0 = 0 }; number = record { 0 = 0 }; bytes = [] }

-- Each place that is spelled has its entry.
pub spelled_entry : (shape : Shape) (state : LogState) (place : Place) → IsCoherentState shape state → Contains (spell shape.replicas state.values) place
    → (entry : Entry) × (entry_at_place shape.replicas state.segments place ≡ Some entry)
spelled_entry shape state place is spelled =
    let replicas = shape.replicas in
    let s = place.shard.0 in
    let j = place.segment.0 in
    let index = segment_index replicas s j in
    let entries = slice_index_or state.segments index [] in
    let below = (spelled_where_covered replicas state.values s j place.offset).0 spelled in
    let place_is = covered_in_range shape (chain_of replicas state.values) state.segments s j is (omega (arith, below)) in
    let stored_one : place.offset < length entries = omega (arith, below, is.covered s j place_is.0 place_is.1) in
    let list : slice_get state.segments index ≡ Some entries =
    slice_get-get_or state.segments index [] (list_within state.segments index place.offset stored_one) in
    let entry = slice_get-get_or entries place.offset no_entry stored_one in (
      slice_index_or entries place.offset no_entry,
      ap (λ (found : Option (List Entry)). option_and_then (λ (l : List Entry). slice_get l place.offset) found) list ∙ entry,
    )

-- what is read where an entry stands
pub read_where_stands : (shape : Shape) (state : LogState) (position : Position) (entry : Entry)
    → (chain_of shape.replicas state.values).mark ≤ position.0 → position.0 < (chain_of shape.replicas state.values).end
    → entry_at_position shape.replicas state.values state.segments position.0 ≡ Some entry
    → read_in shape.replicas state position ≡ Found position entry
read_where_stands shape state position entry from within stands =
    let not_below : ltb position.0 (chain_of shape.replicas state.values).mark ≡ false = le-ltb position.0 _ from in
    let below : ltb position.0 (chain_of shape.replicas state.values).end ≡ true = lt-ltb position.0 _ within in
    rw (not_below, below, stands) refl

pub read_finds : (shape : Shape) (state : LogState) (position : Position) → IsCoherentState shape state
    → (chain_of shape.replicas state.values).mark ≤ position.0 → position.0 < (chain_of shape.replicas state.values).end
    → (entry : Entry) × (read_in shape.replicas state position ≡ Found position entry)
read_finds shape state position is from within =
    let places = spell shape.replicas state.values in
    let inside : position.0 < length places = omega (arith, within, end-chain_of shape.replicas state.values) in
    let place = slice_index_or places position.0 (place_at 0 0 0) in
    let stands : slice_get places position.0 ≡ Some place = slice_get-get_or places position.0 (place_at 0 0 0) inside in
    let found = spelled_entry shape state place is (Contains-get_or places position.0 (place_at 0 0 0) inside) in
    let there : entry_at_position shape.replicas state.values state.segments position.0 ≡ Some found.0 =
    ap (λ (at : Option Place). option_and_then (entry_at_place shape.replicas state.segments) at) stands ∙ found.1 in
    (found.0, read_where_stands shape state position found.0 from within there)

-- The list that an entry joins ends with it.
grown_here : (shape : Shape) (state : LogState) (s j : ℕ) (entry : Entry) → s < shape.shards → j < shape.replicas → IsCoherentState shape state
    → slice_index_or (stored shape.replicas state s j entry).segments (segment_index shape.replicas s j) []
    ≡ entries_of shape.replicas state s j ++ entry ∷ []
grown_here shape state s j entry in_range within is =
    let index = segment_index shape.replicas s j in
    let inside : index < length state.segments = omega (arith, is.segments_of_all, mul-add-lt s shape.replicas j shape.shards in_range within) in
    get_or-set_same state.segments index (entries_of shape.replicas state s j ++ entry ∷ []) [] inside

-- The entry that is stored stands at a position, which is that of its place.
pub stored_position : (shape : Shape) (state : LogState) (s j : ℕ) (entry : Entry) → s < shape.shards → j < shape.replicas
    → standing_of shape.replicas state s ≡ Some Live → IsCoherentState shape state
    → let next = stored shape.replicas state s j entry in
    (position : ℕ)
    × (position_of_place shape.replicas next.values (place_at s j (length (entries_of shape.replicas state s j))) ≡ Some position)
    × (entry_at_position shape.replicas next.values next.segments position ≡ Some entry)
stored_position shape state s j entry in_range within live is =
    let replicas = shape.replicas in
    let index = segment_index replicas s j in
    let entries = entries_of replicas state s j in
    let next = stored replicas state s j entry in
    let offset = length entries in
    let place = place_at s j offset in
    let places = spell replicas next.values in
    let is_next = coherent_stored shape state s j entry live within is in
    let list = grown_here shape state s j entry in_range within is in
    let longer : length (slice_index_or next.segments index []) ≡ offset + 1 =
    ap (λ (l : List Entry). length l) list ∙ length-append entries (entry ∷ []) in
    let below : offset < covered_of (chain_of replicas next.values) s j = omega (arith, longer, is_next.covered s j in_range within) in
    let spelled = (spelled_where_covered replicas next.values s j offset).1 below in
    let stands : slice_get places spelled.0 ≡ Some place = slice_get-get_or places spelled.0 place spelled.1 ∙ ap Some spelled.2 in
    let told = (position_is_index replicas next.values place spelled.0).1 stands in
    let has_list : slice_get next.segments index ≡ Some (entries ++ entry ∷ []) =
    slice_get-get_or next.segments index [] (list_within next.segments index offset (omega (arith, longer))) ∙ ap Some list in
    let last : slice_get (entries ++ entry ∷ []) offset ≡ Some entry =
    slice_get-get_or (entries ++ entry ∷ []) offset no_entry (omega (arith, length-append entries (entry ∷ []))) ∙ ap Some (get_or-append_seam entries entry [] no_entry) in (
      spelled.0,
      told,
      ap (λ (at : Option Place). option_and_then (entry_at_place replicas next.segments) at) stands
          ∙ ap (λ (found : Option (List Entry)). option_and_then (λ (l : List Entry). slice_get l offset) found) has_list ∙ last,
    )

-- Of what the cut with it covers, the entry's place is the only one.
pub only_newest : (shape : Shape) (state : LogState) (s j : ℕ) (entry : Entry) → s < shape.shards → j < shape.replicas
    → standing_of shape.replicas state s ≡ Some Live → IsCoherentState shape state → (place : Place) (at : ℕ)
    → length (spell shape.replicas state.values) ≤ at
    → slice_get (spell shape.replicas (stored shape.replicas state s j entry).values) at ≡ Some place
    → place ≡ place_at s j (length (entries_of shape.replicas state s j))
only_newest shape state s j entry in_range within live is place at behind stands =
    let replicas = shape.replicas in
    let index = segment_index replicas s j in
    let entries = entries_of replicas state s j in
    let next = stored replicas state s j entry in
    let places = spell replicas next.values in
    let is_next = coherent_stored shape state s j entry live within is in
    let t = place.shard.0 in
    let k = place.segment.0 in
    let covered = covered_of (chain_of replicas state.values) t k in
    let spelled : Contains places place = (at, slice_get_within places at place stands, get_or_from_slice_get places at place place stands) in
    let below = (spelled_where_covered replicas next.values t k place.offset).0 spelled in
    let place_is = covered_in_range shape (chain_of replicas next.values) next.segments t k is_next (omega (arith, below)) in
    let not_earlier : covered ≤ place.offset =
    ⊎_elim
    (λ earlier.
    let found = (spelled_where_covered replicas state.values t k place.offset).1 earlier in
    let first = slice_get-get_or (spell replicas state.values) found.0 place found.1 ∙ ap Some found.2 in
    let stays = position_stays replicas state.values (Cut (cut_of next.segments) ∷ []) place found.0 first in
    absurd (omega (arith, one_position replicas next.values place found.0 at stays stands, found.1, behind)))
    (λ later. later) (cases_lt place.offset covered) in
    let old = is.covered t k place_is.0 place_is.1 in
    let new = is_next.covered t k place_is.0 place_is.1 in
    ⊎_elim
    (λ same.
    let parts = same_from_place t k s j replicas place_is.1 within same in
    let longer = ap (λ (l : List Entry). length l) (grown_here shape state s j entry in_range within is) ∙ length-append entries (entry ∷ []) in
    let new_here = ap (λ (i : ℕ). length (slice_index_or next.segments i [])) same in
    let old_here = ap (λ (i : ℕ). length (slice_index_or state.segments i [])) same in
    let offset : place.offset ≡ length entries = omega (arith, below, not_earlier, old, new, longer, new_here, old_here) in
    ap (λ (n : ℕ). place_at n k place.offset) parts.0 ∙ ap (λ (n : ℕ). place_at s n place.offset) parts.1 ∙ ap (place_at s j) offset)
    (λ other.
    let kept = ap (λ (l : List Entry). length l) (get_or-set_other state.segments index (segment_index replicas t k) (entries ++ entry ∷ []) [] other) in
    absurd (omega (arith, below, not_earlier, old, new, kept)))
    (cases_eq (segment_index replicas t k) index)

-- The entry stands where the log ended.
newest_position : (shape : Shape) (state : LogState) (s j : ℕ) (entry : Entry) → s < shape.shards → j < shape.replicas
    → standing_of shape.replicas state s ≡ Some Live → IsCoherentState shape state → (position : ℕ)
    → slice_get (spell shape.replicas (stored shape.replicas state s j entry).values) position ≡ Some (place_at s j (length (entries_of shape.replicas state s j)))
    → position ≡ (chain_of shape.replicas state.values).end
newest_position shape state s j entry in_range within live is position stands =
    let replicas = shape.replicas in
    let next = stored replicas state s j entry in
    let places = spell replicas next.values in
    let before = spell replicas state.values in
    let offset = length (entries_of replicas state s j) in
    let place = place_at s j offset in
    let default : Place = place_at 0 0 0 in
    let not_earlier : length before ≤ position =
    ⊎_elim
    (λ earlier.
    let old : Place = slice_index_or before position default in
    let stood : slice_get before position ≡ Some old = slice_get-get_or before position default earlier in
    let stays = position_stays replicas state.values (Cut (cut_of next.segments) ∷ []) old position stood in
    let same : Some old ≡ Some place = sym stays ∙ stands in
    let is_old : old ≡ place = cc in
    let spelled : Contains before place = subst (Contains before) is_old (Contains-get_or before position default earlier) in
    absurd (omega (arith, (spelled_where_covered replicas state.values s j offset).0 spelled, is.covered s j in_range within)))
    (λ later. later) (cases_lt position (length before)) in
    let inside : length before < length places = omega (arith, not_earlier, slice_get_within places position place stands) in
    let first = slice_get-get_or places (length before) default inside in
    let newest = only_newest shape state s j entry in_range within live is (slice_index_or places (length before) default) (length before) (omega arith) first in
    let both = one_position replicas next.values place (length before) position (first ∙ ap Some newest) stands in
    omega (arith, both, end-chain_of replicas state.values)

-- An append to a live shard is told where the log ended, and the entry is read there from then on.
pub append_told : (shape : Shape) (run : ℕ) (state : LogState) (lane : ℕ) (shard : Shard) (replica : Replica) (bytes : List ℕ)
    → IsItem shape (Append lane shard replica bytes) → standing_of shape.replicas state shard.0 ≡ Some Live → IsCoherentState shape state
    → let end : Position = record { 0 = (chain_of shape.replicas state.values).end } in
    (reply_to shape run state (Append lane shard replica bytes) ≡ At end)
    × (read_in shape.replicas (after shape run state (Append lane shard replica bytes)) end ≡ Found end (next_entry run state lane bytes))
append_told shape run state lane shard replica bytes item live is =
    let replicas = shape.replicas in
    let entry = next_entry run state lane bytes in
    let next = stored replicas (drawn state lane shard.0 replica.0) shard.0 replica.0 entry in
    let told = stored_position shape (drawn state lane shard.0 replica.0) shard.0 replica.0 entry item.1 item.2 live is in
    let end : Position = record { 0 = (chain_of replicas state.values).end } in
    let place = place_at shard.0 replica.0 (length (entries_of replicas state shard.0 replica.0)) in
    let stands = (position_is_index replicas next.values place told.0).0 told.1 in
    let is_end : told.0 ≡ end.0 = newest_position shape (drawn state lane shard.0 replica.0) shard.0 replica.0 entry item.1 item.2 live is told.0 stands in
    let inside = slice_get_within (spell replicas next.values) told.0 place stands in
    let within : end.0 < (chain_of replicas next.values).end = omega (arith, end-chain_of replicas next.values, inside, is_end) in
    let same_mark : (chain_of replicas next.values).mark ≡ (chain_of replicas state.values).mark =
    ap (λ (chain : ChainState). chain.mark) (chain_of-append replicas state.values (Cut (cut_of next.segments) ∷ [])) in
    let from : (chain_of replicas next.values).mark ≤ end.0 = omega (arith, same_mark, (chain_of-IsChain replicas state.values).mark) in
    let there : entry_at_position replicas next.values next.segments end.0 ≡ Some entry =
    subst (λ (n : ℕ). entry_at_position replicas next.values next.segments n ≡ Some entry) is_end told.2 in
    let read = read_where_stands shape next end entry from within there in
    let reply = told.1 ∙ ap Some is_end in
    (rw (live, reply) refl, rw live read)

-- An append to a shard that was not added is refused.
pub append_not_added : (shape : Shape) (run : ℕ) (state : LogState) (lane : ℕ) (shard : Shard) (replica : Replica) (bytes : List ℕ)
    → knows shape.replicas state shard.0 ≡ false
    → (reply_to shape run state (Append lane shard replica bytes) ≡ NotAdded)
    × (after shape run state (Append lane shard replica bytes) ≡ drawn state lane shard.0 replica.0)
append_not_added shape run state lane shard replica bytes absent =
    let none : standing_of shape.replicas state shard.0 ≡ None =
    ap found_standing (state_of_not_added (chain_of shape.replicas state.values).shards shard.0 absent) in
    (rw none refl, rw none refl)

-- A read at the end or past it is told the end.
pub read_past_end : (replicas : ℕ) (state : LogState) (position : Position) → (chain_of replicas state.values).end ≤ position.0
    → read_in replicas state position ≡ PendingRead (record { 0 = (chain_of replicas state.values).end })
read_past_end replicas state position past =
    let not_below : ltb position.0 (chain_of replicas state.values).mark ≡ false =
    le-ltb position.0 _ (omega (arith, past, (chain_of-IsChain replicas state.values).mark)) in
    let not_before : ltb position.0 (chain_of replicas state.values).end ≡ false = le-ltb position.0 _ past in
    rw (not_below, not_before) refl
