-- What one who asks is told: of an append that was told its position, and of one that was refused.
use Rattle.std.proofs.Common.{◌≡◌, ◌≢◌, ℕ, zero, suc, ◌+◌, ◌<◌, ◌≤◌, List, [], ◌∷◌, ◌++◌, length, replicate, Option, None, Some, refl, sym, ap, ◌∙◌, subst, arith}
use Rattle.std.specs.Prelude.{slice_index, slice_index_or}
use Rattle.std.specs.List.{AllByRecursion, Contains}
use Rattle.std.proofs.lemmas.Bool.{cond_both}
use Rattle.std.proofs.lemmas.List.{get_or-set_same}
use Rattle.std.proofs.lemmas.Nat.{mul-add-lt}
use Rattle.std.proofs.lemmas.Option.{slice_get_within, get_or_from_slice_get}
use Rattle.log_base.specs.ClusterShape.{Shape}
use Rattle.log_base.specs.Draws.{number_of_draw}
use Rattle.log_base.specs.declared.numbers.Place.{Place}
use Rattle.log_base.specs.declared.numbers.Position.{Position}
use Rattle.log_base.specs.declared.numbers.Replica.{Replica}
use Rattle.log_base.specs.declared.numbers.Shard.{Shard}
use Rattle.record_frame.specs.declared.entries.Entry.{Entry}
use Rattle.record_frame.specs.declared.values.Value.{Value}
use Rattle.record_frame.specs.declared.values.Value.TheVariants.{Noop, Cut, Add as AddValue, Finalise as FinaliseValue, Trim as TrimValue}
use Rattle.log_model.specs.Chain.{ChainState, Standing, Live, Frozen, apply, apply_all, chain_of, is_added}
use Rattle.log_model.specs.Lookup.{segment_index, position_of_place}
use Rattle.log_model.specs.Pairs.{last_of, offset_of}
use Rattle.log_model.specs.Places.{place_at}
use Rattle.log_model.specs.Spelling.{spell}
use Rattle.log_model.specs.Storage.{knowledge_of}
use Rattle.log_model.proofs.Appending.{chain_of-append}
use Rattle.log_model.proofs.Growth.{chain_of-IsChain}
use Rattle.log_model.proofs.Spelled.{position_is_index, position_stays, spelled_where_covered}
use Rattle.command_frame.specs.declared.items.Item.{Item}
use Rattle.command_frame.specs.declared.items.Item.TheVariants.{Append, Ask}
use Rattle.command_frame.specs.Items.{IsItem}
use Rattle.reply_frame.specs.declared.replies.Reply.{At, Stale, Missing, NothingKept}
use Rattle.plain_log.specs.Coherent.{IsCoherentState}
use Rattle.plain_log.specs.Lanes.{NoAppendOf}
use Rattle.plain_log.specs.Wishes.{NoTrimPast}
use Rattle.plain_log.specs.Log.{LogState, Primary, start, cut_of, after, after_entry, state_after, ask_in, asked_of, drawn, entries_of, last_number, member_of, next_entry, primary_of, reply_to, standing_of, stored, told_append, told_asked, told_last, told_position}
use Rattle.plain_log.proofs.Answering.{append_told}
use Rattle.plain_log.proofs.Asking.{ask_at, ask_missing, ask_stale}
use Rattle.plain_log.proofs.Joining.{HasWish, items_join, values_stay}
use Rattle.plain_log.proofs.LastAppends.{HasDrawn, Stays, before_next, drawn_next, stays_items}
use Rattle.plain_log.proofs.Pairs.{Below, last_below, last_of-own, offset_from-none, offset_from-own}

-- what a lane's last append is: an append to this primary, with this number
record IsLast (run lane : ℕ) (state : LogState) (primary : Primary) (number : ℕ) : Type 0 where
  pub to : primary_of state lane ≡ Some primary
  pub number_is : last_number run state lane ≡ number

-- One who asks is answered by the primary of the last append, for its number.
asked_last : (replicas run lane : ℕ) (state : LogState) (primary : Primary) (number : ℕ) → IsLast run lane state primary number
    → ask_in replicas run state lane ≡ asked_of replicas state primary lane number
asked_last replicas run lane state primary number last =
    ap (told_last replicas run state lane) last.to ∙ ap (asked_of replicas state primary lane) last.number_is

-- An append is the last of its lane, and stays so while no other of the lane follows.
last_drawn : (run lane shard replica : ℕ) (state next later : LogState) → lane < 64 → HasDrawn run state
    → next.draws ≡ (drawn state lane shard replica).draws → next.primaries ≡ (drawn state lane shard replica).primaries → Stays lane next later
    → IsLast run lane later (record { shard = shard; replica = replica }) (number_of_draw run (slice_index state.draws lane))
last_drawn run lane shard replica state next later within is draws primaries stays =
    let primary : Primary = record { shard = shard; replica = replica } in
    let count : slice_index later.draws lane ≡ slice_index state.draws lane + 1 =
    stays.draw ∙ ap (λ (numbers : List ℕ). slice_index numbers lane) draws ∙ drawn_next run state lane shard replica within is in
    record {
      to = stays.primary ∙ ap (λ (all : List (Option Primary)). slice_index_or all lane None) primaries
          ∙ get_or-set_same state.primaries lane (Some primary) None (omega (arith, within, is.primaries));
      number_is = omega (arith, count);
    }

-- The state after an append keeps what the lane drew.
entry_draws : (replicas shard segment : ℕ) (entry : Entry) (state : LogState) (standing : Option Standing)
    → ((after_entry replicas state shard segment entry standing).draws ≡ state.draws) × ((after_entry replicas state shard segment entry standing).primaries ≡ state.primaries)
entry_draws replicas shard segment entry state None = (refl, refl)
entry_draws replicas shard segment entry state (Some Frozen) = (refl, refl)
entry_draws replicas shard segment entry state (Some Live) = (refl, refl)

last_append : (shape : Shape) (run : ℕ) (state : LogState) (lane : ℕ) (shard : Shard) (replica : Replica) (bytes : List ℕ) (more : List Item)
    → IsItem shape (Append lane shard replica bytes) → HasDrawn run state → NoAppendOf lane more
    → IsLast run lane (state_after shape run (after shape run state (Append lane shard replica bytes)) more)
    (record { shard = shard.0; replica = replica.0 }) (number_of_draw run (slice_index state.draws lane))
last_append shape run state lane shard replica bytes more item is none =
    let next = after shape run state (Append lane shard replica bytes) in
    let kept = entry_draws shape.replicas shard.0 replica.0 (next_entry run state lane bytes) (drawn state lane shard.0 replica.0) (standing_of shape.replicas state shard.0) in
    last_drawn run lane shard.0 replica.0 state next (state_after shape run next more) item.0 is kept.0 kept.1 (stays_items lane shape run next more none)

-- ---- an append that was refused

-- It is stored nowhere.
not_stored : (replicas shard segment : ℕ) (entry : Entry) (state : LogState) (standing : Option Standing) → standing ≢ Some Live
    → after_entry replicas state shard segment entry standing ≡ state
not_stored replicas shard segment entry state None refused = refl
not_stored replicas shard segment entry state (Some Frozen) refused = refl
not_stored replicas shard segment entry state (Some Live) refused = absurd (refused refl)

-- One who asks for it is told that it is missing.
pub refused_missing : (shape : Shape) (run : ℕ) (state : LogState) (lane : ℕ) (shard : Shard) (replica : Replica) (bytes : List ℕ) (more : List Item)
    → IsItem shape (Append lane shard replica bytes) → HasDrawn run state → standing_of shape.replicas state shard.0 ≢ Some Live → NoAppendOf lane more
    → reply_to shape run (state_after shape run (after shape run state (Append lane shard replica bytes)) more) (Ask lane) ≡ Missing
refused_missing shape run state lane shard replica bytes more item is refused none =
    let replicas = shape.replicas in
    let number = number_of_draw run (slice_index state.draws lane) in
    let primary : Primary = record { shard = shard.0; replica = replica.0 } in
    let next = after shape run state (Append lane shard replica bytes) in
    let later = state_after shape run next more in
    let index = segment_index replicas shard.0 replica.0 in
    let same : next ≡ drawn state lane shard.0 replica.0 =
    not_stored replicas shard.0 replica.0 (next_entry run state lane bytes) (drawn state lane shard.0 replica.0) (standing_of replicas state shard.0) refused in
    let stays = stays_items lane shape run next more none in
    let before = before_next run state lane index is in
    let nowhere : offset_of (slice_index_or later.segments index []) lane number ≡ None =
    stays.offsets index number ∙ ap (λ (s : LogState). offset_of (slice_index_or s.segments index []) lane number) same
    ∙ offset_from-none 0 (slice_index_or state.segments index []) lane number before in
    let last : last_of (slice_index_or later.segments index []) lane ≡ last_of (slice_index_or state.segments index []) lane =
    stays.last index ∙ ap (λ (s : LogState). last_of (slice_index_or s.segments index []) lane) same in
    let below : Below number (last_of (slice_index_or later.segments index []) lane) =
    subst (Below number) (sym last) (last_below (slice_index_or state.segments index []) lane number before) in
    asked_last replicas run lane later primary number (last_append shape run state lane shard replica bytes more item is none)
    ∙ ap told_asked (ask_missing (member_of replicas primary) (slice_index_or later.segments index []) (knowledge_of (member_of replicas primary) later.values) lane number nowhere below)

-- ---- an append that was told its position

told_at : (position : Position) (found : Option ℕ) → told_position found ≡ At position → found ≡ Some position.0
told_at position None told = absurd (cc)
told_at position (Some index) told =
    let own : Position = record { 0 = index } in
    let same : own ≡ position = cc in
    ap (λ (p : Position). Some p.0) same

-- Its shard is live, and its place has that position.
pub told_where : (replicas : ℕ) (values : List Value) (place : Place) (standing : Option Standing) (position : Position)
    → told_append replicas values place standing ≡ At position
    → (standing ≡ Some Live) × (position_of_place replicas values place ≡ Some position.0)
told_where replicas values place None position told = absurd (cc)
told_where replicas values place (Some Frozen) position told = absurd (cc)
told_where replicas values place (Some Live) position told = (refl, told_at position (position_of_place replicas values place) told)

-- what is known later of an append that was told its position
pub record IsKept (shape : Shape) (later : LogState) (lane shard replica number offset position : ℕ) : Type 0 where
  pub stands : offset_of (entries_of shape.replicas later shard replica) lane number ≡ Some offset
  pub last : last_of (entries_of shape.replicas later shard replica) lane ≡ Some number
  pub place : position_of_place shape.replicas later.values (place_at shard replica offset) ≡ Some position

kept_told : (shape : Shape) (run : ℕ) (state : LogState) (lane : ℕ) (shard : Shard) (replica : Replica) (bytes : List ℕ) (more : List Item) (position : Position)
    → IsItem shape (Append lane shard replica bytes) → HasDrawn run state → IsCoherentState shape state
    → reply_to shape run state (Append lane shard replica bytes) ≡ At position → NoAppendOf lane more
    → IsKept shape (state_after shape run (after shape run state (Append lane shard replica bytes)) more) lane shard.0 replica.0
    (number_of_draw run (slice_index state.draws lane)) (length (entries_of shape.replicas state shard.0 replica.0)) position.0
kept_told shape run state lane shard replica bytes more position item is coherent told none =
    let replicas = shape.replicas in
    let number = number_of_draw run (slice_index state.draws lane) in
    let entry = next_entry run state lane bytes in
    let index = segment_index replicas shard.0 replica.0 in
    let entries = entries_of replicas state shard.0 replica.0 in
    let offset = length entries in
    let place = place_at shard.0 replica.0 offset in
    let next = after shape run state (Append lane shard replica bytes) in
    let later = state_after shape run next more in
    let where_told = told_where replicas next.values place (standing_of replicas state shard.0) position told in
    let same : next ≡ stored replicas (drawn state lane shard.0 replica.0) shard.0 replica.0 entry =
    ap (after_entry replicas (drawn state lane shard.0 replica.0) shard.0 replica.0 entry) where_told.0 in
    let inside : index < length state.segments =
    omega (arith, coherent.segments_of_all, mul-add-lt shard.0 replicas replica.0 shape.shards item.1 item.2) in
    let list : slice_index_or next.segments index [] ≡ entries ++ entry ∷ [] =
    ap (λ (s : LogState). slice_index_or s.segments index []) same ∙ get_or-set_same state.segments index (entries ++ entry ∷ []) [] inside in
    let stays = stays_items lane shape run next more none in
    let zero_first : 0 + offset ≡ offset = omega arith in
    let added = values_stay shape run next more in
    let stands = (position_is_index replicas next.values place position.0).0 where_told.1 in
    let still = position_stays replicas next.values added.0 place position.0 stands in
    let found = (position_is_index replicas (next.values ++ added.0) place position.0).1 still in
    record {
      stands = stays.offsets index number ∙ ap (λ (l : List Entry). offset_of l lane number) list
          ∙ offset_from-own 0 entries entry ∙ ap (λ (n : ℕ). Some n) zero_first;
      last = stays.last index ∙ ap (λ (l : List Entry). last_of l lane) list ∙ last_of-own entries entry (before_next run state lane index is);
      place = ap (λ (values : List Value). position_of_place replicas values place) added.1 ∙ found;
    }

-- From the mark on it is told its position again.
pub told_again : (shape : Shape) (run : ℕ) (state : LogState) (lane : ℕ) (shard : Shard) (replica : Replica) (bytes : List ℕ) (more : List Item) (position : Position)
    → IsItem shape (Append lane shard replica bytes) → HasDrawn run state → IsCoherentState shape state
    → reply_to shape run state (Append lane shard replica bytes) ≡ At position → NoAppendOf lane more
    → let later = state_after shape run (after shape run state (Append lane shard replica bytes)) more in
    (chain_of shape.replicas later.values).mark ≤ position.0
    → reply_to shape run later (Ask lane) ≡ At position
told_again shape run state lane shard replica bytes more position item is coherent told none from =
    let number = number_of_draw run (slice_index state.draws lane) in
    let primary : Primary = record { shard = shard.0; replica = replica.0 } in
    let member = member_of shape.replicas primary in
    let later = state_after shape run (after shape run state (Append lane shard replica bytes)) more in
    let kept = kept_told shape run state lane shard replica bytes more position item is coherent told none in
    asked_last shape.replicas run lane later primary number (last_append shape run state lane shard replica bytes more item is none)
    ∙ ap told_asked (ask_at member (entries_of shape.replicas later shard.0 replica.0) (knowledge_of member later.values) lane number
    (length (entries_of shape.replicas state shard.0 replica.0)) position.0 kept.stands kept.place from)

-- Below the mark it is told as stale.
pub told_stale : (shape : Shape) (run : ℕ) (state : LogState) (lane : ℕ) (shard : Shard) (replica : Replica) (bytes : List ℕ) (more : List Item) (position : Position)
    → IsItem shape (Append lane shard replica bytes) → HasDrawn run state → IsCoherentState shape state
    → reply_to shape run state (Append lane shard replica bytes) ≡ At position → NoAppendOf lane more
    → let later = state_after shape run (after shape run state (Append lane shard replica bytes)) more in
    position.0 < (chain_of shape.replicas later.values).mark
    → reply_to shape run later (Ask lane) ≡ Stale (next_entry run state lane bytes).number
told_stale shape run state lane shard replica bytes more position item is coherent told none below =
    let replicas = shape.replicas in
    let number = number_of_draw run (slice_index state.draws lane) in
    let primary : Primary = record { shard = shard.0; replica = replica.0 } in
    let member = member_of replicas primary in
    let offset = length (entries_of replicas state shard.0 replica.0) in
    let place = place_at shard.0 replica.0 offset in
    let later = state_after shape run (after shape run state (Append lane shard replica bytes)) more in
    let places = spell replicas later.values in
    let kept = kept_told shape run state lane shard replica bytes more position item is coherent told none in
    let stands = (position_is_index replicas later.values place position.0).0 kept.place in
    let spelled : Contains places place =
    (position.0, slice_get_within places position.0 place stands, get_or_from_slice_get places position.0 place place stands) in
    let covered = (spelled_where_covered replicas later.values shard.0 replica.0 offset).0 spelled in
    asked_last replicas run lane later primary number (last_append shape run state lane shard replica bytes more item is none)
    ∙ ap told_asked (ask_stale member (entries_of replicas later shard.0 replica.0) (knowledge_of member later.values) lane number
    offset position.0 kept.stands kept.place below covered kept.last)

-- ---- trims that do not pass a position

-- a value that is no trim past this position
abbrev pub IsNoTrimPastValue : Position → Value → Type 0
IsNoTrimPastValue position value = (below : Position) → value ≡ TrimValue below → below.0 ≤ position.0

past_wishes : (position : Position) (items : List Item) → NoTrimPast position items → AllByRecursion (HasWish (IsNoTrimPastValue position)) items
past_wishes position [] none = tt
past_wishes position (item ∷ items) none =
    (λ value is below same. none.0 below (is ∙ ap Some same), past_wishes position items none.1)

mark-low : (replicas : ℕ) (chain : ChainState) (value : Value) (position : Position) → IsNoTrimPastValue position value → chain.mark ≤ position.0
    → (apply replicas chain value).mark ≤ position.0
mark-low replicas chain Noop position none low = low
mark-low replicas chain (Cut lengths) position none low = low
mark-low replicas chain (AddValue shard) position none low =
    cond_both (is_added chain shard.0) chain _ (λ (c : ChainState). c.mark ≤ position.0) (λ _. low) (λ _. low)
mark-low replicas chain (FinaliseValue shard) position none low = low
mark-low replicas chain (TrimValue below) position none low = omega (arith, low, none below refl)

marks-low : (replicas : ℕ) (chain : ChainState) (values : List Value) (position : Position) → AllByRecursion (IsNoTrimPastValue position) values
    → chain.mark ≤ position.0 → (apply_all replicas chain values).mark ≤ position.0
marks-low replicas chain [] position none low = low
marks-low replicas chain (value ∷ values) position none low =
    marks-low replicas (apply replicas chain value) values position none.1 (mark-low replicas chain value position none.0 low)

-- Then the mark does not pass it.
items-low : (shape : Shape) (run : ℕ) (state : LogState) (items : List Item) (position : Position) → NoTrimPast position items
    → (chain_of shape.replicas state.values).mark ≤ position.0
    → (chain_of shape.replicas (state_after shape run state items).values).mark ≤ position.0
items-low shape run state items position none low =
    let replicas = shape.replicas in
    let joined = items_join (IsNoTrimPastValue position) (λ lengths below same. absurd (cc)) shape run state items (past_wishes position items none) in
    let mark : (chain_of replicas (state_after shape run state items).values).mark ≡ (apply_all replicas (chain_of replicas state.values) joined.0).mark =
    ap (λ (values : List Value). (chain_of replicas values).mark) joined.2
    ∙ ap (λ (c : ChainState). c.mark) (chain_of-append replicas state.values joined.0) in
    omega (arith, mark, marks-low replicas (chain_of replicas state.values) joined.0 position joined.1 low)

-- An append that is told its position stands past the mark.
appended-low : (shape : Shape) (run : ℕ) (state : LogState) (lane : ℕ) (shard : Shard) (replica : Replica) (bytes : List ℕ) (position : Position)
    → IsItem shape (Append lane shard replica bytes) → IsCoherentState shape state
    → reply_to shape run state (Append lane shard replica bytes) ≡ At position
    → (chain_of shape.replicas (after shape run state (Append lane shard replica bytes)).values).mark ≤ position.0
appended-low shape run state lane shard replica bytes position item coherent told =
    let replicas = shape.replicas in
    let entry = next_entry run state lane bytes in
    let next = after shape run state (Append lane shard replica bytes) in
    let put = stored replicas (drawn state lane shard.0 replica.0) shard.0 replica.0 entry in
    let place = place_at shard.0 replica.0 (length (entries_of replicas state shard.0 replica.0)) in
    let live = (told_where replicas next.values place (standing_of replicas state shard.0) position told).0 in
    let end : Position = record { 0 = (chain_of replicas state.values).end } in
    let both : At end ≡ At position =
    sym (append_told shape run state lane shard replica bytes item live coherent).0 ∙ told in
    let is_end : end ≡ position = cc in
    let at : end.0 ≡ position.0 = ap (λ (p : Position). p.0) is_end in
    let mark : (chain_of replicas next.values).mark ≡ (chain_of replicas state.values).mark =
    ap (λ (s : LogState). (chain_of replicas s.values).mark) (ap (after_entry replicas (drawn state lane shard.0 replica.0) shard.0 replica.0 entry) live)
    ∙ ap (λ (c : ChainState). c.mark) (chain_of-append replicas state.values (Cut (cut_of put.segments) ∷ [])) in
    omega (arith, mark, at, (chain_of-IsChain replicas state.values).mark)

-- As long as no trim passes its position, it is told again.
pub told_until_trimmed : (shape : Shape) (run : ℕ) (state : LogState) (lane : ℕ) (shard : Shard) (replica : Replica) (bytes : List ℕ) (more : List Item) (position : Position)
    → IsItem shape (Append lane shard replica bytes) → HasDrawn run state → IsCoherentState shape state
    → reply_to shape run state (Append lane shard replica bytes) ≡ At position → NoAppendOf lane more → NoTrimPast position more
    → reply_to shape run (state_after shape run (after shape run state (Append lane shard replica bytes)) more) (Ask lane) ≡ At position
told_until_trimmed shape run state lane shard replica bytes more position item is coherent told none untrimmed =
    told_again shape run state lane shard replica bytes more position item is coherent told none
    (items-low shape run (after shape run state (Append lane shard replica bytes)) more position untrimmed
    (appended-low shape run state lane shard replica bytes position item coherent told))

-- ---- a lane without an append

none_at : (count lane : ℕ) → slice_index_or (replicate count (let none : Option Primary = None in none)) lane None ≡ None
none_at zero lane = refl
none_at (suc count) zero = refl
none_at (suc count) (suc lane) = none_at count lane

pub nothing_kept : (shape : Shape) (run : ℕ) (items : List Item) (lane : ℕ) → NoAppendOf lane items
    → reply_to shape run (state_after shape run (start shape) items) (Ask lane) ≡ NothingKept
nothing_kept shape run items lane none =
    let later = state_after shape run (start shape) items in
    ap (told_last shape.replicas run later lane) ((stays_items lane shape run (start shape) items none).primary ∙ none_at 64 lane)
