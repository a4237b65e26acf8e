-- What a log keeps of each lane's last append while items of other lanes follow.
use Rattle.std.proofs.Common.{◌≡◌, ◌≢◌, ℕ, zero, suc, ◌+◌, ◌*◌, ◌<◌, ◌≤◌, List, [], ◌∷◌, ◌++◌, length, replicate, Option, None, Some, refl, sym, ap, ◌∙◌, subst, arith}
use Rattle.std.specs.Prelude.{slice_index, slice_index_or, slice_set}
use Rattle.std.specs.List.{AllByRecursion}
use Rattle.std.proofs.lemmas.Bool.{cond_both}
use Rattle.std.proofs.lemmas.List.{length-replicate, length-set, get_or-set_same, get_or-set_other}
use Rattle.log_base.specs.ClusterShape.{Shape}
use Rattle.log_base.specs.Draws.{number_of_draw}
use Rattle.record_frame.specs.declared.entries.Entry.{Entry}
use Rattle.record_frame.specs.declared.values.Value.TheVariants.{Finalise as FinaliseValue}
use Rattle.log_model.specs.Chain.{Standing, Live, Frozen}
use Rattle.log_model.specs.Lookup.{segment_index}
use Rattle.log_model.specs.Pairs.{last_of, offset_of}
use Rattle.command_frame.specs.declared.items.Item.{Item}
use Rattle.command_frame.specs.declared.items.Item.TheVariants.{Append, Read, Subscribe, Trim, Add, Finalise, Ask, Fault}
use Rattle.command_frame.specs.Items.{IsItem}
use Rattle.plain_log.specs.Lanes.{IsNoAppendOf, NoAppendOf}
use Rattle.plain_log.specs.Log.{LogState, Primary, start, after, after_entry, state_after, drawn, knows, next_entry, primary_of, standing_of, stored, with_value}
use Rattle.plain_log.proofs.Lists.{replicate-nil}
use Rattle.plain_log.proofs.Pairs.{IsBefore, last_of-other, list_set, offset_from-other}

-- ---- what stays

-- A lane has the same last append, and each list the same pairs of it.
pub record Stays (lane : ℕ) (old new : LogState) : Type 0 where
  pub draw : slice_index new.draws lane ≡ slice_index old.draws lane
  pub primary : primary_of new lane ≡ primary_of old lane
  pub offsets : (i number : ℕ) → offset_of (slice_index_or new.segments i []) lane number ≡ offset_of (slice_index_or old.segments i []) lane number
  pub last : (i : ℕ) → last_of (slice_index_or new.segments i []) lane ≡ last_of (slice_index_or old.segments i []) lane

stays_same : (lane : ℕ) (state : LogState) → Stays lane state state
stays_same lane state = record { draw = refl; primary = refl; offsets = λ i number. refl; last = λ i. refl }

stays_then : (lane : ℕ) (first second third : LogState) → Stays lane first second → Stays lane second third → Stays lane first third
stays_then lane first second third one two = record {
  draw = two.draw ∙ one.draw;
  primary = two.primary ∙ one.primary;
  offsets = λ i number. two.offsets i number ∙ one.offsets i number;
  last = λ i. two.last i ∙ one.last i;
}

-- a draw of another lane
stays_drawn : (lane own shard replica : ℕ) (state : LogState) → own ≢ lane → Stays lane state (drawn state own shard replica)
stays_drawn lane own shard replica state other =
    let apart : lane ≢ own = λ same. other (sym same) in
    let primary : Option Primary = Some (record { shard = shard; replica = replica }) in
    record {
      draw = get_or-set_other state.draws own lane (slice_index state.draws own + 1) 0 apart;
      primary = get_or-set_other state.primaries own lane primary None apart;
      offsets = λ i number. refl;
      last = λ i. refl;
    }

-- an entry of another lane
stays_stored : (lane replicas shard segment : ℕ) (entry : Entry) (state : LogState) → entry.client.0 ≢ lane
    → Stays lane state (stored replicas state shard segment entry)
stays_stored lane replicas shard segment entry state other =
    let at = segment_index replicas shard segment in
    let entries = slice_index_or state.segments at [] in
    record {
      draw = refl;
      primary = refl;
      offsets = λ i number.
          list_set (λ (l : List Entry). offset_of l lane number ≡ offset_of (slice_index_or state.segments i []) lane number)
          state.segments at i (entries ++ entry ∷ []) refl
          (λ same. offset_from-other 0 entries entry lane number other
          ∙ ap (λ (n : ℕ). offset_of (slice_index_or state.segments n []) lane number) (sym same));
      last = λ i.
          list_set (λ (l : List Entry). last_of l lane ≡ last_of (slice_index_or state.segments i []) lane)
          state.segments at i (entries ++ entry ∷ []) refl
          (λ same. last_of-other entries entry lane other
          ∙ ap (λ (n : ℕ). last_of (slice_index_or state.segments n []) lane) (sym same));
    }

stays_entry : (lane replicas shard segment : ℕ) (entry : Entry) (state : LogState) (standing : Option Standing) → entry.client.0 ≢ lane
    → Stays lane state (after_entry replicas state shard segment entry standing)
stays_entry lane replicas shard segment entry state None other = stays_same lane state
stays_entry lane replicas shard segment entry state (Some Frozen) other = stays_same lane state
stays_entry lane replicas shard segment entry state (Some Live) other = stays_stored lane replicas shard segment entry state other

stays_value : (lane : ℕ) (old new : LogState) → new.segments ≡ old.segments → new.draws ≡ old.draws → new.primaries ≡ old.primaries → Stays lane old new
stays_value lane old new segments draws primaries = record {
  draw = ap (λ (numbers : List ℕ). slice_index numbers lane) draws;
  primary = ap (λ (all : List (Option Primary)). slice_index_or all lane None) primaries;
  offsets = λ i number. ap (λ (lists : List (List Entry)). offset_of (slice_index_or lists i []) lane number) segments;
  last = λ i. ap (λ (lists : List (List Entry)). last_of (slice_index_or lists i []) lane) segments;
}

stays_after : (lane : ℕ) (shape : Shape) (run : ℕ) (state : LogState) (item : Item) → IsNoAppendOf lane item
    → Stays lane state (after shape run state item)
stays_after lane shape run state (Append own shard replica bytes) other =
    let entry = next_entry run state own bytes in
    let next = drawn state own shard.0 replica.0 in
    stays_then lane state next (after shape run state (Append own shard replica bytes)) (stays_drawn lane own shard.0 replica.0 state other)
    (stays_entry lane shape.replicas shard.0 replica.0 entry next (standing_of shape.replicas state shard.0) other)
stays_after lane shape run state (Read own shard replica position) other = stays_same lane state
stays_after lane shape run state (Subscribe own shard replica from count) other = stays_same lane state
stays_after lane shape run state (Trim own position) other = stays_value lane state (after shape run state (Trim own position)) refl refl refl
stays_after lane shape run state (Add own shard) other = stays_value lane state (after shape run state (Add own shard)) refl refl refl
stays_after lane shape run state (Finalise own shard) other =
    cond_both (knows shape.replicas state shard.0) (with_value state (FinaliseValue shard)) state (Stays lane state)
    (λ _. stays_value lane state (with_value state (FinaliseValue shard)) refl refl refl) (λ _. stays_same lane state)
stays_after lane shape run state (Ask own) other = stays_same lane state
stays_after lane shape run state (Fault own fault) other = stays_same lane state

-- Items that are no append of a lane keep all of it.
pub stays_items : (lane : ℕ) (shape : Shape) (run : ℕ) (state : LogState) (items : List Item) → NoAppendOf lane items
    → Stays lane state (state_after shape run state items)
stays_items lane shape run state [] none = stays_same lane state
stays_items lane shape run state (item ∷ items) none =
    let next = after shape run state item in
    stays_then lane state next (state_after shape run next items) (stays_after lane shape run state item none.0)
    (stays_items lane shape run next items none.1)

-- ---- what was drawn

-- the entry's number was drawn by its lane
abbrev pub IsDrawn : ℕ → List ℕ → Entry → Type 0
IsDrawn run draws entry = entry.number.0 < number_of_draw run (slice_index draws entry.client.0)

-- there are 64 lanes, and the number of each entry was drawn by its lane
pub record HasDrawn (run : ℕ) (state : LogState) : Type 0 where
  pub draws : length state.draws ≡ 64
  pub primaries : length state.primaries ≡ 64
  pub entries : (i : ℕ) → AllByRecursion (IsDrawn run state.draws) (slice_index_or state.segments i [])

pub drawn_start : (shape : Shape) (run : ℕ) → HasDrawn run (start shape)
drawn_start shape run = record {
  draws = length-replicate {A = ℕ} 64 0;
  primaries = length-replicate {A = Option Primary} 64 None;
  entries = λ i. subst (AllByRecursion (IsDrawn run (replicate 64 0))) (sym (replicate-nil (shape.shards * shape.replicas) i)) tt;
}

all_weaker : (P Q : Entry → Type 0) (entries : List Entry) → ((entry : Entry) → P entry → Q entry) → AllByRecursion P entries → AllByRecursion Q entries
all_weaker P Q [] weaker all = tt
all_weaker P Q (entry ∷ entries) weaker all = (weaker entry all.0, all_weaker P Q entries weaker all.1)

all_push : (P : Entry → Type 0) (entries : List Entry) (last : Entry) → AllByRecursion P entries → P last → AllByRecursion P (entries ++ last ∷ [])
all_push P [] last all is = (is, tt)
all_push P (entry ∷ entries) last all is = (all.0, all_push P entries last all.1 is)

draws_rise : (draws : List ℕ) (lane k : ℕ) → slice_index draws k ≤ slice_index (slice_set draws lane (slice_index draws lane + 1)) k
draws_rise [] lane k = omega arith
draws_rise (first ∷ rest) zero zero = omega arith
draws_rise (first ∷ rest) zero (suc k) = omega arith
draws_rise (first ∷ rest) (suc lane) zero = omega arith
draws_rise (first ∷ rest) (suc lane) (suc k) = draws_rise rest lane k

drawn_drawn : (run : ℕ) (state : LogState) (lane shard replica : ℕ) → HasDrawn run state → HasDrawn run (drawn state lane shard replica)
drawn_drawn run state lane shard replica is = record {
  draws = length-set state.draws lane _ ∙ is.draws;
  primaries = length-set state.primaries lane _ ∙ is.primaries;
  entries = λ i.
      all_weaker (IsDrawn run state.draws) (IsDrawn run (drawn state lane shard replica).draws) (slice_index_or state.segments i [])
      (λ entry was. omega (arith, was, draws_rise state.draws lane entry.client.0)) (is.entries i);
}

drawn_entry : (run replicas shard segment : ℕ) (entry : Entry) (state : LogState) (standing : Option Standing) → IsDrawn run state.draws entry
    → HasDrawn run state → HasDrawn run (after_entry replicas state shard segment entry standing)
drawn_entry run replicas shard segment entry state None own is = is
drawn_entry run replicas shard segment entry state (Some Frozen) own is = is
drawn_entry run replicas shard segment entry state (Some Live) own is =
    let at = segment_index replicas shard segment in
    let entries = slice_index_or state.segments at [] in
    record {
      draws = is.draws;
      primaries = is.primaries;
      entries = λ i.
          list_set (AllByRecursion (IsDrawn run state.draws)) state.segments at i (entries ++ entry ∷ []) (is.entries i)
          (λ same. all_push (IsDrawn run state.draws) entries entry (is.entries at) own);
    }

-- the number that is drawn next is drawn then
pub drawn_next : (run : ℕ) (state : LogState) (lane shard replica : ℕ) → lane < 64 → HasDrawn run state
    → slice_index (drawn state lane shard replica).draws lane ≡ slice_index state.draws lane + 1
drawn_next run state lane shard replica within is =
    get_or-set_same state.draws lane (slice_index state.draws lane + 1) 0 (omega (arith, within, is.draws))

drawn_value : (run : ℕ) (old new : LogState) → new.segments ≡ old.segments → new.draws ≡ old.draws → new.primaries ≡ old.primaries
    → HasDrawn run old → HasDrawn run new
drawn_value run old new segments draws primaries is = record {
  draws = ap (λ (numbers : List ℕ). length numbers) draws ∙ is.draws;
  primaries = ap (λ (all : List (Option Primary)). length all) primaries ∙ is.primaries;
  entries = λ i.
      subst (λ (lists : List (List Entry)). AllByRecursion (IsDrawn run new.draws) (slice_index_or lists i [])) (sym segments)
      (subst (λ (numbers : List ℕ). AllByRecursion (IsDrawn run numbers) (slice_index_or old.segments i [])) (sym draws) (is.entries i));
}

drawn_after : (shape : Shape) (run : ℕ) (state : LogState) (item : Item) → IsItem shape item → HasDrawn run state → HasDrawn run (after shape run state item)
drawn_after shape run state (Append lane shard replica bytes) item is =
    let next = drawn state lane shard.0 replica.0 in
    drawn_entry run shape.replicas shard.0 replica.0 (next_entry run state lane bytes) next (standing_of shape.replicas state shard.0)
    (omega (arith, drawn_next run state lane shard.0 replica.0 item.0 is)) (drawn_drawn run state lane shard.0 replica.0 is)
drawn_after shape run state (Read lane shard replica position) item is = is
drawn_after shape run state (Subscribe lane shard replica from count) item is = is
drawn_after shape run state (Trim lane position) item is = drawn_value run state (after shape run state (Trim lane position)) refl refl refl is
drawn_after shape run state (Add lane shard) item is = drawn_value run state (after shape run state (Add lane shard)) refl refl refl is
drawn_after shape run state (Finalise lane shard) item is =
    cond_both (knows shape.replicas state shard.0) (with_value state (FinaliseValue shard)) state (HasDrawn run)
    (λ _. drawn_value run state (with_value state (FinaliseValue shard)) refl refl refl is) (λ _. is)
drawn_after shape run state (Ask lane) item is = is
drawn_after shape run state (Fault lane fault) item is = is

pub drawn_state_after : (shape : Shape) (run : ℕ) (state : LogState) (items : List Item) → AllByRecursion (IsItem shape) items
    → HasDrawn run state → HasDrawn run (state_after shape run state items)
drawn_state_after shape run state [] all is = is
drawn_state_after shape run state (item ∷ items) all is =
    drawn_state_after shape run (after shape run state item) items all.1 (drawn_after shape run state item all.0 is)

-- Each number of a lane is below the one that it draws next.
pub before_next : (run : ℕ) (state : LogState) (lane i : ℕ) → HasDrawn run state
    → AllByRecursion (IsBefore lane (number_of_draw run (slice_index state.draws lane))) (slice_index_or state.segments i [])
before_next run state lane i is =
    all_weaker (IsDrawn run state.draws) (IsBefore lane (number_of_draw run (slice_index state.draws lane))) (slice_index_or state.segments i [])
    (λ entry was own. subst (λ (n : ℕ). entry.number.0 < number_of_draw run (slice_index state.draws n)) own was) (is.entries i)
