-- What is so of each state of the log: it is so at the start, and each item keeps it.
use Rattle.std.proofs.Common.{◌≡◌, ◌+◌, ◌*◌, ◌<◌, ◌≤◌, ℕ, zero, suc, List, [], ◌∷◌, ◌++◌, length, length-append, replicate, Option, Some, None, sym, ap, subst, ⊎_elim, arith, ◌∙◌}
use Rattle.std.specs.Prelude.{slice_index, slice_index_or, slice_set}
use Rattle.std.specs.List.{AllByRecursion}
use Rattle.std.proofs.lemmas.Bool.{cases_eq, cases_lt, cond_both}
use Rattle.std.proofs.lemmas.List.{get_or-set_other, get_or-set_same, length-replicate, length-set, set_past}
use Rattle.log_base.specs.ClusterShape.{Shape}
use Rattle.record_frame.specs.declared.entries.Entry.{Entry}
use Rattle.log_model.specs.Chain.{Standing, Live, Frozen}
use Rattle.log_model.specs.Lookup.{segment_index}
use Rattle.command_frame.specs.declared.items.Item.{Item}
use Rattle.command_frame.specs.declared.items.Item.TheVariants.{Append, Read, Subscribe, Trim, Add, Finalise, Ask, Fault}
use Rattle.command_frame.specs.Items.{IsItem}
use Rattle.record_frame.specs.declared.values.Value.{Value}
use Rattle.record_frame.specs.declared.values.Value.TheVariants.{Cut, Add as AddValue, Finalise as FinaliseValue, Trim as TrimValue}
use Rattle.plain_log.specs.Log.{LogState, Primary, after, after_entry, cut_of, drawn, entries_of, knows, next_entry, primary_of, standing_of, start, stored, with_value}
use Rattle.plain_log.proofs.Coherent.{coherent_after, coherent_start}
use Rattle.plain_log.proofs.Lists.{replicate-nil}
use Rattle.quiet_law.specs.Matching.{IsDrawn, IsInOrder, IsOfCluster}
use Rattle.quiet_law.proofs.Positions.{reaches_after}

-- no lane has a last append at first
no_primary : (config : Shape) (count lane : ℕ) → IsOfCluster config (slice_index_or (replicate count (let none : Option Primary = None in none)) lane None)
no_primary config zero lane = tt
no_primary config (suc count) zero = tt
no_primary config (suc count) (suc lane) = no_primary config count lane

pub in_order_start : (config : Shape) (run : ℕ) → IsInOrder config run (start config)
in_order_start config run = record {
  coherent = coherent_start config;
  lanes = length-replicate {A = ℕ} 64 0;
  drawn = λ index. subst (AllByRecursion (IsDrawn run (start config))) (sym (replicate-nil (config.shards * config.replicas) index)) tt;
  few = λ index. let none = ap (λ (entries : List Entry). length entries) (replicate-nil (config.shards * config.replicas) index) in omega (arith, none);
  reaches = omega arith;
  last = no_primary config 64;
}

-- what is so of a state but for its covered lengths
record IsNumbered (config : Shape) (run : ℕ) (state : LogState) : Type 0 where
  lanes : length state.draws ≡ 64
  drawn : (index : ℕ) → AllByRecursion (IsDrawn run state) (slice_index_or state.segments index [])
  few : (index : ℕ) → length (slice_index_or state.segments index []) ≤ length state.values
  last : (lane : ℕ) → IsOfCluster config (primary_of state lane)

-- what is so of each element of a list and of a new one is so of each once the new one stands in the list
set_holds : {A : Type 0} (P : A → Type 0) (none : A) (list : List A) (at : ℕ) (new : A) → ((index : ℕ) → P (slice_index_or list index none)) → P new → (index : ℕ)
    → P (slice_index_or (slice_set list at new) index none)
set_holds P none [] at new old holds index = old index
set_holds P none (first ∷ list) zero new old holds zero = holds
set_holds P none (first ∷ list) zero new old holds (suc index) = old (suc index)
set_holds P none (first ∷ list) (suc at) new old holds zero = old zero
set_holds P none (first ∷ list) (suc at) new old holds (suc index) = set_holds P none list at new (λ n. old (suc n)) holds index

-- ---- draws

raised_draw : (draws : List ℕ) (lane other : ℕ) → slice_index draws other ≤ slice_index (slice_set draws lane (slice_index draws lane + 1)) other
raised_draw draws lane other =
    ⊎_elim
    (λ within.
    ⊎_elim
    (λ same.
    let here = get_or-set_same draws lane (slice_index draws lane + 1) 0 within in
    let moved = ap (λ (n : ℕ). slice_index (slice_set draws lane (slice_index draws lane + 1)) n) same in
    let old = ap (λ (n : ℕ). slice_index draws n) same in
    omega (arith, here, moved, old))
    (λ differ. let kept = get_or-set_other draws lane other (slice_index draws lane + 1) 0 differ in omega (arith, kept))
    (cases_eq other lane))
    (λ past. let kept = ap (λ (ds : List ℕ). slice_index ds other) (set_past draws lane (slice_index draws lane + 1) past) in omega (arith, kept))
    (cases_lt lane (length draws))

still_drawn : (run : ℕ) (old new : LogState) → ((lane : ℕ) → slice_index old.draws lane ≤ slice_index new.draws lane) → (entries : List Entry)
    → AllByRecursion (IsDrawn run old) entries → AllByRecursion (IsDrawn run new) entries
still_drawn run old new more [] all = tt
still_drawn run old new more (entry ∷ entries) all =
    (let least = more entry.client.0 in let here = all.0 in omega arith, still_drawn run old new more entries all.1)

all_push : (P : Entry → Type 0) (entries : List Entry) (entry : Entry) → AllByRecursion P entries → P entry → AllByRecursion P (entries ++ entry ∷ [])
all_push P [] entry all holds = (holds, tt)
all_push P (first ∷ entries) entry all holds = (all.0, all_push P entries entry all.1 holds)

numbered_drawn : (config : Shape) (run : ℕ) (state : LogState) (lane shard replica : ℕ) → shard < config.shards → replica < config.replicas
    → IsNumbered config run state → IsNumbered config run (drawn state lane shard replica)
numbered_drawn config run state lane shard replica a b is = record {
  lanes = length-set state.draws lane _ ∙ is.lanes;
  drawn = λ index.
      still_drawn run state (drawn state lane shard replica) (raised_draw state.draws lane) (slice_index_or state.segments index []) (is.drawn index);
  few = is.few;
  last = set_holds (IsOfCluster config) None state.primaries lane (Some (record { shard = shard; replica = replica })) is.last (a, b);
}

numbered_value : (config : Shape) (run : ℕ) (state : LogState) (value : Value) → IsNumbered config run state → IsNumbered config run (with_value state value)
numbered_value config run state value is = record {
  lanes = is.lanes;
  drawn = is.drawn;
  few = λ index. let few = is.few index in omega (arith, length-append state.values (value ∷ []));
  last = is.last;
}

-- ---- an entry

module _ (config : Shape) (run : ℕ) (state : LogState) (shard segment : ℕ) (entry : Entry) (is : IsNumbered config run state) (new : IsDrawn run state entry) where
  abbrev at_place : ℕ
  at_place = segment_index config.replicas shard segment

  abbrev longer_list : List Entry
  longer_list = entries_of config.replicas state shard segment ++ entry ∷ []

  abbrev grown_lists : List (List Entry)
  grown_lists = slice_set state.segments at_place longer_list

  -- each list is as it was, or it has the entry at its end
  each_list : (P : List Entry → Type 0) → ((index : ℕ) → P (slice_index_or state.segments index [])) → P longer_list → (index : ℕ) → P (slice_index_or grown_lists index [])
  each_list P old more index = set_holds P [] state.segments at_place longer_list old more index

  numbered_stored : IsNumbered config run (stored config.replicas state shard segment entry)
  numbered_stored =
      let values = length-append state.values (Cut (cut_of grown_lists) ∷ []) in
      record {
        lanes = is.lanes;
        drawn = each_list (AllByRecursion (IsDrawn run state)) is.drawn (all_push (IsDrawn run state) (entries_of config.replicas state shard segment) entry (is.drawn at_place) new);
        few = each_list (λ (entries : List Entry). length entries ≤ length (state.values ++ Cut (cut_of grown_lists) ∷ []))
            (λ index. let few = is.few index in omega (arith, values))
            (let few = is.few at_place in omega (arith, values, length-append (entries_of config.replicas state shard segment) (entry ∷ [])));
        last = is.last;
      }

numbered_entry : (config : Shape) (run : ℕ) (state : LogState) (shard segment : ℕ) (entry : Entry) (standing : Option Standing) → IsNumbered config run state
    → IsDrawn run state entry → IsNumbered config run (after_entry config.replicas state shard segment entry standing)
numbered_entry config run state shard segment entry None is new = is
numbered_entry config run state shard segment entry (Some Frozen) is new = is
numbered_entry config run state shard segment entry (Some Live) is new = numbered_stored config run state shard segment entry is new

-- the entry that a lane appends has the number that it drew
new_drawn : (run : ℕ) (state : LogState) (lane shard replica : ℕ) (bytes : List ℕ) → lane < length state.draws
    → IsDrawn run (drawn state lane shard replica) (next_entry run state lane bytes)
new_drawn run state lane shard replica bytes within =
    let here = get_or-set_same state.draws lane (slice_index state.draws lane + 1) 0 within in omega (arith, here)

numbered_after : (config : Shape) (run : ℕ) (state : LogState) (item : Item) → IsItem config item → IsNumbered config run state
    → IsNumbered config run (after config run state item)
numbered_after config run state (Append lane shard replica bytes) item is =
    let lanes = is.lanes in let in_range = item.0 in
    numbered_entry config run (drawn state lane shard.0 replica.0) shard.0 replica.0 (next_entry run state lane bytes) (standing_of config.replicas state shard.0)
    (numbered_drawn config run state lane shard.0 replica.0 item.1 item.2 is) (new_drawn run state lane shard.0 replica.0 bytes (omega arith))
numbered_after config run state (Read lane shard replica position) item is = is
numbered_after config run state (Subscribe lane shard replica from count) item is = is
numbered_after config run state (Trim lane position) item is = numbered_value config run state (TrimValue position) is
numbered_after config run state (Add lane shard) item is = numbered_value config run state (AddValue shard) is
numbered_after config run state (Finalise lane shard) item is =
    cond_both (knows config.replicas state shard.0) (with_value state (FinaliseValue shard)) state (IsNumbered config run)
    (λ _. numbered_value config run state (FinaliseValue shard) is) (λ _. is)
numbered_after config run state (Ask lane) item is = is
numbered_after config run state (Fault lane fault) item is = is

pub in_order_after : (config : Shape) (run : ℕ) (state : LogState) (item : Item) → IsItem config item → IsInOrder config run state
    → IsInOrder config run (after config run state item)
in_order_after config run state item fits is =
    let later = numbered_after config run state item fits (record { lanes = is.lanes; drawn = is.drawn; few = is.few; last = is.last }) in
    record {
      coherent = coherent_after config run state item fits is.coherent;
      lanes = later.lanes;
      drawn = later.drawn;
      few = later.few;
      reaches = reaches_after config run state item fits is.coherent is.reaches;
      last = later.last;
    }
