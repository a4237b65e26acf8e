-- What holds of each state that items lead to: the covered length of each segment is the number of its entries.
use Rattle.std.proofs.Common.{◌≡◌, ◌≢◌, ℕ, ◌+◌, ◌*◌, ◌<◌, List, [], ◌∷◌, ◌++◌, length, replicate, Option, None, Some, refl, sym, ap, ◌∙◌, subst, ⊎_elim, arith}
use Rattle.std.specs.Prelude.{slice_index, slice_index_or, slice_set}
use Rattle.std.specs.List.{All, AllByRecursion}
use Rattle.std.specs.Option.{option_map}
use Rattle.std.proofs.lemmas.Bool.{cond_both}
use Rattle.std.proofs.lemmas.List.{length-replicate, length-set, get_or-set_other}
use Rattle.std.proofs.lemmas.List.Elements.{All-nil, All-push, All-map, All-weaker}
use Rattle.std.proofs.lemmas.Nat.{same_from_place}
use Rattle.log_base.specs.ClusterShape.{Shape}
use Rattle.log_base.specs.declared.numbers.Position.{Position}
use Rattle.log_base.specs.declared.numbers.Shard.{Shard}
use Rattle.record_frame.specs.declared.entries.Entry.{Entry}
use Rattle.record_frame.specs.declared.values.Value.{Value}
use Rattle.record_frame.specs.declared.values.Value.TheVariants.{Cut, Add as AddValue, Finalise as FinaliseValue, Trim as TrimValue}
use Rattle.log_model.specs.Chain.{ChainState, ShardState, Standing, Live, Frozen, no_values, is_added, raised, apply, chain_of, covered_of, covered_length, cut_shard, freeze, state_in}
use Rattle.log_model.specs.Lookup.{segment_index}
use Rattle.log_model.proofs.Appending.{chain_of-append}
use Rattle.log_model.proofs.Coverage.{cut_state, cut_state-shard}
use Rattle.log_model.proofs.Growth.{freeze-shard, freeze-covered, length-raised}
use Rattle.log_model.proofs.Spelled.{covered_of-add, covered_of-finalise}
use Rattle.log_model.proofs.States.{state_in-map}
use Rattle.command_frame.specs.declared.items.Item.{Item}
use Rattle.command_frame.specs.declared.items.Item.TheVariants.{Append, Read, Subscribe, Trim, Add, Finalise, Ask, Fault}
use Rattle.command_frame.specs.Items.{IsItem}
use Rattle.plain_log.specs.Coherent.{IsOfShape, IsCoherent, IsCoherentState}
use Rattle.plain_log.specs.Log.{LogState, start, after, after_entry, state_after, knows, found_standing, standing_of, drawn, stored, with_value, next_entry, cut_of}
use Rattle.plain_log.proofs.Lists.{cut_of-at, replicate-nil, grown-at, raised-at, found_state}
use Rattle.plain_log.proofs.Standings.{covered_length-still, live_or_not, state_of_standing}

pub coherent_start : (shape : Shape) → IsCoherent shape no_values (start shape).segments
coherent_start shape = record {
  shards = All-nil (IsOfShape shape);
  segments_of_all = length-replicate (shape.shards * shape.replicas) [];
  covered = λ shard segment there within.
      ap (λ (entries : List Entry). length entries) (sym (replicate-nil (shape.shards * shape.replicas) (segment_index shape.replicas shard segment)));
}

-- an addition
pub coherent_added : (shape : Shape) (chain : ChainState) (segments : List (List Entry)) (shard : Shard) → shard.0 < shape.shards
    → IsCoherent shape chain segments → IsCoherent shape (apply shape.replicas chain (AddValue shard)) segments
coherent_added shape chain segments shard there is =
    let new : ShardState = record { shard = shard.0; standing = Live; covered = replicate shape.replicas 0 } in
    let more : ChainState = record chain { shards = chain.shards ++ new ∷ [] } in
    record {
      shards = cond_both (is_added chain shard.0) chain more (λ (c : ChainState). All (IsOfShape shape) c.shards) (λ _. is.shards)
          (λ _. All-push (IsOfShape shape) chain.shards new is.shards (there, length-replicate shape.replicas 0));
      segments_of_all = is.segments_of_all;
      covered = λ s j in_range within. covered_of-add shape.replicas chain shard.0 s j ∙ is.covered s j in_range within;
    }

-- a finalisation
pub coherent_finalised : (shape : Shape) (chain : ChainState) (segments : List (List Entry)) (shard : Shard)
    → IsCoherent shape chain segments → IsCoherent shape (apply shape.replicas chain (FinaliseValue shard)) segments
coherent_finalised shape chain segments shard is = record {
  shards = All-map (IsOfShape shape) (freeze shard.0) chain.shards
      (All-weaker (IsOfShape shape) (λ (state : ShardState). IsOfShape shape (freeze shard.0 state))
      (λ state of. (subst (λ (n : ℕ). n < shape.shards) (sym (freeze-shard shard.0 state)) of.0, ap length (freeze-covered shard.0 state) ∙ of.1))
      chain.shards is.shards);
  segments_of_all = is.segments_of_all;
  covered = λ s j in_range within. covered_of-finalise shape.replicas chain shard.0 s j ∙ is.covered s j in_range within;
}

-- a trim
pub coherent_trimmed : (shape : Shape) (chain : ChainState) (segments : List (List Entry)) (position : Position)
    → IsCoherent shape chain segments → IsCoherent shape (apply shape.replicas chain (TrimValue position)) segments
coherent_trimmed shape chain segments position is =
    record { shards = is.shards; segments_of_all = is.segments_of_all; covered = is.covered }

of_shape-cut : (shape : Shape) (lengths : List ℕ) (standing : Standing) (state : ShardState)
    → IsOfShape shape state → IsOfShape shape (cut_shard shape.replicas lengths standing state)
of_shape-cut shape lengths Live state of = (of.0, length-raised lengths _ state.covered ∙ of.1)
of_shape-cut shape lengths Frozen state of = of

-- the lists where one gets an entry
abbrev pub grown : ℕ → List (List Entry) → ℕ → ℕ → Entry → List (List Entry)
grown replicas segments shard segment entry =
    slice_set segments (segment_index replicas shard segment) (slice_index_or segments (segment_index replicas shard segment) [] ++ entry ∷ [])

-- the chain after the cut of these lists
abbrev pub cut_chain : ℕ → ChainState → List (List Entry) → ChainState
cut_chain replicas chain segments = apply replicas chain (Cut (cut_of segments))

-- In a live shard the cut raises each length to that of its list.
covered_live : (shape : Shape) (chain : ChainState) (segments : List (List Entry)) (shard segment : ℕ) (entry : Entry)
    → IsCoherent shape chain segments → (s j : ℕ) → found_standing (state_in chain.shards s) ≡ Some Live → s < shape.shards → j < shape.replicas
    → covered_of (cut_chain shape.replicas chain (grown shape.replicas segments shard segment entry)) s j
    ≡ length (slice_index_or (grown shape.replicas segments shard segment entry) (segment_index shape.replicas s j) [])
covered_live shape chain segments shard segment entry is s j live in_range within =
    let replicas = shape.replicas in
    let lists = grown replicas segments shard segment entry in
    let lengths = (cut_of lists).length in
    let there = state_of_standing (state_in chain.shards s) Live live in
    let state : ShardState = there.0 in
    let facts = found_state (IsOfShape shape) chain.shards s state is.shards there.1 in
    let size : length state.covered ≡ replicas = facts.0.1 in
    let after : covered_of (cut_chain replicas chain lists) s j ≡ slice_index (raised lengths (state.shard * replicas) state.covered) j =
    ap (λ (found : Option ShardState). covered_length found j) (state_in-map (cut_state replicas lengths) (cut_state-shard replicas lengths) chain.shards s)
    ∙ ap (λ (found : Option ShardState). covered_length (option_map (cut_state replicas lengths) found) j) there.1
    ∙ ap (λ (standing : Standing). slice_index (cut_shard replicas lengths standing state).covered j) there.2 in
    let raise = raised-at lengths (state.shard * replicas) state.covered j (omega (arith, size)) in
    let before : slice_index state.covered j ≡ length (slice_index_or segments (segment_index replicas s j) []) =
    ap (λ (found : Option ShardState). covered_length found j) (sym there.1) ∙ is.covered s j in_range within in
    let told : slice_index lengths (state.shard * replicas + j) ≡ length (slice_index_or lists (segment_index replicas s j) []) =
    cut_of-at lists (state.shard * replicas + j) ∙ ap (λ (n : ℕ). length (slice_index_or lists (segment_index replicas n j) [])) facts.1 in
    let longer = grown-at segments (segment_index replicas shard segment) (segment_index replicas s j) entry in
    omega (arith, after, raise, before, told, longer)

-- In a shard that was not added or is finalised nothing changes.
covered_still : (shape : Shape) (chain : ChainState) (segments : List (List Entry)) (shard segment : ℕ) (entry : Entry)
    → IsCoherent shape chain segments → found_standing (state_in chain.shards shard) ≡ Some Live → segment < shape.replicas
    → (s j : ℕ) → found_standing (state_in chain.shards s) ≢ Some Live → s < shape.shards → j < shape.replicas
    → covered_of (cut_chain shape.replicas chain (grown shape.replicas segments shard segment entry)) s j
    ≡ length (slice_index_or (grown shape.replicas segments shard segment entry) (segment_index shape.replicas s j) [])
covered_still shape chain segments shard segment entry is live place s j still in_range within =
    let replicas = shape.replicas in
    let lists = grown replicas segments shard segment entry in
    let lengths = (cut_of lists).length in
    let after : covered_of (cut_chain replicas chain lists) s j ≡ covered_of chain s j =
    ap (λ (found : Option ShardState). covered_length found j) (state_in-map (cut_state replicas lengths) (cut_state-shard replicas lengths) chain.shards s)
    ∙ covered_length-still replicas lengths (state_in chain.shards s) j still in
    let other : s ≢ shard = λ same.
    still (ap (λ (n : ℕ). found_standing (state_in chain.shards n)) same ∙ live) in
    let apart : segment_index replicas s j ≢ segment_index replicas shard segment = λ same.
    other (same_from_place s j shard segment replicas within place same).0 in
    let kept = ap (λ (entries : List Entry). length entries)
    (get_or-set_other segments (segment_index replicas shard segment) (segment_index replicas s j) (slice_index_or segments (segment_index replicas shard segment) [] ++ entry ∷ []) [] apart) in
    omega (arith, after, kept, is.covered s j in_range within)

-- an entry and its cut
pub coherent_grown : (shape : Shape) (chain : ChainState) (segments : List (List Entry)) (shard segment : ℕ) (entry : Entry)
    → found_standing (state_in chain.shards shard) ≡ Some Live → segment < shape.replicas → IsCoherent shape chain segments
    → IsCoherent shape (cut_chain shape.replicas chain (grown shape.replicas segments shard segment entry)) (grown shape.replicas segments shard segment entry)
coherent_grown shape chain segments shard segment entry live place is =
    let lists = grown shape.replicas segments shard segment entry in
    let lengths = (cut_of lists).length in
    record {
      shards = All-map (IsOfShape shape) (cut_state shape.replicas lengths) chain.shards
          (All-weaker (IsOfShape shape) (λ (state : ShardState). IsOfShape shape (cut_state shape.replicas lengths state))
          (λ state of. of_shape-cut shape lengths state.standing state of) chain.shards is.shards);
      segments_of_all = length-set segments _ _ ∙ is.segments_of_all;
      covered = λ s j in_range within.
          ⊎_elim
          (λ there. covered_live shape chain segments shard segment entry is s j there in_range within)
          (λ still. covered_still shape chain segments shard segment entry is live place s j still in_range within)
          (live_or_not (found_standing (state_in chain.shards s)));
    }

pub coherent_stored : (shape : Shape) (state : LogState) (shard segment : ℕ) (entry : Entry) → standing_of shape.replicas state shard ≡ Some Live
    → segment < shape.replicas → IsCoherentState shape state → IsCoherentState shape (stored shape.replicas state shard segment entry)
coherent_stored shape state shard segment entry live place is =
    let replicas = shape.replicas in
    let lists = grown replicas state.segments shard segment entry in
    subst (λ (chain : ChainState). IsCoherent shape chain lists) (sym (chain_of-append replicas state.values (Cut (cut_of lists) ∷ [])))
    (coherent_grown shape (chain_of replicas state.values) state.segments shard segment entry live place is)

-- an entry that comes to a shard of any standing
coherent_entry : (shape : Shape) (state : LogState) (shard segment : ℕ) (entry : Entry) (standing : Option Standing)
    → standing_of shape.replicas state shard ≡ standing → segment < shape.replicas → IsCoherentState shape state
    → IsCoherentState shape (after_entry shape.replicas state shard segment entry standing)
coherent_entry shape state shard segment entry None has place is = is
coherent_entry shape state shard segment entry (Some Frozen) has place is = is
coherent_entry shape state shard segment entry (Some Live) has place is = coherent_stored shape state shard segment entry has place is

-- a value that joins, where its chain is coherent
coherent_value : (shape : Shape) (state : LogState) (value : Value)
    → IsCoherent shape (apply shape.replicas (chain_of shape.replicas state.values) value) state.segments → IsCoherentState shape (with_value state value)
coherent_value shape state value is =
    subst (λ (chain : ChainState). IsCoherent shape chain state.segments) (sym (chain_of-append shape.replicas state.values (value ∷ []))) is

-- Each item of the config keeps it.
pub coherent_after : (shape : Shape) (run : ℕ) (state : LogState) (item : Item) → IsItem shape item
    → IsCoherentState shape state → IsCoherentState shape (after shape run state item)
coherent_after shape run state (Append lane shard replica bytes) item is =
    coherent_entry shape (drawn state lane shard.0 replica.0) shard.0 replica.0 (next_entry run state lane bytes) (standing_of shape.replicas state shard.0) refl item.2 is
coherent_after shape run state (Read lane shard replica position) item is = is
coherent_after shape run state (Subscribe lane shard replica from count) item is = is
coherent_after shape run state (Trim lane position) item is =
    coherent_value shape state (TrimValue position) (coherent_trimmed shape (chain_of shape.replicas state.values) state.segments position is)
coherent_after shape run state (Add lane shard) item is =
    coherent_value shape state (AddValue shard) (coherent_added shape (chain_of shape.replicas state.values) state.segments shard item.1 is)
coherent_after shape run state (Finalise lane shard) item is =
    cond_both (knows shape.replicas state shard.0) (with_value state (FinaliseValue shard)) state (IsCoherentState shape)
    (λ _. coherent_value shape state (FinaliseValue shard) (coherent_finalised shape (chain_of shape.replicas state.values) state.segments shard is))
    (λ _. is)
coherent_after shape run state (Ask lane) item is = is
coherent_after shape run state (Fault lane fault) item is = is

pub coherent_state_after : (shape : Shape) (run : ℕ) (state : LogState) (items : List Item) → AllByRecursion (IsItem shape) items
    → IsCoherentState shape state → IsCoherentState shape (state_after shape run state items)
coherent_state_after shape run state [] all is = is
coherent_state_after shape run state (item ∷ items) all is =
    coherent_state_after shape run (after shape run state item) items all.1 (coherent_after shape run state item all.0 is)
