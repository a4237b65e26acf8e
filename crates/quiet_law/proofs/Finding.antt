-- What a replica answers to a read where its lists are the log's: what the log answers, or that another shard has the position.
use Rattle.std.proofs.Common.{◌≡◌, ◌≢◌, ◌<◌, ◌≤◌, ℕ, ◌==◌, List, [], length, Option, Some, None, refl, sym, ap, ⊎_elim, arith, eq-eqb, ◌∙◌}
use Rattle.std.specs.Prelude.{nat_lt, option_and_then, slice_get, slice_index_or}
use Rattle.std.proofs.lemmas.Bool.{cases_lt, cond-false, cond-true, le-ltb, lt-ltb, ne_eqb}
use Rattle.std.proofs.lemmas.List.Elements.{Contains-get_or}
use Rattle.std.proofs.lemmas.Option.{get_or_from_slice_get, slice_get-get_or, slice_get_past}
use Rattle.log_base.specs.ClusterShape.{Shape}
use Rattle.log_base.specs.declared.numbers.Place.{Place}
use Rattle.log_base.specs.declared.numbers.Position.{Position}
use Rattle.record_frame.specs.declared.entries.Entry.{Entry}
use Rattle.log_model.specs.Chain.{chain_of}
use Rattle.log_model.specs.Lookup.{entry_at_place, segment_index}
use Rattle.log_model.specs.Places.{place_at}
use Rattle.log_model.specs.Reading.{ReadAnswer, Elsewhere, Trimmed, read, read_entry, read_place}
use Rattle.log_model.specs.Spelling.{spell}
use Rattle.log_model.specs.Storage.{knowledge_of, list_in}
use Rattle.log_model.proofs.Appending.{end-chain_of}
use Rattle.log_model.proofs.Spelled.{spelled_where_covered}
use Rattle.reply_frame.specs.declared.replies.Reply.{Elsewhere as OtherShard, Found, Trimmed as GivenUp}
use Rattle.node_model.specs.StorageNode.{member_of}
use Rattle.node_model.specs.StorageRow.{read_reply}
use Rattle.plain_log.specs.Coherent.{IsCoherentState}
use Rattle.plain_log.specs.Log.{LogState, entries_of, read_in}
use Rattle.plain_log.proofs.Answering.{covered_in_range, read_past_end, read_where_stands, spelled_entry}

-- the entry of a place stands at its offset in the list of its segment
in_its_list : (segments : List (List Entry)) (index offset : ℕ) (entry : Entry)
    → option_and_then (λ (entries : List Entry). slice_get entries offset) (slice_get segments index) ≡ Some entry
    → slice_get (slice_index_or segments index []) offset ≡ Some entry
in_its_list segments index offset entry stands = found (slice_get segments index) refl stands
  where
    found : (list : Option (List Entry)) → slice_get segments index ≡ list → option_and_then (λ (entries : List Entry). slice_get entries offset) list ≡ Some entry
        → slice_get (slice_index_or segments index []) offset ≡ Some entry
    found None is has = absurd (cc)
    found (Some entries) is has = ap (λ (held : List Entry). slice_get held offset) (get_or_from_slice_get segments index entries [] is) ∙ has

-- where a position is: given up, past the end, or that of a place with an entry
pub data Standing (config : Shape) (state : LogState) (position : Position) : Type 0 where
  Given_up : position.0 < (chain_of config.replicas state.values).mark → Standing config state position
  Past : (chain_of config.replicas state.values).mark ≤ position.0 → (chain_of config.replicas state.values).end ≤ position.0 → Standing config state position
  Stands : (place : Place) (entry : Entry) → (chain_of config.replicas state.values).mark ≤ position.0
      → slice_get (spell config.replicas state.values) position.0 ≡ Some place
      → place.shard.0 < config.shards → place.segment.0 < config.replicas
      → slice_get (entries_of config.replicas state place.shard.0 place.segment.0) place.offset ≡ Some entry
      → read_in config.replicas state position ≡ Found position entry → Standing config state position

module _ (config : Shape) (state : LogState) (position : Position) (is : IsCoherentState config state) where
  stands : (chain_of config.replicas state.values).mark ≤ position.0 → position.0 < (chain_of config.replicas state.values).end → Standing config state position
  stands marked before =
      let replicas = config.replicas in
      let places = spell replicas state.values in
      let inside : position.0 < length places = omega (arith, before, end-chain_of replicas state.values) in
      let place : Place = slice_index_or places position.0 (place_at 0 0 0) in
      let at : slice_get places position.0 ≡ Some place = slice_get-get_or places position.0 (place_at 0 0 0) inside in
      let spelled = Contains-get_or places position.0 (place_at 0 0 0) inside in
      let found = spelled_entry config state place is spelled in
      let below = (spelled_where_covered replicas state.values place.shard.0 place.segment.0 place.offset).0 spelled in
      let place_is = covered_in_range config (chain_of replicas state.values) state.segments place.shard.0 place.segment.0 is (omega (arith, below)) in
      let there = ap (λ (at : Option Place). option_and_then (entry_at_place replicas state.segments) at) at ∙ found.1 in
      Stands place found.0 marked at place_is.0 place_is.1
      (in_its_list state.segments (segment_index replicas place.shard.0 place.segment.0) place.offset found.0 found.1)
      (read_where_stands config state position found.0 marked before there)

  pub standing : Standing config state position
  standing =
      ⊎_elim
      (λ below. Given_up below)
      (λ marked.
      ⊎_elim
      (λ before. stands marked before)
      (λ past. Past marked past)
      (cases_lt position.0 (chain_of config.replicas state.values).end))
      (cases_lt position.0 (chain_of config.replicas state.values).mark)

  module _ (shard replica : ℕ) (lists : List (List Entry)) where
    abbrev answer : ReadAnswer
    answer = read (member_of config shard replica) lists (knowledge_of (member_of config shard replica) state.values) position.0

    -- a position that is not given up is looked for by its place
    by_place : (chain_of config.replicas state.values).mark ≤ position.0 → (place : Option Place) → slice_get (spell config.replicas state.values) position.0 ≡ place
        → answer ≡ read_place (member_of config shard replica) lists (chain_of config.replicas state.values).end place
    unfolding read
    by_place marked place at =
        cond-false (nat_lt position.0 (chain_of config.replicas state.values).mark) (Trimmed (chain_of config.replicas state.values).mark) _
        (le-ltb position.0 (chain_of config.replicas state.values).mark marked)
        ∙ ap (read_place (member_of config shard replica) lists (chain_of config.replicas state.values).end) at

    pub given_up : position.0 < (chain_of config.replicas state.values).mark → read_reply position.0 answer ≡ read_in config.replicas state position
    unfolding read
    given_up below =
        let mark = (chain_of config.replicas state.values).mark in
        ap (read_reply position.0) (cond-true (nat_lt position.0 mark) (Trimmed mark) _ (lt-ltb position.0 mark below))
        ∙ sym (cond-true (nat_lt position.0 mark) (GivenUp (record { 0 = mark })) _ (lt-ltb position.0 mark below))

    pub past_end : (chain_of config.replicas state.values).mark ≤ position.0 → (chain_of config.replicas state.values).end ≤ position.0
        → read_reply position.0 answer ≡ read_in config.replicas state position
    past_end marked past =
        let none : slice_get (spell config.replicas state.values) position.0 ≡ None =
        slice_get_past (spell config.replicas state.values) position.0 (omega (arith, past, end-chain_of config.replicas state.values)) in
        ap (read_reply position.0) (by_place marked None none) ∙ sym (read_past_end config.replicas state position past)

    module _ (place : Place) (entry : Entry) (marked : (chain_of config.replicas state.values).mark ≤ position.0)
        (at : slice_get (spell config.replicas state.values) position.0 ≡ Some place) where
      pub found_here : place.shard.0 ≡ shard → list_in lists place.segment.0 ≡ entries_of config.replicas state place.shard.0 place.segment.0
          → slice_get (entries_of config.replicas state place.shard.0 place.segment.0) place.offset ≡ Some entry
          → read_reply position.0 answer ≡ Found position entry
      found_here own held has =
          let end = (chain_of config.replicas state.values).end in
          ap (read_reply position.0)
          (by_place marked (Some place) at
          ∙ cond-true (place.shard.0 == shard) (read_entry end (slice_get (list_in lists place.segment.0) place.offset)) (Elsewhere place.shard.0) (eq-eqb place.shard.0 shard own)
          ∙ ap (λ (list : List Entry). read_entry end (slice_get list place.offset)) held
          ∙ ap (read_entry end) has)

      pub elsewhere : place.shard.0 ≢ shard → read_reply position.0 answer ≡ OtherShard place.shard
      elsewhere other =
          let end = (chain_of config.replicas state.values).end in
          ap (read_reply position.0)
          (by_place marked (Some place) at
          ∙ cond-false (place.shard.0 == shard) (read_entry end (slice_get (list_in lists place.segment.0) place.offset)) (Elsewhere place.shard.0) (ne_eqb place.shard.0 shard other))
