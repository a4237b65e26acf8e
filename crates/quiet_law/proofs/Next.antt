-- Which value is decided next: the cut of all lists where an entry was stored, else the one value that is wished.
use Rattle.std.proofs.Common.{◌≡◌, ◌≢◌, ◌+◌, ◌<◌, ℕ, true, not, ◌&&◌, [], ◌∷◌, ◌++◌, length, length-append, Some, None, refl, ap, arith, ◌∙◌}
use Rattle.std.specs.Prelude.{nat_le}
use Rattle.std.proofs.lemmas.Bool.{and_from, cond-false, le-leb}
use Rattle.std.proofs.lemmas.List.{get_or-set_same}
use Rattle.std.proofs.lemmas.Nat.{mul-add-lt}
use Rattle.log_base.specs.ClusterShape.{InRange, Shape}
use Rattle.log_model.specs.Chain.{ChainState, Live, apply, chain_of, covered_of}
use Rattle.log_model.specs.Lookup.{segment_index}
use Rattle.log_model.proofs.Appending.{chain_of-append}
use Rattle.paxos_model.specs.Leader.{slot_limit}
use Rattle.paxos_model.specs.Learner.{Wish, cut_wish, is_left, left_wishes, wish_of}
use Rattle.paxos_model.specs.Values.{same_value}
use Rattle.paxos_model.proofs.Same.{same_value-refl}
use Rattle.record_frame.specs.declared.entries.Entry.{Entry}
use Rattle.record_frame.specs.declared.values.Value.{Value}
use Rattle.record_frame.specs.declared.values.Value.TheVariants.{Cut}
use Rattle.plain_log.specs.Coherent.{IsCoherentState}
use Rattle.plain_log.specs.Log.{LogState, cut_of, entries_of, standing_of, stored, with_value}
use Rattle.plain_log.proofs.Coherent.{coherent_stored}
use Rattle.quiet_model.specs.Deciding.{IsNextDecision, wishing}
use Rattle.quiet_model.specs.Settled.{AreLists, ListsOf, all_lengths}
use Rattle.quiet_law.specs.Matching.{AreListsOf, agreed_in}
use Rattle.quiet_law.proofs.Covering.{covers_nothing, cut_is_wished, no_cut_wish}
use Rattle.quiet_law.proofs.Segments.{lengths_are_cut}

no_wishes_left : (slot : ℕ) (value : Value) → left_wishes [] slot value ≡ []
unfolding left_wishes
no_wishes_left slot value = refl

-- the decision of a wish leaves it not
decided_wish : (slot : ℕ) (value : Value) → left_wishes (record { value = value; from = slot } ∷ []) slot value ≡ []
unfolding left_wishes
decided_wish slot value =
    let wish : Wish = record { value = value; from = slot } in
    let same : (same_value value value && nat_le slot slot) ≡ true = and_from (same_value value value) (nat_le slot slot) (same_value-refl value) (le-leb slot slot (omega arith)) in
    cond-false (is_left slot value wish) (wish ∷ []) [] (ap not same)

module _ (config : Shape) (range : InRange config) (ballot : ℕ) (lists : ListsOf) (sizes : AreLists config lists) where
  -- nothing is wished once all lists are covered
  nothing_more : (state : LogState) → AreListsOf config state lists → IsCoherentState config state → cut_wish config.replicas state.values (all_lengths config lists) ≡ None
  nothing_more state same is =
      ap (cut_wish config.replicas state.values) (lengths_are_cut config range state lists sizes same is.segments_of_all)
      ∙ no_cut_wish config.replicas state.values (cut_of state.segments) (covers_nothing config state.values state.segments is)

  -- a value that is wished is decided, and then nothing is
  pub wish_next : (state : LogState) (value : Value) → AreListsOf config state lists → IsCoherentState config (with_value state value) → length state.values < slot_limit
      → IsNextDecision config (wishing (agreed_in ballot state) value) lists value
  wish_next state value same is few = record {
    few = few;
    wished = refl;
    last =
        ap (wish_of config.replicas (state.values ++ value ∷ []) (all_lengths config lists)) (decided_wish (length state.values) value)
        ∙ nothing_more (with_value state value) same is;
  }

  module _ (state : LogState) (shard segment : ℕ) (entry : Entry) (in_range : shard < config.shards) (within : segment < config.replicas)
      (live : standing_of config.replicas state shard ≡ Some Live) (is : IsCoherentState config state) where
    abbrev longer : LogState
    longer = stored config.replicas state shard segment entry

    -- the list of the segment has one entry more
    one_more : length (entries_of config.replicas longer shard segment) ≡ length (entries_of config.replicas state shard segment) + 1
    one_more =
        let index = segment_index config.replicas shard segment in
        let inside : index < length state.segments = omega (arith, is.segments_of_all, mul-add-lt shard config.replicas segment config.shards in_range within) in
        let entries = entries_of config.replicas state shard segment in
        omega (arith, ap length (get_or-set_same state.segments index (entries ++ entry ∷ []) [] inside), length-append entries (entry ∷ []))

    covers_one : covered_of (apply config.replicas (chain_of config.replicas state.values) (Cut (cut_of longer.segments))) shard segment
        ≢ covered_of (chain_of config.replicas state.values) shard segment
    covers_one same =
        let later = (coherent_stored config state shard segment entry live within is).covered shard segment in_range within in
        let chain = ap (λ (c : ChainState). covered_of c shard segment) (chain_of-append config.replicas state.values (Cut (cut_of longer.segments) ∷ [])) in
        omega (arith, same, later, chain, is.covered shard segment in_range within, one_more)

    -- the cut of all lists is decided, and then nothing is
    pub cut_next : AreListsOf config longer lists → length state.values < slot_limit
        → IsNextDecision config (agreed_in ballot state) lists (Cut (cut_of longer.segments))
    cut_next same few =
        let is_next = coherent_stored config state shard segment entry live within is in
        let told = lengths_are_cut config range longer lists sizes same is_next.segments_of_all in
        record {
          few = few;
          wished =
              ap (cut_wish config.replicas state.values) told
              ∙ cut_is_wished config.replicas state.values (cut_of longer.segments) shard segment covers_one;
          last =
              ap (wish_of config.replicas longer.values (all_lengths config lists)) (no_wishes_left (length state.values) (Cut (cut_of longer.segments)))
              ∙ nothing_more longer same is_next;
        }
