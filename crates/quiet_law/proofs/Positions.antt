-- How far the log reaches: each entry that is stored takes one position, and so the log has no more positions than values.
use Rattle.std.proofs.Common.{◌≡◌, ◌+◌, ◌<◌, ◌≤◌, ℕ, [], ◌∷◌, length, length-append, List, Option, Some, None, refl, ap, ⊎_elim, arith, ◌∙◌}
use Rattle.std.specs.Prelude.{slice_index_or}
use Rattle.std.proofs.lemmas.Bool.{cases_lt, cond_both}
use Rattle.std.proofs.lemmas.Option.{slice_get-get_or}
use Rattle.log_base.specs.ClusterShape.{Shape}
use Rattle.log_base.specs.declared.numbers.Place.{Place}
use Rattle.record_frame.specs.declared.entries.Entry.{Entry}
use Rattle.record_frame.specs.declared.values.Value.{Value}
use Rattle.record_frame.specs.declared.values.Value.TheVariants.{Cut, Add as AddValue, Finalise as FinaliseValue, Trim as TrimValue}
use Rattle.log_model.specs.Chain.{ChainState, Standing, Live, Frozen, chain_of, covered_by}
use Rattle.log_model.specs.Places.{place_at}
use Rattle.log_model.specs.Spelling.{spell}
use Rattle.log_model.proofs.Appending.{chain_of-append, end-apply, end-chain_of}
use Rattle.log_model.proofs.Spelled.{one_position}
use Rattle.command_frame.specs.declared.items.Item.{Item}
use Rattle.command_frame.specs.declared.items.Item.TheVariants.{Append, Read, Subscribe, Trim, Add, Finalise, Ask, Fault}
use Rattle.command_frame.specs.Items.{IsItem}
use Rattle.plain_log.specs.Coherent.{IsCoherentState}
use Rattle.plain_log.specs.Log.{LogState, after, after_entry, cut_of, drawn, entries_of, knows, next_entry, standing_of, stored, with_value}
use Rattle.plain_log.proofs.Answering.{only_newest}
use Rattle.quiet_law.specs.Matching.{Reaches}

-- an entry that is stored takes one position
end-stored : (config : Shape) (state : LogState) (s j : ℕ) (entry : Entry) → s < config.shards → j < config.replicas → standing_of config.replicas state s ≡ Some Live
    → IsCoherentState config state
    → (chain_of config.replicas (stored config.replicas state s j entry).values).end ≤ (chain_of config.replicas state.values).end + 1
end-stored config state s j entry a b live is =
    let replicas = config.replicas in
    let before = spell replicas state.values in
    let next = stored replicas state s j entry in
    let places = spell replicas next.values in
    let default : Place = place_at 0 0 0 in
    let own : Place = place_at s j (length (entries_of replicas state s j)) in
    ⊎_elim
    (λ more.
    let first = slice_get-get_or places (length before) default (omega (arith, more)) in
    let second = slice_get-get_or places (length before + 1) default more in
    let first_own = only_newest config state s j entry a b live is (slice_index_or places (length before) default) (length before) (omega arith) first in
    let second_own = only_newest config state s j entry a b live is (slice_index_or places (length before + 1) default) (length before + 1) (omega arith) second in
    let same = one_position replicas next.values own (length before) (length before + 1) (first ∙ ap Some first_own) (second ∙ ap Some second_own) in
    absurd (omega (arith, same)))
    (λ few. omega (arith, few, end-chain_of replicas state.values, end-chain_of replicas next.values))
    (cases_lt (length before + 1) (length places))

-- a value that covers nothing takes none
reaches_value : (replicas : ℕ) (state : LogState) (value : Value) → covered_by replicas (chain_of replicas state.values) value ≡ [] → Reaches replicas state
    → Reaches replicas (with_value state value)
reaches_value replicas state value none reaches =
    let chain = chain_of replicas state.values in
    omega (
      arith,
      reaches,
      ap (λ (next : ChainState). next.end) (chain_of-append replicas state.values (value ∷ [])),
      end-apply replicas chain value,
      ap (λ (places : List Place). length places) none,
      length-append state.values (value ∷ []),
    )

reaches_entry : (config : Shape) (state : LogState) (s j : ℕ) (entry : Entry) (standing : Option Standing) → standing_of config.replicas state s ≡ standing
    → s < config.shards → j < config.replicas → IsCoherentState config state → Reaches config.replicas state
    → Reaches config.replicas (after_entry config.replicas state s j entry standing)
reaches_entry config state s j entry None has a b is reaches = reaches
reaches_entry config state s j entry (Some Frozen) has a b is reaches = reaches
reaches_entry config state s j entry (Some Live) has a b is reaches =
    omega (
      arith,
      reaches,
      end-stored config state s j entry a b has is,
      length-append state.values (Cut (cut_of (stored config.replicas state s j entry).segments) ∷ []),
    )

pub reaches_after : (config : Shape) (run : ℕ) (state : LogState) (item : Item) → IsItem config item → IsCoherentState config state → Reaches config.replicas state
    → Reaches config.replicas (after config run state item)
reaches_after config run state (Append lane shard replica bytes) item is reaches =
    reaches_entry config (drawn state lane shard.0 replica.0) shard.0 replica.0 (next_entry run state lane bytes) (standing_of config.replicas state shard.0) refl
    item.1 item.2 is reaches
reaches_after config run state (Read lane shard replica position) item is reaches = reaches
reaches_after config run state (Subscribe lane shard replica from count) item is reaches = reaches
reaches_after config run state (Trim lane position) item is reaches = reaches_value config.replicas state (TrimValue position) refl reaches
reaches_after config run state (Add lane shard) item is reaches = reaches_value config.replicas state (AddValue shard) refl reaches
reaches_after config run state (Finalise lane shard) item is reaches =
    cond_both (knows config.replicas state shard.0) (with_value state (FinaliseValue shard)) state (Reaches config.replicas)
    (λ _. reaches_value config.replicas state (FinaliseValue shard) refl reaches) (λ _. reaches)
reaches_after config run state (Ask lane) item is reaches = reaches
reaches_after config run state (Fault lane fault) item is reaches = reaches
